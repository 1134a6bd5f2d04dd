use Rattle.std.proofs.Common.{◌≡◌, ◌∙◌, ◌++◌, ◌∷◌, List, subst, sym, ap, rules}
use Rattle.std.specs.Vec.Iter.{into_iter_items}
use Rattle.packet_record.specs.Streams.{Stream}
use Rattle.shell_state.specs.declared.spec.DirSpec.{DirSpec}
use Rattle.shell_state.specs.States.{State}
use Rattle.nest_spec.specs.Passed.{HavePassed}
use Rattle.shell_workers.specs.declared.stage.Stage.{Stage}
use Rattle.shell_workers.specs.Stages.{AllDone}
use Rattle.nest_runner.specs.Lanes.{AllOwn, Linked, specs_of}
use Rattle.nest_runner.proofs.Carrying.{does, does-snoc, passed_on, passed-snoc, passed_on-snoc}
use Rattle.nest_runner.proofs.lane.close_stages.Goals as goal

pub loop-stage-preserved : goal.loop-stage-preserved
loop-stage-preserved c =
    let i = c.loop-stage.invariant in
    let h = c.args.head.horizon in
    let rest = into_iter_items c.next.new.self in
    let packets = c.args.head.flow.packets in
    let state = c.close_stage-state.result.0 in
    let closed = c.close_stage-state.ensures in
    let is = sym c.in_ok-push.ensures.items in
    let items : into_iter_items c.loop-stage.stage-iterator ≡ c.in-Some.stage ∷ into_iter_items c.next.new.self = search
    rules in
    let done : AllDone (c.in-Some.stage ∷ rest) = subst AllDone items i.0 in
    let linked : Linked c.loop-stage.to.channel (c.in-Some.stage ∷ rest) c.args.last.channel =
    subst (λ l. Linked c.loop-stage.to.channel l c.args.last.channel) items i.1 in
    let own : AllOwn h (c.in-Some.stage ∷ rest) = subst (AllOwn h) items i.2 in (
      done.1,
      subst (λ k. Linked k rest c.args.last.channel) (sym closed.channel) linked.1,
      own.1,
      subst (λ (l : List State). HavePassed h (does l) packets l) is
          (passed-snoc h packets c.loop-stage.states.items state i.3 (closed.horizon ∙ own.0.2)
          (closed.fed ∙ i.4) closed.taken.0),
      ap (λ (f : Stream). f.packets) closed.taken.1
          ∙ sym (passed_on-snoc packets c.loop-stage.states.items state)
          ∙ ap (passed_on packets) is,
      ap (λ (l : List State). does l ++ specs_of rest) (sym is)
          ∙ does-snoc c.loop-stage.states.items state (specs_of rest)
          ∙ ap (λ (x : DirSpec). does c.loop-stage.states.items ++ (x ∷ specs_of rest)) closed.spec
          ∙ ap (λ (l : List Stage). does c.loop-stage.states.items ++ specs_of l) (sym items)
          ∙ i.5,
    )
