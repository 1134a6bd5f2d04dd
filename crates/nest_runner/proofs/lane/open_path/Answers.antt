use Rattle.std.proofs.Common.{◌≡◌, ◌∙◌, ◌++◌, ◌∷◌, List, subst, sym, ap, rules}
use Rattle.std.specs.Vec.Iter.{into_iter_items}
use Rattle.shell_state.specs.declared.spec.DirSpec.{DirSpec}
use Rattle.nest_spec.specs.Nests.{AllFit}
use Rattle.shell_workers.specs.declared.stage.Stage.{Stage}
use Rattle.shell_workers.specs.Stages.{AllFresh}
use Rattle.nest_runner.specs.Lanes.{AllOwn, Linked, specs_of}
use Rattle.nest_runner.proofs.Chains.{AllFresh-snoc, AllOwn-snoc, Linked-snoc, specs-snoc}
use Rattle.nest_runner.proofs.lane.open_path.Goals as goal

pub loop-spec-preserved : goal.loop-spec-preserved
loop-spec-preserved c =
    let i = c.loop-spec.invariant in
    let h = c.args.horizon in
    let is = sym c.in_ok-push.ensures.items in
    let stage = c.in_ok-stage.ensures in
    let items : into_iter_items c.loop-spec.spec-iterator ≡ c.in-Some.spec ∷ into_iter_items c.next.new.self = search
    rules in
    let fit : AllFit h (c.in-Some.spec ∷ into_iter_items c.next.new.self) = subst (AllFit h) items i.5 in
    let spec : c.in_ok-stage.stage.cell.opening.spec ≡ c.in-Some.spec = ap (λ s. s.spec) stage.state in (
      subst AllFresh is (AllFresh-snoc _ _ i.0 stage.fresh),
      stage.next.0,
      stage.next.1,
      subst (λ l. Linked c.args.first.channel l c.in_ok-stage.next.channel) is
          (Linked-snoc _ _ _ _ (subst (λ k. Linked c.args.first.channel c.loop-spec.stages.items k)
          (sym stage.linked.0) i.3) stage.linked.1),
      subst (AllOwn h) is (AllOwn-snoc h _ _ i.4
          (stage.fresh.feeds, stage.fresh.drains, ap (λ s. s.horizon) stage.state)),
      fit.2,
      ap (λ (l : List Stage). specs_of l ++ into_iter_items c.next.new.self) (sym is)
          ∙ specs-snoc _ _ _
          ∙ ap (λ (x : DirSpec). specs_of c.loop-spec.stages.items ++ (x ∷ into_iter_items c.next.new.self)) spec
          ∙ ap (λ (l : List DirSpec). specs_of c.loop-spec.stages.items ++ l) (sym items)
          ∙ i.6,
    )
