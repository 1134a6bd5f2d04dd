use Rattle.std.proofs.Common.{◌≡◌, ◌∷◌, subst, sym, rules}
use Rattle.std.specs.Vec.Iter.{into_iter_items}
use Rattle.nest_spec.specs.Nests.{AllFit}
use Rattle.shell_workers.specs.Stages.{AllFresh}
use Rattle.nest_runner.proofs.Chains.{AllFresh-snoc}
use Rattle.thread_tests.proofs.runner.parts.open_path.Goals as goal

pub loop-spec-preserved : goal.loop-spec-preserved
loop-spec-preserved c =
    let i = c.loop-spec.invariant in
    let h = c.args.horizon in
    let is = sym c.in_ok-push.ensures.items in
    let stage = c.in_ok-stage.ensures in
    let items : into_iter_items c.loop-spec.spec-iterator ≡ c.in-Some.spec ∷ into_iter_items c.next.new.self = search
    rules in
    let fit : AllFit h (c.in-Some.spec ∷ into_iter_items c.next.new.self) = subst (AllFit h) items i.3 in (
      subst AllFresh is (AllFresh-snoc _ _ i.0 stage.fresh),
      stage.next.0,
      stage.next.1,
      fit.2,
    )
