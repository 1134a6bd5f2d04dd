use Rattle.std.proofs.Common.{ℕ, IfSome, Option, subst}
use Rattle.sender_merge.proofs.Inletting.{furthest-more, furthest-of, IsLeastOf}
use Rattle.sender_merge.proofs.merger.furthest_behind.Goals as goal

pub loop-place-preserved : goal.loop-place-preserved
loop-place-preserved c = furthest-more c.loop-place.place c.args.inlets.now c.index-inlets-place.result
    c.loop-place.least c.further_behind-least.result c.loop-place-test.true c.index-inlets-place.is
    c.loop-place.invariant
    c.further_behind-least.ensures.some c.further_behind-least.ensures.none

pub returns-clause-furthest : goal.returns-clause-furthest
returns-clause-furthest c =
    let place = c.loop-place.place in
    let inlets = c.args.inlets.now in
    furthest-of place inlets c.in_ok-least.field-0 c.loop-place-test.false
    (subst (λ (o : Option (ℕ × ℕ)). IfSome o (λ (p : ℕ × ℕ). IsLeastOf place inlets p)) c.in_ok-least.was
    c.loop-place.invariant.some)
