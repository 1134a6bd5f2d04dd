use Rattle.std.proofs.Common.{ℕ, ◌+◌, ◌-◌, ◌/◌, ◌<◌, length, ap, arith}
use Rattle.std.proofs.lemmas.List.{get_or_default}
use Rattle.request_match.specs.inside.Index.{Entry}
use Rattle.request_match.proofs.starts.first_within.Goals as goal

pub loop-low-preserved-then-entries-middle : goal.loop-low-preserved-then-entries-middle
loop-low-preserved-then-entries-middle c =
    let es = c.args.entries.now in
    let m : ℕ = c.loop-low.low + (c.loop-low.high - c.loop-low.low) / 2 in
    let here : m < length es = omega (arith, c.loop-low-test.true, c.loop-low.invariant.inside) in
    record {
      bound = omega (arith, here);
      inside = c.loop-low.invariant.inside;
      below = λ k d small.
          let up = c.requires.ordered k m d (omega (arith, small)) here in
          let same = ap (λ (e : Entry). e.0) (get_or_default es m d (0, 0) here) in
          omega (arith, up, same, c.if-entries-middle.true);
      from = c.loop-low.invariant.from;
    }

pub loop-low-preserved : goal.loop-low-preserved
loop-low-preserved c =
    let es = c.args.entries.now in
    let m : ℕ = c.loop-low.low + (c.loop-low.high - c.loop-low.low) / 2 in
    let here : m < length es = omega (arith, c.loop-low-test.true, c.loop-low.invariant.inside) in
    record {
      bound = c.loop-low.invariant.bound;
      inside = omega (arith, here);
      below = c.loop-low.invariant.below;
      from = λ k d up small.
          let above = c.requires.ordered m k d up small in
          let same = ap (λ (e : Entry). e.0) (get_or_default es m d (0, 0) here) in
          omega (arith, above, same, c.if-entries-middle.false);
    }
