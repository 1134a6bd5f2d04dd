use Rattle.std.proofs.Common.{◌≡◌, ◌+◌, ◌-◌, ◌≤◌, length, take, drop, subst, arith}
use Rattle.std.proofs.lemmas.Bool.Decides.{Decides-eqb}
use Rattle.std.proofs.lemmas.Slice.Eq.{slice_eq-Decides}
use Rattle.request_match.proofs.LineLemmas.{block_past}
use Rattle.request_match.proofs.matching.common_blocks.Goals as goal

pub blocks-2-preserved : goal.blocks-2-preserved
blocks-2-preserved c =
    let a = c.args.a.now in
    let b = c.args.b.now in
    let i = c.blocks-2.i in
    let count : i + 32 - i ≡ 32 = omega arith in
    let fits : i + 32 ≤ length a = omega (arith, c.min-most.ensures, c.blocks-2-test.true) in
    let block = (slice_eq-Decides Decides-eqb (take (i + 32 - i) (drop i a)) (take (i + 32 - i) (drop i b)) c.eq.result
    c.eq.ensures).0 c.if-eq.true in
    let same : take 32 (drop i a) ≡ take 32 (drop i b) =
    subst (λ n. take n (drop i a) ≡ take n (drop i b)) count block in
    record {
      left = fits;
      right = omega (arith, c.min-most.ensures, c.blocks-2-test.true);
      same = omega (arith, c.blocks-2.invariant.same, block_past a b i 32 fits same);
    }
