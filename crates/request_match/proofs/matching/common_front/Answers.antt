use Rattle.std.proofs.Common.{arith}
use Rattle.request_match.proofs.MatchLemmas.{common_right}
use Rattle.request_match.proofs.matching.common_front.Goals as goal

pub returns-else-i-b : goal.returns-else-i-b
returns-else-i-b c =
    omega (
      arith,
      c.loop-i.invariant.same,
      common_right c.args.a.now c.args.b.now c.loop-i.i (omega (arith, c.if-i-b.false)),
    )
