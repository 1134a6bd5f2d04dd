use Rattle.std.proofs.Common.{arith}
use Rattle.request_match.proofs.MatchLemmas.{none_more, stripped_at, stripped_all}
use Rattle.request_match.proofs.matching.without_query.Goals as goal

pub returns-then-byte-eq63 : goal.returns-then-byte-eq63
returns-then-byte-eq63 c = stripped_at c.args.line.now c.loop-i.i c.loop-i-test.true c.loop-i.invariant
    c.if-byte-eq63.true

pub loop-i-preserved : goal.loop-i-preserved
loop-i-preserved c = none_more c.args.line.now c.loop-i.i c.loop-i.invariant c.if-byte-eq63.false

pub returns : goal.returns
returns c = stripped_all c.args.line.now c.loop-i.i (omega arith) c.loop-i.invariant
