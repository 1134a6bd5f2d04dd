use Rattle.std.proofs.Common.{◌≡◌, ◌+◌, subst, sym, arith, take, drop}
use Rattle.http_frame.specs.inside.Steps.{last_line as line_left}
use Rattle.http_frame.proofs.TrailerLemmas.{last_feed, last_other}
use Rattle.http_frame.proofs.chunks.last_line.Goals.{then-byte-eq10, else-byte-eq10}
use Rattle.http_frame.proofs.chunks.last_line.Goals as goal

pub loop-i-preserved : goal.loop-i-preserved
loop-i-preserved c =
    let bytes = c.args.bytes.now in
    let i = c.loop-i.i in
    elim c.if-byte-eq10.branch [
      | then-byte-eq10 w ↦ record {
        inside = omega (arith, w.start-is);
        same = subst (λ n. drop n (take (i + 1) bytes) ≡ line_left (take (i + 1) bytes)) (sym w.start-is)
            (last_feed bytes i c.loop-i-test.true w.if-byte-eq10.true);
      }
      | else-byte-eq10 w ↦ record {
        inside = omega (arith, w.start-is, c.loop-i.invariant.inside);
        same = subst (λ n. drop n (take (i + 1) bytes) ≡ line_left (take (i + 1) bytes)) (sym w.start-is)
            (last_other bytes i c.loop-i.start c.loop-i-test.true w.if-byte-eq10.false c.loop-i.invariant.inside
            c.loop-i.invariant.same);
      }
    ]
