use Rattle.std.proofs.Common.{arith, sym}
use Rattle.std.proofs.lemmas.List.{take_all, length-take-le}
use Rattle.http_frame.proofs.limits.front_of.Goals as goal

pub slice_bounds-result-end : goal.slice_bounds-result-end
slice_bounds-result-end c = omega (
  arith,
  c.if-bytes-gt-MOST_BYTES.true,
  length-take-le 65536 c.args.bytes.now (omega (arith, c.if-bytes-gt-MOST_BYTES.true)),
)

pub returns-else-bytes-gt-MOST_BYTES : goal.returns-else-bytes-gt-MOST_BYTES
returns-else-bytes-gt-MOST_BYTES c =
    sym (take_all 65536 c.args.bytes.now (omega (arith, c.if-bytes-gt-MOST_BYTES.false)))
