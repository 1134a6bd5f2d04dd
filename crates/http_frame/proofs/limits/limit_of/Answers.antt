use Rattle.std.proofs.Common.{arith, ap, length, ◌<◌, take}
use Rattle.http_frame.specs.Window.{line_feeds}
use Rattle.http_frame.proofs.WindowLemmas.{front_length, front_short}
use Rattle.http_frame.proofs.limits.limit_of.Goals as goal

pub returns-then-front-eq-MOST_BYTES : goal.returns-then-front-eq-MOST_BYTES
returns-then-front-eq-MOST_BYTES c =
    let front = front_length c.args.bytes.now in
    let lines = ap line_feeds c.front_of-front.ensures in (
      omega (arith, front.1, ap length c.front_of-front.ensures, c.if-front-eq-MOST_BYTES.true),
      omega (arith, lines, c.line_feeds.ensures, c.if-line_feeds-ge-MOST_LINES.false),
    )

pub returns-else-front-eq-MOST_BYTES : goal.returns-else-front-eq-MOST_BYTES
returns-else-front-eq-MOST_BYTES c =
    let front = front_length c.args.bytes.now in
    let short : length (take 65536 c.args.bytes.now) < 65536 =
    omega (arith, front.0, ap length c.front_of-front.ensures, c.if-front-eq-MOST_BYTES.false) in
    let all = front_short c.args.bytes.now short in (
      omega (arith, short, ap length all),
      omega (
        arith,
        ap line_feeds c.front_of-front.ensures,
        ap line_feeds all,
        c.line_feeds.ensures,
        c.if-line_feeds-ge-MOST_LINES.false,
      ),
    )
