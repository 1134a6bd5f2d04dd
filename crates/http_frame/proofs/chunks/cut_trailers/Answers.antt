use Rattle.std.proofs.Common.{◌≡◌, ◌∙◌, ap, arith, inl, inr}
use Rattle.http_frame.specs.inside.Steps.{last_line as line_left, lacking}
use Rattle.http_frame.proofs.TrailerLemmas.{trailers_never, trailers_may}
use Rattle.http_frame.proofs.chunks.cut_trailers.Goals as goal

pub returns-then-bytes-more-gt-MOST_BYTES : goal.returns-then-bytes-more-gt-MOST_BYTES
returns-then-bytes-more-gt-MOST_BYTES c =
    let bytes = c.args.bytes.now in
    let lack : c.lack_of-more.result ≡ lacking (line_left bytes) = c.lack_of-more.ensures
    ∙ ap lacking c.last_line.ensures in
    trailers_never bytes c.requires.none (inl (omega (arith, ap (λ p. p.0) lack, c.if-bytes-more-gt-MOST_BYTES.true)))

pub returns-then-line_feeds-ends-gt-MOST_TRAILER_LINES : goal.returns-then-line_feeds-ends-gt-MOST_TRAILER_LINES
returns-then-line_feeds-ends-gt-MOST_TRAILER_LINES c =
    let bytes = c.args.bytes.now in
    let lack : c.lack_of-more.result ≡ lacking (line_left bytes) = c.lack_of-more.ensures
    ∙ ap lacking c.last_line.ensures in
    trailers_never bytes c.requires.none
    (inr (omega (arith, ap (λ p. p.1) lack, c.line_feeds.ensures, c.if-line_feeds-ends-gt-MOST_TRAILER_LINES.true)))

pub returns : goal.returns
returns c =
    let bytes = c.args.bytes.now in
    let lack : c.lack_of-more.result ≡ lacking (line_left bytes) = c.lack_of-more.ensures
    ∙ ap lacking c.last_line.ensures in
    trailers_may bytes c.requires.none c.requires.may
    (omega (arith, ap (λ p. p.0) lack, c.if-bytes-more-gt-MOST_BYTES.false))
    (omega (arith, ap (λ p. p.1) lack, c.line_feeds.ensures, c.if-line_feeds-ends-gt-MOST_TRAILER_LINES.false))
