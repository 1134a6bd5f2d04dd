use Rattle.std.proofs.Common.{◌≡◌, ◌∙◌, false, ap, subst, rules}
use Rattle.request_match.specs.inside.Compared.{IsAtMost}
use Rattle.request_match.specs.Match.{common}
use Rattle.request_match.proofs.DecideLemmas.{left_early}
use Rattle.request_match.proofs.matching.with_record.Goals as goal

pub returns-then-not-may_beat : goal.returns-then-not-may_beat
returns-then-not-may_beat c =
    let q = c.args.asked.now.request.now in
    let line = c.args.exchange.now.request.head.line in
    let e : c.may_beat.result ≡ false = search rules in
    left_early q c.args.asked.now.port c.args.exchange.now c.args.place c.args.found
    (subst (IsAtMost c.args.found) (ap (λ l. common l c.as_slice.result.now) c.as_slice-line.ensures
    ∙ ap (common line) c.as_slice.ensures) (c.may_beat.ensures e))
