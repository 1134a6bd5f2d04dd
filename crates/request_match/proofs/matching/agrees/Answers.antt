use Rattle.std.proofs.Common.{◌≡◌, ◌∙◌, true, false, sym, ap, rules}
use Rattle.std.proofs.lemmas.Bool.Decides.{Decides-eqb}
use Rattle.std.proofs.lemmas.Slice.Eq.{slice_eq-Decides}
use Rattle.request_match.specs.Match.{stripped}
use Rattle.std.proofs.Math.Bool.{true≢false}
use Rattle.request_match.proofs.MatchLemmas.{refuse}
use Rattle.request_match.proofs.matching.agrees.Goals as goal

pub returns-then-not-fits_fields : goal.returns-then-not-fits_fields
returns-then-not-fits_fields c =
    let e : c.fits_fields.result ≡ false = search rules in
    refuse (λ a. true≢false (sym (c.fits_fields.ensures.1 (record { port = a.port; host = a.host; agent = a.agent }))
    ∙ e))

pub returns : goal.returns
returns c =
    let t : c.fits_fields.result ≡ true = search rules in
    let f = c.fits_fields.ensures.0 t in
    let mine = c.without_query.ensures ∙ ap stripped c.as_slice.ensures in
    let asked = c.without_query-2.ensures ∙ ap stripped c.as_slice-2.ensures in
    let d = slice_eq-Decides Decides-eqb c.without_query.result.now c.without_query-2.result.now c.eq.result
    c.eq.ensures in (
      λ e. record { port = f.port; host = f.host; agent = f.agent; line = sym mine ∙ d.0 e ∙ asked },
      λ a. d.1 (mine ∙ a.line ∙ sym asked),
    )
