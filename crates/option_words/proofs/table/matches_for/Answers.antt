use Rattle.std.proofs.Common.{◌≡◌, ◌∙◌, ap, sym, map, string_bytes, subst, inl, inr}
use Rattle.clap.specs.Words.{App, IsAmong, Kinds, app_of, fault_of, is_simple, is_simple_and_free, kind_of, matches_of}
use Rattle.clap.specs.Kinds.{HasKind}
use Rattle.option_words.specs.inside.ClapTable.{app_for}
use Rattle.option_words.specs.Values.{opt}
use Rattle.option_words.proofs.TableLemmas.{matched, unmatched, table_simple, table_free}
use Rattle.option_words.proofs.table.matches_for.Goals as goal

pub returns-in-Ok : goal.returns-in-Ok
returns-in-Ok c =
    let t = map opt c.args.table.now in
    let ws = map string_bytes c.args.words.now in
    let app : app_of c.in_ok-command.command ≡ app_for t = c.in_ok-command.ensures in
    matched t ws c.in-Ok.matches c.requires
    (ap (λ (a : App). fault_of a ws) (sym app) ∙ c.in-Ok.ensures.kinds (ap is_simple_and_free app ∙ table_free t))
    ((c.in-Ok.ensures.matches (ap is_simple app ∙ table_simple t)).0 ∙ ap (λ (a : App). matches_of a ws) app)

pub returns : goal.returns
returns c =
    let t = map opt c.args.table.now in
    let ws = map string_bytes c.args.words.now in
    let app : app_of c.in_ok-command.command ≡ app_for t = c.in_ok-command.ensures in
    let kinds : HasKind (fault_of (app_of c.in_ok-command.command) ws) c.in-Err.error =
    c.in-Err.ensures.kinds (ap is_simple_and_free app ∙ table_free t) in
    unmatched t ws c.requires (λ none. elim kinds as (λ _. ⊥) [
      | inl h ↦ c.in_default.not-OutOfMemory (c.kind.ensures ∙ h)
      | inr h ↦ subst (λ (ks : Kinds). IsAmong (kind_of c.in-Err.error) ks) (ap (λ (a : App). fault_of a ws) app
          ∙ none) h
    ])
