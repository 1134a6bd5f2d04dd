use Rattle.std.proofs.Common.{◌≡◌, ◌<◌, length, ap, subst, rules, arith}
use Rattle.std.proofs.lemmas.Grind.{common_steps}
use Rattle.std.specs.Prelude.{List}
use Rattle.record_store.specs.declared.record.Record.{Record}
use Rattle.record_store.proofs.PrintLemmas.{left_some}
use Rattle.record_store.proofs.pieces.StorePieces.next.Goals.{then-not-self+in_ok-append, else-not-self}
use Rattle.record_store.proofs.pieces.StorePieces.next.Goals as goal

pub returns-in-Err-clause-err : goal.returns-in-Err-clause-err
returns-in-Err-clause-err c =
    let same : c.if-not-self.self-inside.records.now ≡ c.self.inside.records.now = elim c.if-not-self.branch [
      | then-not-self+in_ok-append w ↦ ap (λ s. s.records.now) w.self-inside-is
      | else-not-self w ↦ ap (λ s. s.records.now) w.self-inside-is
    ] in
    subst (λ p. 0 < length p.rest) c.self.view_is
    (left_some c.self.inside.begun c.self.inside.records.now
    (subst (λ (rs : List Record). 0 < length rs) same c.in-Err.ensures.err))

pub returns-in-Ok-clause-same : goal.returns-in-Ok-clause-same
returns-in-Ok-clause-same c = search rules

pub returns-in-Ok-clause-none : goal.returns-in-Ok-clause-none
returns-in-Ok-clause-none c = grind (arith, common_steps)
