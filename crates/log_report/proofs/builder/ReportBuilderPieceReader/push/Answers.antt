use Rattle.std.proofs.Common.{◌≡◌, ◌++◌, ◌∷◌, [], ℕ, List, Result, Ok, Err, OnOk, false, sym, subst, ◌∙◌}
use Rattle.std.proofs.Common.{append_assoc}
use Rattle.std.specs.Result.{is_err}
use Rattle.shell_log.proofs.PartLaws.{read_left}
use Rattle.log_report.specs.ReportBuilder.{IsSummed}
use Rattle.log_report.proofs.builder.ReportBuilderPieceReader.push.Goals as goal

no_error : {A B P : Type 0} (result : Result A B) → is_err result ≡ false → OnOk result P → P
no_error (Ok a) e p = p
no_error (Err b) e p = absurd cc

pub entries-preserved : goal.entries-preserved
entries-preserved c = λ whole rest given.
    let before = c.entries.invariant whole rest given in
    let entry = c.in-Some.entry in
    let going = c.in-Some.ensures.accepted in
    let read = c.in-Some.ensures.some whole rest before.0 before.1 in
    let added = no_error c.add.result (sym c.is_err.ensures.value ∙ c.if-is_err.false) c.add.ensures in (
      before.0 ++ entry ∷ [],
      read_left whole (c.in-Some.after.now ++ rest) (before.0 ++ entry ∷ []) c.next.new.self going read,
      λ same. added before.0 (before.2 (c.in-Some.ensures.stays going)),
    )

pub returns : goal.returns
returns c = λ text read rest.
    let piece = c.args.piece.now in
    let P : List ℕ → Type 0 = λ w. IsSummed w (piece ++ rest) c.args.self.now in
    let given = subst P (sym (append_assoc text piece rest)) (read (piece ++ rest)) in
    let before = c.entries.invariant ((text ++ piece) ++ rest) rest given in (
      before.0,
      c.in_default.ensures.none ((text ++ piece) ++ rest) rest before.0 before.1,
      λ going. before.2 (c.in_default.ensures.stays going),
    )
