use Rattle.std.proofs.Common.{◌≡◌, ◌-◌, ◌++◌, Result, Ok, Err, OnOk, length, take, true, false, ap, sym, subst, ◌∙◌}
use Rattle.std.proofs.Common.{arith, length-append}
use Rattle.std.proofs.lemmas.List.{length-take}
use Rattle.std.specs.Result.{is_err}
use Rattle.text_base.specs.Lines.{lines_of}
use Rattle.text_base.specs.Lines.{is_one_line}
use Rattle.text_base.proofs.TextLemmas.{is_one_line-append}
use Rattle.packet_record.specs.Gathered.{Awaits}
use Rattle.packet_record.specs.PartsRead.{IsLeft}
use Rattle.packet_record.proofs.PartLemmas.{awaits_any}
use Rattle.packet_record.proofs.LongLines.{one_line_take, enough_kept}
use Rattle.packet_record.proofs.parser.ScheduleParser.keep.Goals as goal

no_error : {A B P : Type 0} (result : Result A B) → false ≡ is_err result → OnOk result P → P
no_error (Ok a) e p = p
no_error (Err b) e p = absurd cc

pub invariant_of-self-else-is_err : goal.invariant_of-self-else-is_err
invariant_of-self-else-is_err c =
    let kept = c.self.inside.kept in
    let part = c.args.part.now in
    let added = no_error c.append.result (sym c.if-is_err.false ∙ c.is_err.ensures.value) c.append.ensures.ok in
    let front = c.kept_front-front.ensures ∙ ap (λ n. take (27 - n) part) c.len.ensures in
    let held = added ∙ ap (λ l. kept ++ l) front in
    let few = c.self.invariant.few in
    record {
      one_line = subst (λ t. is_one_line t ≡ true) (sym held)
          (is_one_line-append kept (take (27 - length kept) part) c.self.invariant.one_line
          (one_line_take (27 - length kept) part c.requires));
      few = omega (
        arith,
        few,
        ap length held,
        length-append kept (take (27 - length kept) part),
        length-take (27 - length kept) part,
      );
    }

pub returns-else-is_err-clause-left : goal.returns-else-is_err-clause-left
returns-else-is_err-clause-left c = λ whole rest left.
    let kept = c.self.inside.kept in
    let part = c.args.part.now in
    let inside = subst (IsLeft whole (part ++ rest)) (sym c.self.view_is) left in
    let added = no_error c.append.result (sym c.if-is_err.false ∙ c.is_err.ensures.value) c.append.ensures.ok in
    let front = c.kept_front-front.ensures ∙ ap (λ n. take (27 - n) part) c.len.ensures in
    subst (λ t. Awaits (lines_of whole) (lines_of (t ++ rest)) c.self.inside.rows)
    (sym (added ∙ ap (λ l. kept ++ l) front))
    (enough_kept (lines_of whole) kept part rest c.self.inside.rows c.self.invariant.one_line c.requires inside)

pub returns-then-is_refused-clause-left : goal.returns-then-is_refused-clause-left
returns-then-is_refused-clause-left c = λ whole rest left.
    let refused = sym c.is_refused.ensures ∙ c.if-is_refused.true in
    let inside = subst (IsLeft whole (c.args.part.now ++ rest)) (sym c.self.view_is) left in
    subst (IsLeft whole rest) c.self.view_is
    (awaits_any (lines_of whole) _ (lines_of (c.self.inside.kept ++ rest)) c.self.inside.rows refused inside)
