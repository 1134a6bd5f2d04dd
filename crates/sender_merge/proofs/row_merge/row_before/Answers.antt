use Rattle.std.proofs.Common.{◌∙◌, drop, subst, sym}
use Rattle.sender_merge.specs.inside.RowMerges.{IsLate}
use Rattle.sender_merge.proofs.Rowing.{late_at, late_past}
use Rattle.sender_merge.proofs.row_merge.row_before.Goals as goal

pub returns-in_default-clause-none : goal.returns-in_default-clause-none
returns-in_default-clause-none c =
    late_past c.args.limit c.args.rows.now c.args.place (sym c.row_at.ensures ∙ c.in_default.is)

pub returns-in-Some-limit-clause-none : goal.returns-in-Some-limit-clause-none
returns-in-Some-limit-clause-none c =
    subst (λ limit. IsLate limit (drop c.args.place c.args.rows.now)) (sym c.in-Some-limit.is)
    (late_at c.in-Some-limit.moment c.args.place c.args.rows.now c.in-Some.row c.requires
    (sym c.row_at.ensures ∙ c.in-Some.is) c.if-row-moment.true)
