-- For proofs alone: the ranges of what is printed.
use Rattle.std.specs.Prelude.{ℕ, ◌≤◌}
use Rattle.std.specs.Coded.{Unit-prop, le_prop}
use Rattle.command_report.specs.declared.report_form.ReportForm.{ReportForm}
use Rattle.command_report.specs.declared.report_form.ReportForm.TheVariants.{Sums, Series}

-- The bins of a series have 1 to 3,600,000 milliseconds.
abbrev pub IsForm : ReportForm → Type 0
IsForm (Sums form) = Unit {0}
IsForm (Series every) = (1 ≤ every) × (every ≤ 3600000)

-- This fact has one proof.
pub IsForm-prop : (form : ReportForm) → IsProp (IsForm form)
IsForm-prop (Sums form) = Unit-prop
IsForm-prop (Series every) = λ a b i. (le_prop a.0 b.0 i, le_prop a.1 b.1 i)
