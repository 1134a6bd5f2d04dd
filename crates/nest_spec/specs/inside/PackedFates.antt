-- For proofs alone: which fates 8 bytes can hold, and which marks give such fates.
use Rattle.std.specs.Prelude.{◌≤◌}
use Rattle.text_base.specs.declared.limits.TheConstants.{HOUR}
use Rattle.nest_spec.specs.declared.fate.Fate.{Fate}
use Rattle.nest_spec.specs.declared.fate.Fate.TheVariants as fates
use Rattle.nest_spec.specs.declared.mark.Mark.{Mark}
use Rattle.nest_spec.specs.declared.mark.Mark.TheVariants.{Drops, Leaves}

-- The shell of the fate, if it has one, is at most 8, and its moment, if it has one, at most an hour.
abbrev pub CanBePacked : Fate → Type 0
CanBePacked (fates.Departed moment) = moment ≤ HOUR
CanBePacked (fates.Dropped shell moment) = (shell ≤ 8) × (moment ≤ HOUR)
CanBePacked (fates.Inside shell) = shell ≤ 8
CanBePacked fates.Unsent = Unit {0}

-- The shell of the mark, if it has one, is at most 8.
abbrev pub HasNestShell : Mark → Type 0
HasNestShell (Drops shell) = shell ≤ 8
HasNestShell Leaves = Unit {0}
