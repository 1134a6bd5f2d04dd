-- Refusals of which the first counts.
use Rattle.std.specs.Prelude.{Option}
use Rattle.std.specs.Option.{option_or}

-- the first refusal, or else the later one
abbrev pub or_later : {A : Type 0} → Option A → Option A → Option A
or_later first later = option_or first later
