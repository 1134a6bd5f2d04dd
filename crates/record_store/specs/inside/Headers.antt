-- For proofs alone: the range of a header's lengths.
use Rattle.std.specs.Prelude.{◌≤◌}
use Rattle.record_store.specs.declared.header.Header.{Header}
use Rattle.record_store.specs.Headers.{most_length}

-- Both lengths have at most eight digits.
abbrev pub IsShort : Header → Type 0
IsShort h = (h.request ≤ most_length) × (h.response ≤ most_length)
