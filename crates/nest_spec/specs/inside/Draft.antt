-- For proofs alone: a nest whose words are being read.
use Rattle.std.specs.Prelude.{ℕ, List, map, string_bytes, String}
use Rattle.std.specs.declared.alloc.Global.{Global}
use Rattle.std.specs.Borrow.{Bor}
use Rattle.nest_spec.specs.Words.{Text, NestPlan}
use Rattle.nest_spec.specs.declared.nest_words.Draft.{Draft}

-- The plan of what was read so far.
abbrev pub draft_plan : Draft → NestPlan
draft_plan d = record { shells = d.shells.items; traces = d.traces.items; logs = d.logs.items }

-- A place, and the words from it on as lists of bytes.
abbrev pub place_and_words : ℕ × Bor (List (String Global)) → ℕ × List Text
place_and_words r = (r.0, map string_bytes r.1.now)
