-- An index as contracts see it.
use Rattle.std.specs.Prelude.{ℕ, List, Option}
use Rattle.record_store.specs.declared.record.Record.{Record}

-- The records of the store that the index was made of, and the port that requests are asked at, if they are asked at
-- one.
pub record Indexed : Type 0 where
  pub records : List Record
  pub port : Option ℕ
