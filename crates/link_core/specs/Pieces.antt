-- A log that is made piece by piece, as its callers see it.
use Rattle.std.specs.Prelude.{List}
use Rattle.shell_log.specs.declared.entry.Entry.{Entry}

-- the piece in hand, and what is still to come
pub record Pieces : Type 0 where
  pub piece : List Entry
  pub rest : List Entry
