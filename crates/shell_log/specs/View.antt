-- A log as its callers see it.
use Rattle.std.specs.Prelude.{ℕ, List}
use Rattle.shell_log.specs.declared.entry.Entry.{Entry}

pub record LogView : Type 0 where
  pub entries : List Entry
  pub spare : ℕ
