-- For proofs alone: the shells of a direction as they were made.
use Rattle.std.specs.Prelude.{List, [], ◌∷◌}
use Rattle.shell_state.specs.declared.spec.DirSpec.{DirSpec}
use Rattle.shell_state.specs.Shells.{IsBuilt}

-- `IsBuilt` is true of each shell.
abbrev pub AreBuilt : List DirSpec → Type 0
AreBuilt [] = Unit {0}
AreBuilt (c ∷ specs) = IsBuilt c × AreBuilt specs
