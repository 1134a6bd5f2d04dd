-- What the shells of a direction do, and what holds of each.
use Rattle.std.specs.Prelude.{◌≤◌, List, [], ◌∷◌, IsSome, map}
use Rattle.shell_state.specs.declared.spec.DirSpec.{DirSpec}
use Rattle.shell_state.specs.Wholes.{IsLink}
use Rattle.nest_spec.specs.declared.shell.ShellDirection.{ShellDirection}

-- What each shell does.
abbrev pub specs_in : List ShellDirection → List DirSpec
specs_in shells = map (λ (s : ShellDirection). s.spec) shells

-- A shell's number is at most 8, and only a link has a name for its log.
pub record IsNestShell (s : ShellDirection) : Type 0 where
  pub few : s.number ≤ 8
  pub link : IsSome s.log → IsLink s.spec

-- So is each of these.
abbrev pub AreNestShells : List ShellDirection → Type 0
AreNestShells [] = Unit {0}
AreNestShells (s ∷ shells) = IsNestShell s × AreNestShells shells
