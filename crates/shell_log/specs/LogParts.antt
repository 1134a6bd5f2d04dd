-- What reading the front of a log's text has come to.
use Rattle.std.specs.Prelude.{◌≡◌, ◌≢◌, ℕ, List, [], ◌++◌, length, Bool, true, false, Option}
use Rattle.std.specs.Prelude.{Some, MatchOption, fold}
use Rattle.shell_log.specs.declared.entry.Entry.{Entry}
use Rattle.shell_log.specs.declared.reading.LogError.{LogError}
use Rattle.shell_log.specs.declared.reading.LogError.TheVariants.{OutOfMemory}
use Rattle.shell_log.specs.Entries.{IsLog, moment_of}
use Rattle.shell_log.specs.LogText.{log_text}
use Rattle.shell_log.specs.Reading.{log_fault}

-- whether the first line was read, how many entries were, the moment of the last (0 at first), the first refusal, and
-- what is kept of a line that has begun
pub record LogPart : Type 0 where
  pub has_begun : Bool
  pub entries : ℕ
  pub last : ℕ
  pub refused : Option LogError
  pub kept : List ℕ

-- the moment of the last entry, or 0
abbrev pub last_moment : List Entry → ℕ
last_moment es = fold (λ moment e. moment_of e) 0 es

-- what was read before the line that has begun: nothing, or the first line and the lines of these entries
abbrev pub lines_before : Bool → List Entry → List ℕ
lines_before false es = []
lines_before true es = log_text es

-- Nothing is refused so far: a whole text is the lines of these entries, what is kept, and this rest.
pub record IsRead (whole rest : List ℕ) (es : List Entry) (p : LogPart) : Type 0 where
  pub log : IsLog es
  pub none : p.has_begun ≡ false → es ≡ []
  pub count : p.entries ≡ length es
  pub last : p.last ≡ last_moment es
  pub text : whole ≡ lines_before p.has_begun es ++ (p.kept ++ rest)

-- the text's first refusal is this one, unless memory is wanting
abbrev pub IsFault : List ℕ → LogError → Type 0
IsFault whole fault = fault ≢ OutOfMemory → log_fault whole ≡ Some fault

-- Of a whole text these entries were read, or its first refusal, and only this rest is still to come.
abbrev pub IsLeft : List ℕ → List ℕ → List Entry → LogPart → Type 0
IsLeft whole rest es p = MatchOption p.refused (IsRead whole rest es p) (IsFault whole)

abbrev pub refusing : LogError → LogPart → LogPart
refusing fault p = record p { refused = Some fault }
