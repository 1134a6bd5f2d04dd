-- What reading the front of a schedule's text has come to.
use Rattle.std.specs.Prelude.{ℕ, List, [], ◌++◌, IsSome}
use Rattle.text_base.specs.Lines.{lines_of}
use Rattle.packet_record.specs.Gathered.{Gathered, Awaits}

-- what the lines gave, and what is kept of a line that has begun
pub record PartRead : Type 0 where
  pub gathered : Gathered
  pub kept : List ℕ

-- of a whole text only this rest is still to come
abbrev pub IsLeft : List ℕ → List ℕ → PartRead → Type 0
IsLeft whole rest read = Awaits (lines_of whole) (lines_of (read.kept ++ rest)) read.gathered

-- a line was refused, or memory was wanting
abbrev pub IsRefused : PartRead → Type 0
IsRefused read = IsSome read.gathered.refused

-- This text was read: whatever follows it, only that is still to come.
abbrev pub HasRead : List ℕ → PartRead → Type 0
HasRead text read = (rest : List ℕ) → IsLeft (text ++ rest) rest read

-- This text was read to its end: nothing is still to come.
abbrev pub HasReadAll : List ℕ → PartRead → Type 0
HasReadAll text read = Awaits (lines_of text) [] read.gathered
