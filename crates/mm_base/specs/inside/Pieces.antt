-- Beside Pieces, for proofs alone: one piece of a file, and a whole file, that a reader has read.
use Rattle.std.specs.Prelude.{◌≡◌, ◌≤◌, ℕ, List, Option, length}
use Rattle.mm_base.specs.Files.{Files, IfHeld, IsThere}
use Rattle.mm_base.specs.Pieces.{GoesOnBy, IsPiece}

-- The reader went from `old` to `new` by `read` bytes of the file from byte `at` on.
pub record PieceIsRead {R : Type 0} (has_read : List ℕ → R → Type 0) (told : Option Files) (name : List ℕ)
    (at read : ℕ) (old new : R) : Type 0 where
  pub bytes : List ℕ
  pub are : IsPiece told name at read bytes
  pub goes_on : GoesOnBy has_read bytes old new

-- The reader went from `old` to `new` by all bytes of the file.
pub record WholeIsRead {R : Type 0} (has_read : List ℕ → R → Type 0) (told : Option Files) (name : List ℕ)
    (old new : R) : Type 0 where
  pub bytes : List ℕ
  pub few : length bytes ≤ 67108864
  pub there : IsThere told name
  pub held : IfHeld told name (λ whole. bytes ≡ whole)
  pub goes_on : GoesOnBy has_read bytes old new
