-- The text of a store in pieces, as contracts see it.
use Rattle.std.specs.Prelude.{ℕ, List}

-- The piece in hand, and the text that is still to come.
pub record Pieces : Type 0 where
  pub piece : List ℕ
  pub rest : List ℕ
