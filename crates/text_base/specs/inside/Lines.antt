-- Beside Lines, for proofs alone: the lines of a text, which is cut at each line feed. A rest after the last line feed
-- is a line too, if it isn't empty.
use Rattle.std.specs.Prelude.{ℕ, List, [], ◌∷◌, ◌++◌}
use Rattle.std.specs.List.{flat_map}

-- the text with these lines, each ended by a line feed
abbrev pub text_of_lines : List (List ℕ) → List ℕ
text_of_lines lines = flat_map (λ line. line ++ 10 ∷ []) lines
