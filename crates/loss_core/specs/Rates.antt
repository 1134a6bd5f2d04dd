-- The texts of rates, and the billionths that they stand for.
use Rattle.std.specs.Prelude.{ℕ, ◌+◌, ◌-◌, ◌*◌, ◌^◌, ◌==◌, List, [], ◌∷◌, length, Option, Some, None, Result, Ok, Err}
use Rattle.std.specs.Prelude.{option_and_then, nat_le, if◌then◌else◌}
use Rattle.std.specs.List.{slice_split}
use Rattle.text_base.specs.Numbers.{decimal_of}
use Rattle.loss_core.specs.declared.rate.RateError.{RateError}
use Rattle.loss_core.specs.declared.rate.RateError.TheVariants.{BadRate, AboveOne}

-- the parts of a text round its points
abbrev pub parts_of : List ℕ → List (List ℕ)
parts_of text = slice_split (λ byte. byte == 46) text

infixl 10 ◌>>=◌
abbrev pub ◌>>=◌ : {A B : Type 0} → Option A → (A → Option B) → Option B
o >>= f = option_and_then f o

-- the digits after the point, 1 to 9 of them, in billionths
abbrev pub fraction_of : List ℕ → Option ℕ
fraction_of digits = do
  value ← (if nat_le (length digits) 9 then decimal_of digits else None)
  Some (value * 10 ^ (9 - length digits))

-- the digits before the point, 1 to 10 of them or none
abbrev pub whole_of : List ℕ → Option ℕ
whole_of [] = Some 0
whole_of (digit ∷ digits) = decimal_of (digit ∷ digits)

-- `I`; or `I.F` and `.F`
abbrev pub billionths_of : List (List ℕ) → Option ℕ
billionths_of (whole ∷ []) = do
  ones ← decimal_of whole
  Some (ones * 1000000000)
billionths_of (whole ∷ fraction ∷ []) = do
  ones ← whole_of whole
  rest ← fraction_of fraction
  Some (ones * 1000000000 + rest)
billionths_of parts = None

-- at most 1
abbrev pub in_range : Option ℕ → Result ℕ RateError
in_range None = Err BadRate
in_range (Some billionths) = if nat_le billionths 1000000000 then Ok billionths else Err AboveOne

-- the billionths that a text stands for, or why it is refused
abbrev pub rate_of : List ℕ → Result ℕ RateError
rate_of text = in_range (billionths_of (parts_of text))

-- the number by which a refusal is printed
abbrev pub error_number : RateError → ℕ
error_number BadRate = 1
error_number AboveOne = 2
