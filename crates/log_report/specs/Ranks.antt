-- The ranks of delays: their median, 95th percentile and maximum.
use Rattle.std.specs.Prelude.{ℕ, ◌+◌, ◌-◌, ◌*◌, ◌/◌, List, [], ◌∷◌, length, Option, Some, None, nat_le, slice_index}
use Rattle.std.specs.Prelude.{if◌then◌else◌}
use Rattle.log_report.specs.declared.figures.Delays.{Delays}

-- The numbers with `x` among them. They are sorted, the least first.
abbrev pub inserted : ℕ → List ℕ → List ℕ
inserted x [] = x ∷ []
inserted x (y ∷ ys) = if nat_le x y then x ∷ y ∷ ys else y ∷ inserted x ys

-- The numbers, the least first.
abbrev pub sorted : List ℕ → List ℕ
sorted [] = []
sorted (x ∷ xs) = inserted x (sorted xs)

-- The number at a rank, counted from 1, once the numbers are sorted.
abbrev pub at_rank : List ℕ → ℕ → ℕ
at_rank xs rank = slice_index (sorted xs) (rank - 1)

-- The quotient, rounded up.
abbrev pub divided_up : ℕ → ℕ → ℕ
divided_up n by = (n + (by - 1)) / by

-- The median, the 95th percentile and the greatest of the delays, if there is one.
abbrev pub delays_of : List ℕ → Option Delays
delays_of [] = None
delays_of (x ∷ xs) =
    let n = length (x ∷ xs) in
    Some (record {
      median = at_rank (x ∷ xs) (divided_up n 2);
      p95 = at_rank (x ∷ xs) (divided_up (95 * n) 100);
      most = at_rank (x ∷ xs) n;
    })
