-- The number at a rank is the one for which enough numbers are below and up to it.
use Rattle.std.proofs.Common.{◌≡◌, ◌⊎◌, inl, inr, ℕ, zero, suc, ◌+◌, ◌-◌, ◌<◌, ◌≤◌, ◌==◌, Bool, true, false, cond, List}
use Rattle.std.proofs.Common.{[], ◌∷◌, length, get_or, nat_le, nat_lt, refl, ap, sym, ◌∙◌, arith}
use Rattle.std.specs.List.{count_by}
use Rattle.std.specs.List.Sorted.{IsPermutation, IsSorted}
use Rattle.std.specs.Ordering.{nat_cmp}
use Rattle.std.proofs.lemmas.Bool.{cases_lt, le-leb, leb-true, lt-ltb, ltb-true}
use Rattle.std.proofs.lemmas.Bool.Decides.{nat_tests}
use Rattle.std.proofs.lemmas.List.Sums.{sum_by-cons, sum_by-le-sum_by}
use Rattle.std.proofs.lemmas.List.Sorted.{sum_by-IsPermutation}
use Rattle.std.proofs.lemmas.Map.Keys.{ge_from_not_lt}
use Rattle.log_report.specs.Ranks.{inserted, sorted, at_rank}
use Rattle.log_report.specs.Counted.{times, long_ones}

-- how many numbers are below d
abbrev pub below : ℕ → List ℕ → ℕ
below d xs = count_by (λ x. nat_lt x d) xs

not_below : (b : Bool) (x d : ℕ) → nat_lt x d ≡ b → d ≤ x → b ≡ false
not_below true x d e le = let lt = ltb-true x d e in absurd (omega arith)
not_below false x d e le = refl

below_yes : (d x : ℕ) (xs : List ℕ) → x < d → below d (x ∷ xs) ≡ 1 + below d xs
below_yes d x xs lt = sum_by-cons (λ (y : ℕ). cond (nat_lt y d) 1 0) x xs
    ∙ ap (λ (b : Bool). cond b 1 0 + below d xs) (lt-ltb x d lt)

below_no : (d x : ℕ) (xs : List ℕ) → d ≤ x → below d (x ∷ xs) ≡ below d xs
below_no d x xs le =
    sum_by-cons (λ (y : ℕ). cond (nat_lt y d) 1 0) x xs
    ∙ ap (λ (b : Bool). cond b 1 0 + below d xs) (not_below (nat_lt x d) x d refl le)
    ∙ (let e : 0 + below d xs ≡ below d xs = omega arith in e)

-- numbers none of which is below m, and numbers in order
abbrev pub AllFrom : ℕ → List ℕ → Type 0
AllFrom m [] = Unit {0}
AllFrom m (x ∷ xs) = (m ≤ x) × AllFrom m xs

abbrev pub Ascends : List ℕ → Type 0
Ascends [] = Unit {0}
Ascends (x ∷ xs) = AllFrom x xs × Ascends xs

all_from_lower : (m n : ℕ) (xs : List ℕ) → m ≤ n → AllFrom n xs → AllFrom m xs
all_from_lower m n [] le all = tt
all_from_lower m n (x ∷ xs) le all = (let first = all.0 in omega arith, all_from_lower m n xs le all.1)

none_below : (d m : ℕ) (xs : List ℕ) → AllFrom m xs → d ≤ m → below d xs ≡ 0
none_below d m [] all le = refl
none_below d m (x ∷ xs) all le = below_no d x xs (let first = all.0 in omega arith) ∙ none_below d m xs all.1 le

-- the number at a place of numbers in order
at_place : (ys : List ℕ) (d i : ℕ) → Ascends ys → below d ys ≤ i → i < below (d + 1) ys → get_or ys i 0 ≡ d
at_place [] d i up low high = absurd (let h : i < 0 = high in omega arith)
at_place (y ∷ ys) d zero up low high = first (cases_lt y d)
  where
    first : (y < d) ⊎ (d ≤ y) → y ≡ d
    first (inl lt) = let e = below_yes d y ys lt in absurd (omega arith)
    first (inr le) = second (cases_lt y (d + 1))
      where
        second : (y < d + 1) ⊎ (d + 1 ≤ y) → y ≡ d
        second (inl lt) = omega arith
        second (inr more) =
            let e = below_no (d + 1) y ys more in
            let none = none_below (d + 1) y ys up.0 more in
            absurd (omega arith)
at_place (y ∷ ys) d (suc i) up low high = at_place ys d i up.1 (by_first (cases_lt y d))
    (by_second (cases_lt y (d + 1)))
  where
    by_first : (y < d) ⊎ (d ≤ y) → below d ys ≤ i
    by_first (inl lt) = let e = below_yes d y ys lt in omega arith
    by_first (inr le) = let none = none_below d y ys up.0 le in omega arith

    by_second : (y < d + 1) ⊎ (d + 1 ≤ y) → i < below (d + 1) ys
    by_second (inl lt) = let e = below_yes (d + 1) y ys lt in omega arith
    by_second (inr le) = let e = below_no (d + 1) y ys le in omega arith

-- and how many are below it and up to it
place_below : (ys : List ℕ) (j : ℕ) → Ascends ys → j < length ys → below (get_or ys j 0) ys ≤ j
place_below [] j up lt = absurd (let h : j < 0 = lt in omega arith)
place_below (y ∷ ys) zero up lt =
    let e = below_no y y ys (omega arith) in
    let none = none_below y y ys up.0 (omega arith) in
    omega arith
place_below (y ∷ ys) (suc j) up lt =
    let more = place_below ys j up.1 (omega arith) in
    let g = get_or ys j 0 in
    by (cases_lt y g) more
  where
    by : (y < get_or ys j 0) ⊎ (get_or ys j 0 ≤ y) → below (get_or ys j 0) ys ≤ j
        → below (get_or ys j 0) (y ∷ ys) ≤ suc j
    by (inl lt) more = let e = below_yes (get_or ys j 0) y ys lt in omega arith
    by (inr le) more = let e = below_no (get_or ys j 0) y ys le in omega arith

from_at : (m : ℕ) (ys : List ℕ) (j : ℕ) → AllFrom m ys → j < length ys → m ≤ get_or ys j 0
from_at m [] j all lt = absurd (let h : j < 0 = lt in omega arith)
from_at m (y ∷ ys) zero all lt = all.0
from_at m (y ∷ ys) (suc j) all lt = from_at m ys j all.1 (omega arith)

place_within : (ys : List ℕ) (j : ℕ) → Ascends ys → j < length ys → j < below (get_or ys j 0 + 1) ys
place_within [] j up lt = absurd (let h : j < 0 = lt in omega arith)
place_within (y ∷ ys) zero up lt = let e = below_yes (y + 1) y ys (omega arith) in omega arith
place_within (y ∷ ys) (suc j) up lt =
    let more = place_within ys j up.1 (omega arith) in
    let le = from_at y ys j up.0 (omega arith) in
    let e = below_yes (get_or ys j 0 + 1) y ys (omega arith) in
    omega arith

-- sorting
all_from-inserted : (m x : ℕ) (ys : List ℕ) → m ≤ x → AllFrom m ys → AllFrom m (inserted x ys)
all_from-inserted m x [] le all = (le, tt)
all_from-inserted m x (y ∷ ys) le all =
    elim (nat_le x y) as (λ b. AllFrom m (cond b (x ∷ y ∷ ys) (y ∷ inserted x ys))) [
      | true ↦ (le, all)
      | false ↦ (all.0, all_from-inserted m x ys le all.1)
    ]

not_le : (x y : ℕ) → nat_le x y ≡ false → y ≤ x
not_le x y e = by (cases_lt x y)
  where
    by : (x < y) ⊎ (y ≤ x) → y ≤ x
    by (inl lt) = let yes = le-leb x y (omega arith) in absurd cc
    by (inr le) = le

ascends-inserted : (x : ℕ) (ys : List ℕ) → Ascends ys → Ascends (inserted x ys)
ascends-inserted x [] up = (tt, tt)
ascends-inserted x (y ∷ ys) up = by (nat_le x y) refl (ascends-inserted x ys up.1)
  where
    by : (b : Bool) → nat_le x y ≡ b → Ascends (inserted x ys) → Ascends (cond b (x ∷ y ∷ ys) (y ∷ inserted x ys))
    by true e more = let le = leb-true x y e in ((le, all_from_lower x y ys le up.0), up)
    by false e more = (all_from-inserted y x ys (not_le x y e) up.0, more)

ascends-sorted : (xs : List ℕ) → Ascends (sorted xs)
ascends-sorted [] = tt
ascends-sorted (x ∷ xs) = ascends-inserted x (sorted xs) (ascends-sorted xs)

below-inserted : (d x : ℕ) (ys : List ℕ) → below d (inserted x ys) ≡ below d (x ∷ ys)
below-inserted d x [] = refl
below-inserted d x (y ∷ ys) =
    let f : ℕ → ℕ = λ z. cond (nat_lt z d) 1 0 in
    let more = below-inserted d x ys in
    let a = sum_by-cons f y (inserted x ys) in
    let b = sum_by-cons f x ys in
    let c = sum_by-cons f x (y ∷ ys) in
    let e = sum_by-cons f y ys in
    let swapped : below d (y ∷ inserted x ys) ≡ below d (x ∷ y ∷ ys) = omega arith in
    elim (nat_le x y) as (λ b. below d (cond b (x ∷ y ∷ ys) (y ∷ inserted x ys)) ≡ below d (x ∷ y ∷ ys)) [
      | true ↦ refl
      | false ↦ swapped
    ]

below-sorted : (d : ℕ) (xs : List ℕ) → below d (sorted xs) ≡ below d xs
below-sorted d [] = refl
below-sorted d (x ∷ xs) =
    let f : ℕ → ℕ = λ z. cond (nat_lt z d) 1 0 in
    below-inserted d x (sorted xs) ∙ sum_by-cons f x (sorted xs) ∙ ap (λ (n : ℕ). f x + n) (below-sorted d xs)
    ∙ sym (sum_by-cons f x xs)

-- the number at a rank
pub ranked : (xs : List ℕ) (d rank : ℕ) → below d xs < rank → rank ≤ below (d + 1) xs → at_rank xs rank ≡ d
ranked xs d rank low high =
    let a = below-sorted d xs in
    let b = below-sorted (d + 1) xs in
    at_place (sorted xs) d (rank - 1) (ascends-sorted xs) (omega arith) (omega arith)

-- one number more is below the next
pub below_next : (d : ℕ) (xs : List ℕ) → below (d + 1) xs ≡ below d xs + times xs d
below_next d [] = refl
below_next d (x ∷ xs) =
    let more = below_next d xs in
    let a = sum_by-cons (λ (z : ℕ). cond (nat_lt z (d + 1)) 1 0) x xs in
    let b = sum_by-cons (λ (z : ℕ). cond (nat_lt z d) 1 0) x xs in
    let c = sum_by-cons (λ (z : ℕ). cond (z == d) 1 0) x xs in
    let step = next_step x d in
    omega arith
  where
    next_step : (x d : ℕ) → cond (nat_lt x (d + 1)) 1 0 ≡ cond (nat_lt x d) 1 0 + cond (x == d) 1 0
    next_step x d = grind (arith, nat_tests)

-- numbers of 65,536 and more
pub below_long : (d : ℕ) (xs : List ℕ) → 65536 ≤ d → below d xs ≡ below 65536 xs + below d (long_ones xs)
below_long d [] le = refl
below_long d (x ∷ xs) le = by (nat_le 65536 x) refl (below_long d xs le)
  where
    low_one : nat_le 65536 x ≡ false → (x < 65536) ⊎ (65536 ≤ x)
        → below d xs ≡ below 65536 xs + below d (long_ones xs)
        → below d (x ∷ xs) ≡ below 65536 (x ∷ xs) + below d (long_ones xs)
    low_one e (inl lt) more =
        let a = below_yes 65536 x xs lt in
        let b = below_yes d x xs (omega arith) in
        omega arith
    low_one e (inr long) more = let yes = le-leb 65536 x long in absurd cc

    by : (b : Bool) → nat_le 65536 x ≡ b → below d xs ≡ below 65536 xs + below d (long_ones xs)
        → below d (x ∷ xs) ≡ below 65536 (x ∷ xs) + below d (cond b (x ∷ long_ones xs) (long_ones xs))
    by true e more =
        let long = leb-true 65536 x e in
        let a = below_no 65536 x xs long in
        let f : ℕ → ℕ = λ z. cond (nat_lt z d) 1 0 in
        let b = sum_by-cons f x xs in
        let c = sum_by-cons f x (long_ones xs) in
        omega arith
    by false e more = low_one e (cases_lt x 65536) more

below_more : (d e : ℕ) (xs : List ℕ) → d ≤ e → below d xs ≤ below e xs
below_more d e xs le = sum_by-le-sum_by (λ (x : ℕ). cond (nat_lt x d) 1 0) (λ (x : ℕ). cond (nat_lt x e) 1 0) xs
    (λ x. one_more x)
  where
    one_more : (x : ℕ) → cond (nat_lt x d) 1 0 ≤ cond (nat_lt x e) 1 0
    one_more x = grind (arith, nat_tests)

-- what std says of a sorted list
ascends_by_index : (ls : List ℕ) → ((k : ℕ) → suc k < length ls → get_or ls k 0 ≤ get_or ls (suc k) 0) → Ascends ls
ascends_by_index [] h = tt
ascends_by_index (y ∷ []) h = (tt, tt)
ascends_by_index (y ∷ z ∷ zs) h =
    let more = ascends_by_index (z ∷ zs) (λ k lt. h (suc k) (omega arith)) in
    let le : y ≤ z = h 0 (omega arith) in
    ((le, all_from_lower y z zs le more.0), more)

ascends-std : (ls : List ℕ) → IsSorted nat_cmp ls → Ascends ls
ascends-std ls is =
    ascends_by_index ls (λ k lt. let e : suc k ≡ k + 1 = omega arith
    in rw e (ge_from_not_lt (get_or ls (k + 1) 0) (get_or ls k 0) (is k 0 (omega arith) (omega arith))))

-- the number at a rank above all short ones
pub ranked_long : (xs ls : List ℕ) (rank j : ℕ) → IsPermutation (long_ones xs) ls → IsSorted nat_cmp ls
    → j < length ls → rank ≡ below 65536 xs + j + 1 → at_rank xs rank ≡ get_or ls j 0
ranked_long xs ls rank j perm is lt place =
    let up = ascends-std ls is in
    let x = get_or ls j 0 in
    let low = place_below ls j up lt in
    let high = place_within ls j up lt in
    let same : (d : ℕ) → below d ls ≡ below d (long_ones xs) =
    λ d. sum_by-IsPermutation (λ (z : ℕ). cond (nat_lt z d) 1 0) (long_ones xs) ls perm in
    let none = below_long 65536 xs (omega arith) in
    let at_limit = same 65536 in
    let long : 65536 ≤ x = by_limit (cases_lt x 65536) high at_limit none in
    let a = below_long x xs long in
    let b = below_long (x + 1) xs (omega arith) in
    let c = same x in
    let e = same (x + 1) in
    ranked xs x rank (omega arith) (omega arith)
  where
    by_limit : (get_or ls j 0 < 65536) ⊎ (65536 ≤ get_or ls j 0) → j < below (get_or ls j 0 + 1) ls
        → below 65536 ls ≡ below 65536 (long_ones xs)
        → below 65536 xs ≡ below 65536 xs + below 65536 (long_ones xs) → 65536 ≤ get_or ls j 0
    by_limit (inl less) high at_limit none = let more = below_more (get_or ls j 0 + 1) 65536 ls (omega arith)
        in absurd (omega arith)
    by_limit (inr le) high at_limit none = le

-- the number at a rank, where all are sorted
pub ranked_sorted : (xs ls : List ℕ) (rank : ℕ) → IsPermutation xs ls → IsSorted nat_cmp ls → 1 ≤ rank
    → rank ≤ length ls → at_rank xs rank ≡ get_or ls (rank - 1) 0
ranked_sorted xs ls rank perm is some within =
    let up = ascends-std ls is in
    let x = get_or ls (rank - 1) 0 in
    let low = place_below ls (rank - 1) up (omega arith) in
    let high = place_within ls (rank - 1) up (omega arith) in
    let same : (d : ℕ) → below d ls ≡ below d xs =
    λ d. sum_by-IsPermutation (λ (z : ℕ). cond (nat_lt z d) 1 0) xs ls perm in
    let a = same x in
    let b = same (x + 1) in
    ranked xs x rank (omega arith) (omega arith)

-- nothing is below 0
pub below_none : (xs : List ℕ) → below 0 xs ≡ 0
below_none [] = refl
below_none (x ∷ xs) = below_no 0 x xs (omega arith) ∙ below_none xs
