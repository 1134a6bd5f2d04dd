-- Eight bytes at the front of a text, looked at together.
use Rattle.std.proofs.Common.{◌≡◌, ℕ, ◌+◌, ◌-◌, ◌%◌, ◌^◌, ◌<◌, ◌≤◌, leb, Bool, true, false, not, ◌&&◌, cond, eqb}
use Rattle.std.proofs.Common.{List, [], ◌∷◌, map, length, take, get_or, replicate, refl, sym, ap, ap₂, ◌∙◌, subst, ne_eqb}
use Rattle.std.proofs.Common.{arith, w8, Fits, nat_lt, suc, zero}
use Rattle.std.proofs.lemmas.Simd.{first_set_mask_l, mask_l-mod}
use Rattle.std.proofs.lemmas.List.{get_or-take, length-take-le, length-map, take-take}
use Rattle.std.proofs.lemmas.List.Sums.{prefix_len-le-length, prefix_len_stops}
use Rattle.std.proofs.lemmas.Bool.Decides.{nat_tests}
use Rattle.std.specs.List.{list_all, prefix_len}
use lib.Lanes.{zip2, mask_l, top, Each1}
use lib.Count.{count_trailing_zeros}
use Rattle.text_base.specs.Numbers.{is_digit}

abbrev pub other : ℕ → Bool
other byte = not (is_digit byte)

abbrev pub at_most : ℕ → ℕ → ℕ
at_most a b = cond (leb a b) 255 0

abbrev pub less : ℕ → ℕ → ℕ
less a b = (a + (256 - b)) % 256

-- a lane: the byte less 48, compared with 10
one_lane : (byte : ℕ) → byte < 256 → top 7 (at_most 10 (less byte 48)) ≡ other byte
one_lane byte fits = go (nat_lt byte 48) refl
  where
    go : (b : Bool) → nat_lt byte 48 ≡ b → top 7 (at_most 10 (less byte 48)) ≡ other byte
    go true e = grind (arith, nat_tests)
    go false e = grind (arith, nat_tests)

lanes : (n : ℕ) (xs : List ℕ) → length xs ≡ n → Each1 (Fits w8) xs
    → map (top 7) (zip2 at_most (replicate n 10) (zip2 less xs (replicate n 48))) ≡ map other xs
lanes zero [] long fits = refl
lanes zero (x ∷ xs) long fits = absurd (omega arith)
lanes (suc n) [] long fits = absurd (omega arith)
lanes (suc n) (x ∷ xs) long fits = ap₂ (λ b l. b ∷ l) (one_lane x fits.0.fits) (lanes n xs (omega arith) fits.1)

pub marked : (xs : List ℕ) → length xs ≡ 8 → Each1 (Fits w8) xs
    → mask_l (map (top 7) (zip2 at_most (replicate 8 10) (zip2 less xs (replicate 8 48)))) % 2 ^ 64
    ≡ mask_l (map other xs)
marked xs long fits =
    ap (λ l. mask_l l % 2 ^ 64) (lanes 8 xs long fits) ∙ mask_l-mod (map other xs) 64 (omega (arith, length-map xs other))

-- what a count of the digits among the first eight bytes says
pub record IsCount (text : List ℕ) (count : ℕ) : Type 0 where
  pub few : count ≤ 8
  pub digits : list_all is_digit (take count text) ≡ true
  pub stops : count < 8 → is_digit (get_or text count 0) ≡ false

all_before : (xs : List ℕ) → list_all is_digit (take (prefix_len is_digit xs) xs) ≡ true
all_before [] = refl
all_before (x ∷ xs) = go (is_digit x) refl (all_before xs)
  where
    go : (b : Bool) → is_digit x ≡ b → list_all is_digit (take (prefix_len is_digit xs) xs) ≡ true
        → list_all is_digit (take (cond b (1 + prefix_len is_digit xs) 0) (x ∷ xs)) ≡ true
    go true e later =
        let more : 1 + prefix_len is_digit xs ≡ suc (prefix_len is_digit xs) = omega arith in
        ap (λ k. list_all is_digit (take k (x ∷ xs))) more
        ∙ ap (λ b. b && list_all is_digit (take (prefix_len is_digit xs) xs)) e ∙ later
    go false e later = refl

count_is : (text : List ℕ) (count : ℕ) → 8 ≤ length text → count ≡ prefix_len is_digit (take 8 text)
    → IsCount text count
count_is text count long e =
    let front = take 8 text in
    let eight : length front ≡ 8 = length-take-le 8 text long in
    let few : count ≤ 8 = omega (arith, e, eight, prefix_len-le-length is_digit front) in
    record {
      few = few;
      digits = ap (list_all is_digit) (sym (take-take count 8 text few))
          ∙ ap (λ k. list_all is_digit (take k front)) e ∙ all_before front;
      stops = λ less. ap is_digit (sym (get_or-take 8 text count 0 less) ∙ ap (λ k. get_or front k 0) e)
          ∙ prefix_len_stops is_digit front 0 (omega (arith, e, eight, less));
    }

count_of_mask : (text : List ℕ) (mask : ℕ) → 8 ≤ length text → mask ≡ mask_l (map other (take 8 text))
    → IsCount text (cond (eqb mask 0) 8 (count_trailing_zeros 64 mask))
count_of_mask text mask long e =
    count_is text _ long (ap (λ m. cond (eqb m 0) 8 (count_trailing_zeros 64 m)) e
    ∙ first_set_mask_l other (take 8 text) 8 (length-take-le 8 text long) (omega arith) ∙ same (take 8 text))
  where
    not-not : (b : Bool) → not (not b) ≡ b
    not-not true = refl
    not-not false = refl

    same : (l : List ℕ) → prefix_len (λ x. not (other x)) l ≡ prefix_len is_digit l
    same [] = refl
    same (x ∷ l) = ap₂ (λ b n. cond b (1 + n) 0) (not-not (is_digit x)) (same l)

-- where the mask isn't empty, its lowest bit is that of the first byte that is no digit
pub some_counted : (text : List ℕ) (mask : ℕ) → 8 ≤ length text → mask ≡ mask_l (map other (take 8 text))
    → (mask ≡ 0 → ⊥)
    → IsCount text (count_trailing_zeros 64 mask)
some_counted text mask long e some =
    subst (λ b. IsCount text (cond b 8 (count_trailing_zeros 64 mask))) (ne_eqb mask 0 some)
    (count_of_mask text mask long e)
