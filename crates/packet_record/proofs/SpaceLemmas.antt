-- Texts without a space, or without a line feed.
use Rattle.std.proofs.Common.{◌≡◌, ℕ, ◌≤◌, ◌<◌, ◌&&◌, Bool, true, false, cond, eqb, nat_le, List, [], ◌∷◌, ◌++◌, refl}
use Rattle.std.proofs.Common.{ap, ◌∙◌, rules, tests}
use Rattle.std.specs.List.{list_all, onto_first}
use Rattle.text_base.specs.Numbers.{is_digit}
use Rattle.packet_record.specs.Said.{words_of}

-- none of the bytes is this one
abbrev pub Lacks : ℕ → List ℕ → Type 0
Lacks byte [] = Unit {0}
Lacks byte (x ∷ xs) = (eqb x byte ≡ false) × Lacks byte xs

pub lacks-append : (byte : ℕ) (xs ys : List ℕ) → Lacks byte xs → Lacks byte ys → Lacks byte (xs ++ ys)
lacks-append byte [] ys h k = k
lacks-append byte (x ∷ xs) ys h k = (h.0, lacks-append byte xs ys h.1 k)

both_true : (a b : Bool) → (a && b) ≡ true → (a ≡ true) × (b ≡ true)
both_true true true e = (refl, refl)
both_true true false e = absurd cc
both_true false b e = absurd cc

no_digit : (byte x : ℕ) → byte < 48 → is_digit x ≡ true → eqb x byte ≡ false
no_digit byte x low e =
    let some = (both_true (nat_le 48 x) (nat_le x 57) e).0 in
    let high : 48 ≤ x = search (rules, tests) in
    search (rules, tests)

pub digits_lack : (byte : ℕ) (xs : List ℕ) → byte < 48 → list_all is_digit xs ≡ true → Lacks byte xs
digits_lack byte [] low e = tt
digits_lack byte (x ∷ xs) low e =
    let both = both_true (is_digit x) (list_all is_digit xs) e in
    (no_digit byte x low both.0, digits_lack byte xs low both.1)

pub words_of-append : (xs ys : List ℕ) → Lacks 32 xs → words_of (xs ++ 32 ∷ ys) ≡ xs ∷ words_of ys
words_of-append [] ys h = refl
words_of-append (x ∷ xs) ys h =
    ap (λ b. cond b ([] ∷ words_of (xs ++ 32 ∷ ys)) (onto_first x (words_of (xs ++ 32 ∷ ys)))) h.0
    ∙ ap (onto_first x) (words_of-append xs ys h.1)

pub words_of-one : (xs : List ℕ) → Lacks 32 xs → words_of xs ≡ xs ∷ []
words_of-one [] h = refl
words_of-one (x ∷ xs) h = ap (λ b. cond b ([] ∷ words_of xs) (onto_first x (words_of xs))) h.0
    ∙ ap (onto_first x) (words_of-one xs h.1)
