-- Counts of delays, one more at a time.
use Rattle.std.proofs.Common.{◌≡◌, ◌≢◌, ◌⊎◌, inl, inr, ℕ, ◌+◌, ◌<◌, ◌≤◌, ◌==◌, ◌++◌, Bool, true, false, cond, List, []}
use Rattle.std.proofs.Common.{◌∷◌, length, get_or, set, nat_le, refl, ap, sym, subst, ◌∙◌, arith}
use Rattle.std.proofs.Common.{append-nil}
use Rattle.std.proofs.lemmas.Bool.{cases_lt, le-leb, leb-true, eqb-true, eq-eqb}
use Rattle.std.proofs.lemmas.List.Sums.{sum_by-cons, sum_by-append}
use Rattle.std.proofs.lemmas.List.Elements.{filter-append}
use Rattle.std.proofs.lemmas.List.{get_or-set_same, get_or-set_other}
use Rattle.log_report.specs.Counted.{times, long_ones}

not_same : (b : Bool) (x d : ℕ) → (x == d) ≡ b → x ≢ d → b ≡ false
not_same true x d e ne = absurd (ne (eqb-true x d e))
not_same false x d e ne = refl

times_more : (delays : List ℕ) (x d : ℕ) → times (delays ++ x ∷ []) d ≡ times delays d + cond (x == d) 1 0
times_more delays x d =
    sum_by-append (λ (z : ℕ). cond (z == d) 1 0) delays (x ∷ [])
    ∙ ap (λ (n : ℕ). times delays d + n) (let e : times (x ∷ []) d ≡ cond (x == d) 1 0 =
    sum_by-cons (λ (z : ℕ). cond (z == d) 1 0) x [] ∙ omega arith in e)

pub times_same : (delays : List ℕ) (x : ℕ) → times (delays ++ x ∷ []) x ≡ times delays x + 1
times_same delays x = times_more delays x x ∙ ap (λ (b : Bool). times delays x + cond b 1 0) (eq-eqb x x refl)

pub times_other : (delays : List ℕ) (x d : ℕ) → x ≢ d → times (delays ++ x ∷ []) d ≡ times delays d
times_other delays x d ne =
    times_more delays x d ∙ ap (λ (b : Bool). times delays d + cond b 1 0) (not_same (x == d) x d refl ne)
    ∙ (let e : times delays d + 0 ≡ times delays d = omega arith in e)

not_long : (b : Bool) (x : ℕ) → nat_le 65536 x ≡ b → x < 65536 → b ≡ false
not_long true x e lt = let le = leb-true 65536 x e in absurd (omega arith)
not_long false x e lt = refl

pub long_more : (delays : List ℕ) (x : ℕ) → 65536 ≤ x → long_ones (delays ++ x ∷ []) ≡ long_ones delays ++ x ∷ []
long_more delays x le =
    filter-append (λ (z : ℕ). nat_le 65536 z) delays (x ∷ [])
    ∙ ap (λ (b : Bool). long_ones delays ++ cond b (x ∷ []) []) (le-leb 65536 x le)

pub long_same : (delays : List ℕ) (x : ℕ) → x < 65536 → long_ones (delays ++ x ∷ []) ≡ long_ones delays
long_same delays x lt =
    filter-append (λ (z : ℕ). nat_le 65536 z) delays (x ∷ [])
    ∙ ap (λ (b : Bool). long_ones delays ++ cond b (x ∷ []) []) (not_long (nat_le 65536 x) x refl lt)
    ∙ append-nil (long_ones delays)

-- the counts of short delays, after one more
pub short_more : (counts delays : List ℕ) (x : ℕ) → x < 65536 → length counts ≡ 65536
    → ((d : ℕ) → d < 65536 → get_or counts d 0 ≡ times delays d)
    → (d : ℕ) → d < 65536 → get_or (set counts x (get_or counts x 0 + 1)) d 0 ≡ times (delays ++ x ∷ []) d
short_more counts delays x lt long are d within = by (cases_lt d x) (cases_lt x d)
  where
    other : x ≢ d → get_or (set counts x (get_or counts x 0 + 1)) d 0 ≡ times (delays ++ x ∷ []) d
    other ne = get_or-set_other counts x d (get_or counts x 0 + 1) 0 (λ e. ne (sym e)) ∙ are d within
        ∙ sym (times_other delays x d ne)

    same : x ≡ d → get_or (set counts x (get_or counts x 0 + 1)) d 0 ≡ times (delays ++ x ∷ []) d
    same e =
        let P : ℕ → Type 0 = λ k. get_or (set counts x (get_or counts x 0 + 1)) k 0 ≡ times (delays ++ x ∷ []) k in
        subst P e (get_or-set_same counts x (get_or counts x 0 + 1) 0 (omega arith) ∙ ap (λ (n : ℕ). n + 1) (are x lt)
        ∙ sym (times_same delays x))

    by : (d < x) ⊎ (x ≤ d) → (x < d) ⊎ (d ≤ x) → get_or (set counts x (get_or counts x 0 + 1)) d 0 ≡ times
        (delays ++ x ∷ []) d
    by (inl a) q = other (λ e. omega arith)
    by (inr a) (inl b) = other (λ e. omega arith)
    by (inr a) (inr b) = same (omega arith)

pub short_other : (counts delays : List ℕ) (x : ℕ) → 65536 ≤ x
    → ((d : ℕ) → d < 65536 → get_or counts d 0 ≡ times delays d) → (d : ℕ) → d < 65536
    → get_or counts d 0 ≡ times (delays ++ x ∷ []) d
short_other counts delays x le are d within = are d within ∙ sym (times_other delays x d (λ e. omega arith))
