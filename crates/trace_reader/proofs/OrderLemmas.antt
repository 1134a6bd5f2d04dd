-- Opportunities in the order of their moments, and those up to a moment.
use Rattle.std.proofs.Common.{◌≡◌, ℕ, suc, ◌+◌, ◌-◌, ◌<◌, ◌≤◌, ◌++◌, List, [], ◌∷◌, length, take, drop, map, get_or}
use Rattle.std.proofs.Common.{nat_le, refl, ap, sym, ◌∙◌, inl, inr, arith}
use Rattle.std.proofs.lemmas.Bool.{cases_lt, le-leb, lt-leb}
use Rattle.std.proofs.lemmas.List.Elements.{filter-append}
use Rattle.trace_reader.specs.declared.opportunity.Opportunity.{Opportunity}
use Rattle.trace_reader.specs.Orders.{Each, AreRising}
use Rattle.trace_reader.specs.Opps.{up_to, last_moment, later}

pub each_map : {X : Type 0} (P Q : X → Type 0) (xs : List X) → ((x : X) → P x → Q x) → Each P xs → Each Q xs
each_map P Q [] h a = tt
each_map P Q (x ∷ xs) h a = (h x a.0, each_map P Q xs h a.1)

pub each_append : {X : Type 0} (P : X → Type 0) (xs ys : List X) → Each P xs → Each P ys → Each P (xs ++ ys)
each_append P [] ys a b = b
each_append P (x ∷ xs) ys a b = (a.0, each_append P xs ys a.1 b)

pub up_to_in : (m : ℕ) (o : Opportunity) (opps : List Opportunity) → o.moment ≤ m
    → up_to m (o ∷ opps) ≡ o ∷ up_to m opps
up_to_in m o opps le = rw (le-leb o.moment m le)

pub up_to_out : (m : ℕ) (o : Opportunity) (opps : List Opportunity) → m < o.moment → up_to m (o ∷ opps) ≡ up_to m opps
up_to_out m o opps lt = rw (lt-leb o.moment m lt)

pub up_to-append : (m : ℕ) (xs ys : List Opportunity) → up_to m (xs ++ ys) ≡ up_to m xs ++ up_to m ys
up_to-append m xs ys = filter-append (λ (o : Opportunity). nat_le o.moment m) xs ys

pub up_to_all : (m : ℕ) (opps : List Opportunity) → Each (λ o. o.moment ≤ m) opps → up_to m opps ≡ opps
up_to_all m [] a = refl
up_to_all m (o ∷ opps) a = up_to_in m o opps a.0 ∙ ap (λ l. o ∷ l) (up_to_all m opps a.1)

pub up_to_none : (m : ℕ) (opps : List Opportunity) → Each (λ o. m < o.moment) opps → up_to m opps ≡ []
up_to_none m [] a = refl
up_to_none m (o ∷ opps) a = up_to_out m o opps a.0 ∙ up_to_none m opps a.1

-- of those up to a moment, those up to an earlier one
pub up_to_lower : (m n : ℕ) (opps : List Opportunity) → m ≤ n → up_to m (up_to n opps) ≡ up_to m opps
up_to_lower m n [] le = refl
up_to_lower m n (o ∷ opps) le = elim (cases_lt n o.moment) [
  | inl lt ↦ ap (up_to m) (up_to_out n o opps lt) ∙ up_to_lower m n opps le ∙ sym (up_to_out m o opps (omega arith))
  | inr le' ↦ elim (cases_lt m o.moment) [
    | inl lt ↦ ap (up_to m) (up_to_in n o opps le') ∙ up_to_out m o (up_to n opps) lt ∙ up_to_lower m n opps le
        ∙ sym (up_to_out m o opps lt)
    | inr le'' ↦ ap (up_to m) (up_to_in n o opps le') ∙ up_to_in m o (up_to n opps) le''
        ∙ ap (λ l. o ∷ l) (up_to_lower m n opps le) ∙ sym (up_to_in m o opps le'')
  ]
]

-- or up to a later one
pub up_to_higher : (m n : ℕ) (opps : List Opportunity) → n ≤ m → up_to m (up_to n opps) ≡ up_to n opps
up_to_higher m n [] le = refl
up_to_higher m n (o ∷ opps) le = elim (cases_lt n o.moment) [
  | inl lt ↦ ap (up_to m) (up_to_out n o opps lt) ∙ up_to_higher m n opps le ∙ sym (up_to_out n o opps lt)
  | inr le' ↦ ap (up_to m) (up_to_in n o opps le') ∙ up_to_in m o (up_to n opps) (omega arith)
      ∙ ap (λ l. o ∷ l) (up_to_higher m n opps le) ∙ sym (up_to_in n o opps le')
]

pub rising-append : (m : ℕ) (xs ys : List Opportunity) → AreRising xs → AreRising ys → Each (λ o. o.moment ≤ m) xs
    → Each (λ o. m ≤ o.moment) ys → AreRising (xs ++ ys)
rising-append m [] ys r s a b = s
rising-append m (x ∷ xs) ys r s a b = (
  each_append (λ p. x.moment ≤ p.moment) xs ys r.0
      (each_map (λ (o : Opportunity). m ≤ o.moment) (λ o. x.moment ≤ o.moment) ys (λ o le. omega (arith, a.0)) b),
  rising-append m xs ys r.1 s a.1 b,
)

late : (m : ℕ) (o : Opportunity) (opps : List Opportunity) → m < o.moment → AreRising (o ∷ opps)
    → Each (λ p. m < p.moment) (o ∷ opps)
late m o opps lt r = (
  lt,
  each_map (λ (p : Opportunity). o.moment ≤ p.moment) (λ p. m < p.moment) opps
      (λ p le. omega arith) r.0,
)

-- those up to a moment are the first of the list
pub up_to_front : (m : ℕ) (opps : List Opportunity) → AreRising opps → up_to m opps ≡ take (length (up_to m opps)) opps
up_to_front m [] r = refl
up_to_front m (o ∷ opps) r = elim (cases_lt m o.moment) [
  | inr le ↦
      let ih = up_to_front m opps r.1 in
      let e : up_to m (o ∷ opps) ≡ o ∷ up_to m opps = up_to_in m o opps le in
      rw e (ap (λ l. o ∷ l) ih)
  | inl lt ↦
      let e : up_to m (o ∷ opps) ≡ [] = up_to_none m (o ∷ opps) (late m o opps lt r) in
      rw e refl
]

-- which are up to it, and the others are later
pub counted : (m : ℕ) (opps : List Opportunity) → AreRising opps
    → Each (λ o. o.moment ≤ m) (take (length (up_to m opps)) opps)
    × Each (λ o. m < o.moment) (drop (length (up_to m opps)) opps)
counted m [] r = (tt, tt)
counted m (o ∷ opps) r = elim (cases_lt m o.moment) [
  | inr le ↦
      let ih = counted m opps r.1 in
      let e : length (up_to m (o ∷ opps)) ≡ suc (length (up_to m opps)) = ap length (up_to_in m o opps le) in
      rw e ((le, ih.0), ih.1)
  | inl lt ↦
      let after : Each (λ p. m < p.moment) (o ∷ opps) = late m o opps lt r in
      let e : length (up_to m (o ∷ opps)) ≡ 0 = ap length (up_to_none m (o ∷ opps) after) in
      rw e (tt, after)
]

pub length-up_to : (m : ℕ) (opps : List Opportunity) → length (up_to m opps) ≤ length opps
length-up_to m [] = omega arith
length-up_to m (o ∷ opps) = elim (cases_lt m o.moment) [
  | inr le ↦
      let ih = length-up_to m opps in
      let e : length (up_to m (o ∷ opps)) ≡ suc (length (up_to m opps)) = ap length (up_to_in m o opps le) in
      omega arith
  | inl lt ↦
      let ih = length-up_to m opps in
      let e : length (up_to m (o ∷ opps)) ≡ length (up_to m opps) = ap length (up_to_out m o opps lt) in
      omega arith
]

each_up_to : (P : Opportunity → Type 0) (m : ℕ) (opps : List Opportunity) → Each P opps → Each P (up_to m opps)
each_up_to P m [] a = tt
each_up_to P m (o ∷ opps) a = elim (cases_lt m o.moment) [
  | inr le ↦ let ih = each_up_to P m opps a.1 in rw (up_to_in m o opps le) (a.0, ih)
  | inl lt ↦ let ih = each_up_to P m opps a.1 in rw (up_to_out m o opps lt) ih
]

pub rising-up_to : (m : ℕ) (opps : List Opportunity) → AreRising opps → AreRising (up_to m opps)
rising-up_to m [] r = tt
rising-up_to m (o ∷ opps) r = elim (cases_lt m o.moment) [
  | inr le ↦ let ih = rising-up_to m opps r.1
      in rw (up_to_in m o opps le) (each_up_to (λ p. o.moment ≤ p.moment) m opps r.0, ih)
  | inl lt ↦ let ih = rising-up_to m opps r.1 in rw (up_to_out m o opps lt) ih
]

-- none is later than the last
pub last_latest : (opps : List Opportunity) → AreRising opps → Each (λ o. o.moment ≤ last_moment opps) opps
last_latest [] r = tt
last_latest (o ∷ []) r = (omega arith, tt)
last_latest (o ∷ p ∷ ps) r =
    let ih = last_latest (p ∷ ps) r.1 in
    let first : o.moment ≤ p.moment = r.0.0 in
    let next : p.moment ≤ last_moment (p ∷ ps) = ih.0 in
    (omega arith, ih)

-- a lap that begins at this moment
pub up_to-later : (m by : ℕ) (opps : List Opportunity) → by ≤ m
    → length (up_to m (map (later by) opps)) ≡ length (up_to (m - by) opps)
up_to-later m by [] le = refl
up_to-later m by (o ∷ opps) le = elim (cases_lt m (o.moment + by)) [
  | inl lt ↦ ap length (up_to_out m (later by o) (map (later by) opps) lt) ∙ up_to-later m by opps le
      ∙ sym (ap length (up_to_out (m - by) o opps (omega arith)))
  | inr le' ↦ ap length (up_to_in m (later by o) (map (later by) opps) le') ∙ ap suc (up_to-later m by opps le)
      ∙ sym (ap length (up_to_in (m - by) o opps (omega arith)))
]

pub each_later : (high by : ℕ) (opps : List Opportunity) → Each (λ o. o.moment ≤ high) opps
    → Each (λ o. o.moment ≤ high + by) (map (later by) opps)
each_later high by [] a = tt
each_later high by (o ∷ opps) a = (omega (arith, a.0), each_later high by opps a.1)

pub each_from : (by : ℕ) (opps : List Opportunity) → Each (λ o. by ≤ o.moment) (map (later by) opps)
each_from by [] = tt
each_from by (o ∷ opps) = (omega arith, each_from by opps)

each_from_moment : (m by : ℕ) (opps : List Opportunity) → Each (λ p. m ≤ p.moment) opps
    → Each (λ p. m + by ≤ p.moment) (map (later by) opps)
each_from_moment m by [] a = tt
each_from_moment m by (o ∷ opps) a = (omega (arith, a.0), each_from_moment m by opps a.1)

pub rising-later : (by : ℕ) (opps : List Opportunity) → AreRising opps → AreRising (map (later by) opps)
rising-later by [] r = tt
rising-later by (o ∷ opps) r = (each_from_moment o.moment by opps r.0, rising-later by opps r.1)

-- the last stands at the end
pub last_at : (opps : List Opportunity) (d : Opportunity) → 0 < length opps
    → (get_or opps (length opps - 1) d).moment ≡ last_moment opps
last_at [] d lt = absurd (omega arith)
last_at (o ∷ []) d lt = refl
last_at (o ∷ p ∷ ps) d lt =
    let e : suc (suc (length ps)) - 1 ≡ suc (length ps) = omega arith in
    let f : suc (length ps) - 1 ≡ length ps = omega arith in
    let ih : (get_or (p ∷ ps) (suc (length ps) - 1) d).moment ≡ last_moment (p ∷ ps) =
    last_at (p ∷ ps) d (omega arith) in
    ap (λ (i : ℕ). (get_or (o ∷ p ∷ ps) i d).moment) e ∙ ap (λ (i : ℕ). (get_or (p ∷ ps) i d).moment) (sym f) ∙ ih
