-- The opportunities of a trace, lap by lap.
use Rattle.std.proofs.Common.{◌≡◌, ℕ, zero, suc, ◌+◌, ◌-◌, ◌*◌, ◌/◌, ◌%◌, ◌<◌, ◌≤◌, ◌++◌, List, [], ◌∷◌, length, take}
use Rattle.std.proofs.Common.{map, Option, Some, slice_get, option_to_list, refl, ap, sym, ◌∙◌, inl, inr, arith}
use Rattle.std.proofs.Common.{length-append, add-one}
use Rattle.std.proofs.lemmas.List.{take_all, map-append, append_assoc, append-nil, length-map}
use Rattle.std.proofs.lemmas.Bool.{cases_lt}
use Rattle.std.proofs.lemmas.Nat.{div-mul-add, mod-mul-add}
use Rattle.std.proofs.Math.Nat.{mul-le-mul_right, div-mul-le_self, mod-eq-sub-div-mul}
use Rattle.std.specs.Option.{option_map}
use Rattle.trace_reader.specs.declared.opportunity.Opportunity.{Opportunity}
use Rattle.trace_reader.specs.Orders.{Each, AreRising}
use Rattle.trace_reader.specs.Opps.{up_to, last_moment, later, entry, entries}
use Rattle.trace_reader.proofs.ListLemmas.{slice_get-front, slice_get-next, take_next, some_at, map_same}
use Rattle.trace_reader.proofs.OrderLemmas.{each_map, each_append, each_later, each_from, last_latest, rising-append}
use Rattle.trace_reader.proofs.OrderLemmas.{rising-later, up_to-append, up_to_all, up_to_none, up_to-later}

-- a number of laps
abbrev pub laps : List Opportunity → ℕ → List Opportunity
laps trace zero = []
laps trace (suc k) = laps trace k ++ map (later (k * last_moment trace)) trace

-- number i of lap k
pub entry_in_lap : (trace : List Opportunity) (k i : ℕ) (o : Opportunity) → i < length trace
    → slice_get trace i ≡ Some o
    → entry trace (k * length trace + i) ≡ Some (later (k * last_moment trace) o)
entry_in_lap trace k i o lt e =
    ap (λ (q : ℕ). option_map (later (q * last_moment trace))
    (slice_get trace ((k * length trace + i) % length trace))) (div-mul-add k (length trace) i lt)
    ∙ ap (λ (r : ℕ). option_map (later (k * last_moment trace)) (slice_get trace r)) (mod-mul-add k (length trace) i lt)
    ∙ ap (option_map (later (k * last_moment trace))) e

one_more : (trace : List Opportunity) (k : ℕ) → entries trace (suc k) ≡ entries trace k
    ++ option_to_list (entry trace k)
unfolding entries
one_more trace k = refl

no_entries : (trace : List Opportunity) → entries trace 0 ≡ []
unfolding entries
no_entries trace = refl

entries_in_lap : (trace : List Opportunity) (k i : ℕ) → i ≤ length trace
    → entries trace (k * length trace + i) ≡ entries trace (k * length trace)
    ++ map (later (k * last_moment trace)) (take i trace)
entries_in_lap trace k zero le =
    let e : k * length trace + 0 ≡ k * length trace = omega arith in
    ap (entries trace) e ∙ sym (append-nil (entries trace (k * length trace)))
entries_in_lap trace k (suc i) le =
    let here = k * length trace + i in
    let e : k * length trace + suc i ≡ suc here = omega arith in
    let at = some_at trace i (omega arith) in
    let f : Opportunity → Opportunity = later (k * last_moment trace) in
    ap (entries trace) e
    ∙ one_more trace here
    ∙ ap (λ (o : Option Opportunity). entries trace here ++ option_to_list o)
    (entry_in_lap trace k i at.0 (omega arith) at.1)
    ∙ ap (λ (l : List Opportunity). l ++ f at.0 ∷ []) (entries_in_lap trace k i (omega arith))
    ∙ append_assoc (entries trace (k * length trace)) (map f (take i trace)) (f at.0 ∷ [])
    ∙ ap (λ (l : List Opportunity). entries trace (k * length trace) ++ l)
    (sym (map-append f (take i trace) (at.0 ∷ [])) ∙ ap (map f) (sym (take_next trace i at.0 at.1)))

pub entries_laps : (trace : List Opportunity) (k : ℕ) → entries trace (k * length trace) ≡ laps trace k
entries_laps trace zero = let e : 0 * length trace ≡ 0 = omega arith in ap (entries trace) e ∙ no_entries trace
entries_laps trace (suc k) =
    let e : suc k * length trace ≡ k * length trace + length trace = omega arith in
    ap (entries trace) e
    ∙ entries_in_lap trace k (length trace) (omega arith)
    ∙ ap (λ (l : List Opportunity). entries trace (k * length trace) ++ map (later (k * last_moment trace)) l)
    (take_all (length trace) trace (omega arith))
    ∙ ap (λ (l : List Opportunity). l ++ map (later (k * last_moment trace)) trace) (entries_laps trace k)

same_later : (o : Opportunity) (by : ℕ) → by ≡ 0 → later by o ≡ o
same_later o by e = let same : o.moment + by ≡ o.moment = omega arith in ap (λ (m : ℕ). record o { moment = m }) same

pub first_lap : (trace : List Opportunity) → laps trace 1 ≡ trace
first_lap trace = map_same (later (0 * last_moment trace)) trace
    (λ o. same_later o (0 * last_moment trace) (omega arith))

pub length-laps : (trace : List Opportunity) (k : ℕ) → length (laps trace k) ≡ k * length trace
length-laps trace zero = omega arith
length-laps trace (suc k) =
    let ih = length-laps trace k in
    let e = length-append (laps trace k) (map (later (k * last_moment trace)) trace) in
    let f = length-map trace (later (k * last_moment trace)) in
    omega arith

laps_up_to : (trace : List Opportunity) (k : ℕ) → AreRising trace
    → Each (λ o. o.moment ≤ k * last_moment trace) (laps trace k)
laps_up_to trace zero r = tt
laps_up_to trace (suc k) r =
    let high = suc k * last_moment trace in
    each_append (λ o. o.moment ≤ high) (laps trace k) (map (later (k * last_moment trace)) trace)
    (each_map (λ (o : Opportunity). o.moment ≤ k * last_moment trace) (λ o. o.moment ≤ high) (laps trace k)
    (λ o le. omega arith) (laps_up_to trace k r))
    (each_map (λ (o : Opportunity). o.moment ≤ last_moment trace + k * last_moment trace) (λ o. o.moment ≤ high)
    (map (later (k * last_moment trace)) trace) (λ o le. omega arith)
    (each_later (last_moment trace) (k * last_moment trace) trace (last_latest trace r)))

pub laps_rising : (trace : List Opportunity) (k : ℕ) → AreRising trace → AreRising (laps trace k)
laps_rising trace zero r = tt
laps_rising trace (suc k) r =
    rising-append (k * last_moment trace) (laps trace k) (map (later (k * last_moment trace)) trace)
    (laps_rising trace k r) (rising-later (k * last_moment trace) trace r) (laps_up_to trace k r)
    (each_from (k * last_moment trace) trace)

-- laps that begin after a moment have none up to it
pub laps_beyond : (trace : List Opportunity) (m k j : ℕ) → m < k * last_moment trace
    → up_to m (laps trace (j + k)) ≡ up_to m (laps trace k)
laps_beyond trace m k zero lt = let e : 0 + k ≡ k = omega arith in ap (λ (n : ℕ). up_to m (laps trace n)) e
laps_beyond trace m k (suc j) lt =
    let n = j + k in
    let e : suc j + k ≡ suc n = omega arith in
    let more : k * last_moment trace ≤ n * last_moment trace = mul-le-mul_right (last_moment trace) (omega arith) in
    let lap = map (later (n * last_moment trace)) trace in
    let none : up_to m lap ≡ [] = up_to_none m lap
    (each_map (λ (o : Opportunity). n * last_moment trace ≤ o.moment) (λ o. m < o.moment) lap
    (λ o le. omega arith) (each_from (n * last_moment trace) trace)) in
    ap (λ (i : ℕ). up_to m (laps trace i)) e
    ∙ up_to-append m (laps trace n) lap
    ∙ ap (λ (l : List Opportunity). up_to m (laps trace n) ++ l) none
    ∙ append-nil (up_to m (laps trace n))
    ∙ laps_beyond trace m k j lt

-- whole laps, and what the moment leaves of the next
pub length-up_to-laps : (trace : List Opportunity) (m : ℕ) → AreRising trace
    → length (up_to m (laps trace (m / last_moment trace + 1))) ≡ m / last_moment trace * length trace + length
    (up_to (m % last_moment trace) trace)
length-up_to-laps trace m r =
    let last = last_moment trace in
    let q = m / last in
    let lap = map (later (q * last)) trace in
    let low : q * last ≤ m = div-mul-le_self m last in
    let all : up_to m (laps trace q) ≡ laps trace q =
    up_to_all m (laps trace q) (each_map (λ (o : Opportunity). o.moment ≤ q * last) (λ o. o.moment ≤ m) (laps trace q)
    (λ o le. omega arith) (laps_up_to trace q r)) in
    let count : length (up_to m lap) ≡ length (up_to (m - q * last) trace) = up_to-later m (q * last) trace low in
    let left : length (up_to (m - q * last) trace) ≡ length (up_to (m % last) trace) =
    ap (λ (i : ℕ). length (up_to i trace)) (sym (mod-eq-sub-div-mul m last)) in
    ap (λ (n : ℕ). length (up_to m (laps trace n))) (add-one q)
    ∙ ap length (up_to-append m (laps trace q) lap)
    ∙ length-append (up_to m (laps trace q)) (up_to m lap)
    ∙ ap (λ (l : List Opportunity). length l + length (up_to m lap)) all
    ∙ ap (λ (n : ℕ). n + length (up_to m lap)) (length-laps trace q)
    ∙ ap (λ (n : ℕ). q * length trace + n) (count ∙ left)

-- each number has an entry
pub length-entries : (trace : List Opportunity) (k : ℕ) → 0 < length trace → length (entries trace k) ≡ k
length-entries trace zero lt = ap length (no_entries trace)
length-entries trace (suc k) lt =
    let ih = length-entries trace k lt in
    let at = some_at trace (k % length trace) (omega arith) in
    let e : entry trace k ≡ Some (later (k / length trace * last_moment trace) at.0) =
    ap (option_map (later (k / length trace * last_moment trace))) at.1 in
    let f : entries trace (suc k) ≡ entries trace k ++ later (k / length trace * last_moment trace) at.0 ∷ [] =
    one_more trace k ∙ ap (λ (o : Option Opportunity). entries trace k ++ option_to_list o) e in
    let g = length-append (entries trace k) (later (k / length trace * last_moment trace) at.0 ∷ []) in
    ap length f ∙ g ∙ omega arith

pub slice_get-entries : (trace : List Opportunity) (k j : ℕ) → 0 < length trace → j < k
    → slice_get (entries trace k) j ≡ entry trace j
slice_get-entries trace zero j some lt = absurd (omega arith)
slice_get-entries trace (suc k) j some lt =
    let count = length-entries trace k some in
    let at = some_at trace (k % length trace) (omega arith) in
    let o = later (k / length trace * last_moment trace) at.0 in
    let e : entry trace k ≡ Some o = ap (option_map (later (k / length trace * last_moment trace))) at.1 in
    let f : entries trace (suc k) ≡ entries trace k ++ o ∷ [] = one_more trace k
    ∙ ap (λ (o : Option Opportunity). entries trace k ++ option_to_list o) e in
    elim (cases_lt j k) [
      | inl before ↦ ap (λ (l : List Opportunity). slice_get l j) f
          ∙ slice_get-front (entries trace k) (o ∷ []) j (omega arith) ∙ slice_get-entries trace k j some before
      | inr after ↦
          let same : j ≡ length (entries trace k) = omega arith in
          let here : j ≡ k = omega arith in
          ap (λ (l : List Opportunity). slice_get l j) f ∙ ap (slice_get (entries trace k ++ o ∷ [])) same
          ∙ slice_get-next (entries trace k) [] o ∙ sym e ∙ ap (entry trace) (sym here)
    ]
