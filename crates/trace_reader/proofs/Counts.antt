-- What the code counts and reads of a trace.
use Rattle.std.proofs.Common.{◌≡◌, ℕ, zero, suc, ◌+◌, ◌*◌, ◌/◌, ◌%◌, ◌^◌, ◌<◌, ◌≤◌, Bool, true, false, cond, IsTrue}
use Rattle.std.proofs.Common.{List, [], ◌∷◌, length, get_or, Some, slice_get, nat_le, Fits, w64, refl, ap, sym, subst}
use Rattle.std.proofs.Common.{◌∙◌, arith}
use Rattle.std.specs.List.{AllWithin}
use Rattle.std.specs.List.Sorted.{IsNonDecreasingBy, IsPartitionedBy}
use Rattle.std.specs.Option.{option_map}
use Rattle.std.proofs.lemmas.Bool.{lt-leb}
use Rattle.std.proofs.lemmas.List.Sorted.{IsPartitionedBy-leb}
use Rattle.std.proofs.Math.Nat.{mul-le-mul_right, div-le_self}
use Rattle.trace_reader.specs.declared.opportunity.Opportunity.{Opportunity}
use Rattle.trace_reader.specs.Orders.{Each, AreRising}
use Rattle.trace_reader.specs.Opps.{up_to, last_moment, later, entry, opportunity_at, opps}
use Rattle.trace_reader.proofs.Fields.{same_opportunity}
use Rattle.trace_reader.proofs.OrderLemmas.{last_latest}
use Rattle.trace_reader.proofs.OppsLaws.{opps_once, length-opps}

pub each_at : (P : Opportunity → Type 0) (opps : List Opportunity) (i : ℕ) (d : Opportunity) → Each P opps
    → i < length opps → P (get_or opps i d)
each_at P [] i d a lt = absurd (omega arith)
each_at P (o ∷ opps) zero d a lt = a.0
each_at P (o ∷ opps) (suc i) d a lt = each_at P opps i d a.1 (omega arith)

non_decreasing : (opps : List Opportunity) → AreRising opps → IsNonDecreasingBy (λ o. o.moment) opps
non_decreasing [] r i j d le lt = absurd (omega arith)
non_decreasing (o ∷ opps) r zero zero d le lt = omega arith
non_decreasing (o ∷ opps) r zero (suc j) d le lt = each_at (λ p. o.moment ≤ p.moment) opps j d r.0 (omega arith)
non_decreasing (o ∷ opps) r (suc i) zero d le lt = absurd (omega arith)
non_decreasing (o ∷ opps) r (suc i) (suc j) d le lt = non_decreasing opps r.1 i j d (omega arith) (omega arith)

pub partitioned : (m : ℕ) (opps : List Opportunity) → AreRising opps → IsPartitionedBy (λ o. nat_le o.moment m) opps
partitioned m opps r = IsPartitionedBy-leb (λ (o : Opportunity). o.moment) opps m (non_decreasing opps r)

none_pass : (m : ℕ) (opps : List Opportunity)
    → ((k : ℕ) (d : Opportunity) → k < length opps → nat_le (get_or opps k d).moment m ≡ false) → up_to m opps ≡ []
none_pass m [] h = refl
none_pass m (o ∷ opps) h = ap (λ b. cond b (o ∷ up_to m opps) (up_to m opps)) (h 0 o (omega arith))
    ∙ none_pass m opps (λ k d lt. h (suc k) d (omega arith))

pub counted_by_point : (m : ℕ) (opps : List Opportunity) (i : ℕ) → i ≤ length opps
    → AllWithin (λ o. nat_le o.moment m ≡ true) opps 0 i
    → AllWithin (λ o. nat_le o.moment m ≡ false) opps i (length opps) → i ≡ length (up_to m opps)
counted_by_point m [] i le a b = omega arith
counted_by_point m (o ∷ opps) zero le a b = sym (ap length (none_pass m (o ∷ opps) (λ k d lt. b k d (omega arith) lt)))
counted_by_point m (o ∷ opps) (suc i) le a b =
    let ih = counted_by_point m opps i (omega arith) (λ k d low high. a (suc k) d (omega arith) (omega arith))
    (λ k d low high. b (suc k) d (omega arith) (omega arith)) in
    let first : nat_le o.moment m ≡ true = a 0 o (omega arith) (omega arith) in
    ap suc ih ∙ sym (ap (λ b. length (cond b (o ∷ up_to m opps) (up_to m opps))) first)

pub count_once : (trace : List Opportunity) (once : Bool) (horizon n : ℕ) → IsTrue once
    → n ≡ length (up_to horizon trace) → n ≡ length (opps trace once horizon)
count_once trace true horizon n is e = e ∙ sym (ap length (opps_once trace horizon))
count_once trace false horizon n is e = cc

pub count_laps : (trace : List Opportunity) (once : Bool) (horizon n k last : ℕ) → (IsTrue once → ⊥) → AreRising trace
    → last ≡ last_moment trace
    → k ≡ length trace → n ≡ length (up_to (horizon % last) trace)
    → horizon / last * k + n ≡ length (opps trace once horizon)
count_laps trace true horizon n k last not_once r d e f = absurd (not_once refl)
count_laps trace false horizon n k last not_once r d e f =
    ap (λ (x : ℕ). horizon / last * k + x) f
    ∙ ap (λ (x : ℕ). horizon / last * x + length (up_to (horizon % last) trace)) e
    ∙ ap (λ (x : ℕ). horizon / x * length trace + length (up_to (horizon % x) trace)) d
    ∙ sym (length-opps trace horizon r)

pub count_fits : (horizon last k n : ℕ) → horizon ≤ 10000000000 → k ≤ 1000000 → n ≤ k
    → Fits w64 (horizon / last * k + n)
count_fits horizon last k n h few le =
    let q : horizon / last ≤ horizon = div-le_self horizon last in
    let a : horizon / last * k ≤ 10000000000 * k = mul-le-mul_right k (omega arith) in
    omega arith

-- the opportunity that stands at this place
abbrev pub StandsAt : List Opportunity → ℕ → ℕ → Opportunity → Type 0
StandsAt trace j count o = slice_get trace (j % count) ≡ Some o

each_some : (P : Opportunity → Type 0) (opps : List Opportunity) (i : ℕ) (o : Opportunity) → Each P opps
    → slice_get opps i ≡ Some o → P o
each_some P [] i o a e = cc
each_some P (p ∷ opps) zero o a e = let same : p ≡ o = cc in subst P same a.0
each_some P (p ∷ opps) (suc i) o a e = each_some P opps i o a.1 e

pub moment_fits : (trace : List Opportunity) (j count last : ℕ) (o : Opportunity) → j < 2 ^ 30 → AreRising trace
    → last_moment trace ≤ 9999999999
    → last ≡ last_moment trace → StandsAt trace j count o → Fits w64 (o.moment + j / count * last)
moment_fits trace j count last o few r most f at =
    let here : o.moment ≤ last_moment trace = each_some (λ p. p.moment ≤ last_moment trace) trace (j % count) o
    (last_latest trace r) at in
    let q : j / count ≤ j = div-le_self j count in
    let a : j / count * last ≤ 1073741823 * last = mul-le-mul_right last (omega arith) in
    omega arith

not_past : (trace : List Opportunity) (once : Bool) (j : ℕ) → (IsTrue once → j < length trace)
    → opportunity_at trace once j ≡ entry trace j
not_past trace true j within = let lt : j < length trace = within refl in rw (lt-leb (length trace) j lt)
not_past trace false j within = refl

pub at_value : (trace : List Opportunity) (once : Bool) (j count last : ℕ) (o : Opportunity) (p : 1 ≤ o.bytes)
    (q : o.bytes ≤ 1000000)
    → (IsTrue once → j < count) → count ≡ length trace → last ≡ last_moment trace → StandsAt trace j count o
    → Some (record { moment = o.moment + j / count * last; bytes = o.bytes; some = p; most = q }) ≡ opportunity_at
    trace once j
at_value trace once j count last o p q within e f at =
    let by = j / length trace * last_moment trace in
    let get : slice_get trace (j % length trace) ≡ Some o = ap (λ (n : ℕ). slice_get trace (j % n)) (sym e) ∙ at in
    let moment : o.moment + j / count * last ≡ o.moment + by = ap (λ (n : ℕ). o.moment + j / n * last) e
    ∙ ap (λ (l : ℕ). o.moment + j / length trace * l) f in
    let same = same_opportunity (later by o) (o.moment + j / count * last) o.bytes p q moment refl in
    ap Some same ∙ sym (ap (option_map (later by)) get)
    ∙ sym (not_past trace once j (λ t. subst (λ n. j < n) e (within t)))
