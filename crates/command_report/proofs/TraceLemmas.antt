-- A made trace has at most one opportunity a millisecond.
use Rattle.std.proofs.Common.{◌≡◌, ℕ, zero, suc, ◌+◌, ◌*◌, ◌/◌, ◌%◌, ◌≤◌, Bool, true, false, cond, List, [], ◌∷◌}
use Rattle.std.proofs.Common.{Option, Some, None, option_to_list, length, map, nat_le, refl, ap, ◌∙◌, arith}
use Rattle.std.proofs.Common.{length-append}
use Rattle.std.proofs.Math.Nat.{mul-le-mul_left, div-mul-le_self}
use Rattle.packet_record.specs.Draws.{next_draw}
use Rattle.trace_reader.specs.declared.opportunity.Opportunity.{Opportunity}
use Rattle.trace_reader.specs.Made.{moments_from}
use Rattle.trace_reader.specs.Opps.{opps, up_to, entries, entry, enough, last_moment}

kept_by : (b : Bool) (o : Opportunity) (kept all : List Opportunity) → length kept ≤ length all
    → length (cond b (o ∷ kept) kept) ≤ length (o ∷ all)
kept_by true o kept all le = omega arith
kept_by false o kept all le = omega arith

length-up_to : (m : ℕ) (os : List Opportunity) → length (up_to m os) ≤ length os
length-up_to m [] = omega arith
length-up_to m (o ∷ os) = kept_by (nat_le o.moment m) o (up_to m os) os (length-up_to m os)

one_at_most : (o : Option Opportunity) → length (option_to_list o) ≤ 1
one_at_most None = omega arith
one_at_most (Some x) = omega arith

length-entries : (trace : List Opportunity) (k : ℕ) → length (entries trace k) ≤ k
unfolding entries
length-entries trace zero = omega arith
length-entries trace (suc k) =
    let rest = length-entries trace k in
    let one = one_at_most (entry trace k) in
    omega (arith, length-append (entries trace k) (option_to_list (entry trace k)))

abbrev pub moments : List Opportunity → List ℕ
moments os = map (λ o. o.moment) os

as_many : (x m n : ℕ) (os : List Opportunity) → moments os ≡ moments_from x m n → length os ≡ n
as_many x m zero [] e = refl
as_many x m (suc n) [] e = cc
as_many x m zero (o ∷ os) e = cc
as_many x m (suc n) (o ∷ os) e =
    let rest : moments os ≡ moments_from (next_draw x) (m + (1 + next_draw x % 3)) n = cc in
    ap suc (as_many (next_draw x) (m + (1 + next_draw x % 3)) n os rest)

last_late : (x m n : ℕ) (o : Opportunity) (os : List Opportunity) → moments (o ∷ os) ≡ moments_from x m n
    → m + n ≤ last_moment (o ∷ os)
last_late x m zero o os e = cc
last_late x m (suc zero) o [] e = let at : o.moment ≡ m + (1 + next_draw x % 3) = cc in omega arith
last_late x m (suc (suc n)) o [] e = cc
last_late x m (suc n) o (p ∷ ps) e =
    let rest : moments (p ∷ ps) ≡ moments_from (next_draw x) (m + (1 + next_draw x % 3)) n = cc in
    let ih = last_late (next_draw x) (m + (1 + next_draw x % 3)) n p ps rest in
    omega arith

last_from : (x n : ℕ) (os : List Opportunity) → moments os ≡ moments_from x 0 n → n ≤ last_moment os
last_from x zero os e = omega arith
last_from x (suc n) [] e = cc
last_from x (suc n) (o ∷ os) e = let late = last_late x 0 (suc n) o os e in omega arith

pub few_made : (x n h : ℕ) (os : List Opportunity) → moments os ≡ moments_from x 0 n → n ≡ 100 → h ≤ 3001000
    → length (opps os false h) ≤ 4000000
unfolding opps
few_made x n h os e hundred most =
    let laps = h / last_moment os in
    let up = length-up_to h (entries os (enough os false h)) in
    let all = length-entries os (enough os false h) in
    let late : 100 ≤ last_moment os = let l = last_from x n os e in omega arith in
    let more : laps * 100 ≤ laps * last_moment os = mul-le-mul_left laps late in
    let low : laps * last_moment os ≤ h = div-mul-le_self h (last_moment os) in
    let whole : (laps + 1) * length os ≡ (laps + 1) * 100 = ap (λ k. (laps + 1) * k) (as_many x 0 n os e ∙ hundred) in
    omega arith
