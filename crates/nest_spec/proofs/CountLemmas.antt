-- The most opportunities that a trace has up to an hour.
use Rattle.std.proofs.Common.{ℕ, zero, suc, ◌+◌, ◌*◌, ◌/◌, ◌≤◌, Bool, true, false, cond, List, [], ◌∷◌, Option, Some}
use Rattle.std.proofs.Common.{None, option_to_list, length, nat_le, arith, length-append}
use Rattle.std.proofs.Math.Nat.{mul-le-mul, div-le_self}
use Rattle.trace_reader.specs.declared.opportunity.Opportunity.{Opportunity}
use Rattle.trace_reader.specs.declared.trace.Trace.{Trace}
use Rattle.trace_reader.specs.Opps.{opps, up_to, entries, entry, enough, last_moment}
use Rattle.trace_reader.specs.Traces.{IsTrace}

kept_by : (b : Bool) (o : Opportunity) (kept all : List Opportunity) → length kept ≤ length all
    → length (cond b (o ∷ kept) kept) ≤ length (o ∷ all)
kept_by true o kept all le = omega arith
kept_by false o kept all le = omega arith

length-up_to : (m : ℕ) (os : List Opportunity) → length (up_to m os) ≤ length os
length-up_to m [] = omega arith
length-up_to m (o ∷ os) = kept_by (nat_le o.moment m) o (up_to m os) os (length-up_to m os)

one_at_most : (o : Option Opportunity) → length (option_to_list o) ≤ 1
one_at_most None = omega arith
one_at_most (Some x) = omega arith

length-entries : (trace : List Opportunity) (k : ℕ) → length (entries trace k) ≤ k
unfolding entries
length-entries trace zero = omega arith
length-entries trace (suc k) =
    let rest = length-entries trace k in
    let one = one_at_most (entry trace k) in
    omega (arith, length-append (entries trace k) (option_to_list (entry trace k)))

enough_within : (trace : List Opportunity) (once : Bool) (h : ℕ) → h ≤ 3600000 → length trace ≤ 1000000
    → enough trace once h ≤ 3600001000000
enough_within trace true h le few = omega arith
enough_within trace false h le few =
    let laps : h / last_moment trace ≤ h = div-le_self h (last_moment trace) in
    let laps_one : h / last_moment trace + 1 ≤ 3600001 = omega arith in
    let whole : (h / last_moment trace + 1) * length trace ≤ 3600001 * 1000000 = mul-le-mul laps_one few in
    omega arith

pub count_within : (trace : Trace) (once : Bool) (h : ℕ) → IsTrace trace → h ≤ 3600000
    → length (opps trace.opportunities once h) ≤ 3600001000000
unfolding opps
count_within trace once h is le =
    let up = length-up_to h (entries trace.opportunities (enough trace.opportunities once h)) in
    let all = length-entries trace.opportunities (enough trace.opportunities once h) in
    let most = enough_within trace.opportunities once h le is.few in
    omega arith
