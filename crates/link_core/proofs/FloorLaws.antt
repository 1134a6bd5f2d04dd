-- Where departures can be, and the floor, which is the moment of the next opportunity or the one after the horizon.
use Rattle.std.proofs.Common.{◌≡◌, ℕ, zero, suc, ◌+◌, ◌-◌, ◌<◌, ◌≤◌, List, [], ◌∷◌, Some, slice_get, length, take, drop}
use Rattle.std.proofs.Common.{reverse, map, arith, refl, ap, sym, subst, ◌∙◌, inl, inr}
use Rattle.std.proofs.lemmas.Bool.{cases_lt}
use Rattle.std.proofs.lemmas.List.{take-append-drop}
use Rattle.std.proofs.lemmas.Option.{slice_get_past}
use Rattle.packet_record.specs.declared.packet.Timed.{Timed}
use Rattle.packet_record.specs.Moments.{AreUpTo, Rise}
use Rattle.packet_record.proofs.MomentsLemmas.{up_to-append, rise-append}
use Rattle.packet_queue.specs.declared.spec.QueueSpec.{QueueSpec}
use Rattle.packet_record.specs.Packets.{moved_to}
use Rattle.trace_reader.specs.declared.opportunity.Opportunity.{Opportunity}
use Rattle.trace_reader.specs.Orders.{Each, AreRising}
use Rattle.trace_reader.proofs.OrderLemmas.{each_map, counted, length-up_to}
use Rattle.trace_reader.proofs.ListLemmas.{some_at, slice_get-take}
use Rattle.link_core.specs.inside.Orders.{AreFalling}
use Rattle.link_core.specs.Links.{keep_with, drop_with, lost_from, link_out, link_lost}
use Rattle.link_core.specs.inside.Back as back
use Rattle.link_core.specs.Promises.{count_to, floor_of}
use Rattle.link_core.proofs.SoundLemmas.{each_reverse, drop_one}
use Rattle.link_core.proofs.KeepLemmas.{up_to_all}
use Rattle.link_core.proofs.InOrder.{out_is, falling_turned}
use Rattle.link_core.proofs.SeenLemmas.{rising_take}
use Rattle.link_core.proofs.OppsLemmas.{each_at}
use Rattle.link_core.proofs.Continuation.{moved_from}
use Rattle.link_core.proofs.LinkLaws.{floor_at, floor_past, between, each_take, from_floor}

moved_to_moment : (low moment : ℕ) (ts : List Timed) → moment ≤ low → AreUpTo low (map (moved_to moment) ts)
moved_to_moment low moment [] le = tt
moved_to_moment low moment (t ∷ ts) le = (le, moved_to_moment low moment ts le)

departures_up_to : (m : ℕ) (kept : List Timed) (os : List Opportunity) → Each (λ o. o.moment ≤ m) os
    → AreUpTo m (back.departures kept os)
departures_up_to m kept [] a = tt
departures_up_to m kept (o ∷ earlier) a =
    up_to-append m (back.departures kept earlier) (map (moved_to o.moment) (back.ended kept o earlier))
    (departures_up_to m kept earlier a.1)
    (moved_to_moment m o.moment (back.ended kept o earlier) a.0)

rise_moved : (moment : ℕ) (ts : List Timed) → Rise (map (moved_to moment) ts)
rise_moved moment [] = tt
rise_moved moment (t ∷ ts) = (moved_from moment moment ts (omega arith), rise_moved moment ts)

departures_rise : (kept : List Timed) (os : List Opportunity) → AreFalling os → Rise (back.departures kept os)
departures_rise kept [] f = tt
departures_rise kept (o ∷ earlier) f =
    rise-append o.moment (back.departures kept earlier) (map (moved_to o.moment) (back.ended kept o earlier))
    (departures_rise kept earlier f.1)
    (departures_up_to o.moment kept earlier f.0)
    (moved_from o.moment o.moment (back.ended kept o earlier) (omega arith))
    (rise_moved o.moment (back.ended kept o earlier))

-- departures rise
pub link_out_rises : (q : QueueSpec) (os : List Opportunity) (b : ℕ) (l : List Timed) → AreRising os
    → Rise (link_out q (take b os) l)
link_out_rises q os b l r =
    subst Rise (sym (out_is q (take b os) l (rising_take b os r)))
    (departures_rise (back.keep q (reverse (take b os)) (reverse l)) (reverse (take b os))
    (falling_turned (take b os) (rising_take b os r)))

out_up_to : (q : QueueSpec) (os : List Opportunity) (b m : ℕ) (l : List Timed) → AreRising os
    → Each (λ o. o.moment ≤ m) (take b os) → AreUpTo m (link_out q (take b os) l)
out_up_to q os b m l r a =
    subst (AreUpTo m) (sym (out_is q (take b os) l (rising_take b os r)))
    (departures_up_to m (back.keep q (reverse (take b os)) (reverse l)) (reverse (take b os))
    (each_reverse (λ o. o.moment ≤ m) (take b os) a))

-- none is past the horizon
pub link_out_within : (q : QueueSpec) (os : List Opportunity) (h b : ℕ) (l : List Timed) → AreRising os
    → Each (λ o. o.moment ≤ h) os → AreUpTo h (link_out q (take b os) l)
link_out_within q os h b l r a = out_up_to q os b h l r (each_take (λ o. o.moment ≤ h) b os a)

lost_up_to : (q : QueueSpec) (os : List Opportunity) (m : ℕ) (kept ts : List Timed) → AreUpTo m ts
    → AreUpTo m (lost_from q os kept ts)
lost_up_to q os m kept [] u = tt
lost_up_to q os m kept (t ∷ ts) u =
    up_to-append m (map (moved_to t.moment) (drop_with q os kept t)) (lost_from q os (keep_with q os kept t) ts)
    (moved_to_moment m t.moment (drop_with q os kept t) u.0)
    (lost_up_to q os m (keep_with q os kept t) ts u.1)

-- nor is any lost past it
pub link_lost_within : (q : QueueSpec) (os : List Opportunity) (h : ℕ) (l : List Timed) → AreUpTo h l
    → AreUpTo h (link_lost q os l)
link_lost_within q os h l u = lost_up_to q os h [] l u

burnt_up_to : (os : List Opportunity) (h b : ℕ) → AreRising os → Each (λ o. o.moment ≤ h) os
    → Each (λ o. o.moment ≤ floor_of os h b) (take b os)
burnt_up_to os h b r a = elim (cases_lt b (length os)) [
  | inl lt ↦
      let next = some_at os b lt in
      let o = next.0 in
      let rest : drop b os ≡ o ∷ drop (suc b) os = drop_one os b o next.1 in
      let e = floor_at os h b o next.1 in
      let before = between (take b os) (drop b os) (subst AreRising (sym (take-append-drop b os)) r) in
      let first = (subst (Each (λ p. Each (λ x. x.moment ≤ p.moment) (take b os))) rest before).0 in
      each_map (λ x. x.moment ≤ o.moment) (λ x. x.moment ≤ floor_of os h b) (take b os) (λ x le. omega arith) first
  | inr le ↦
      let e = floor_past os h b (slice_get_past os b le) in
      each_map (λ x. x.moment ≤ h) (λ x. x.moment ≤ floor_of os h b) (take b os) (λ x le'. omega arith)
      (each_take (λ o. o.moment ≤ h) b os a)
]

-- what has departed is not after the floor
pub link_out_up_to : (q : QueueSpec) (os : List Opportunity) (h b : ℕ) (l : List Timed) → AreRising os
    → Each (λ o. o.moment ≤ h) os → AreUpTo (floor_of os h b) (link_out q (take b os) l)
link_out_up_to q os h b l r a = out_up_to q os b (floor_of os h b) l r (burnt_up_to os h b r a)

-- the floor is within the horizon plus 1, and never sinks
pub link_floor_within : (os : List Opportunity) (h b : ℕ) → Each (λ o. o.moment ≤ h) os → floor_of os h b ≤ h + 1
link_floor_within os h b a = elim (cases_lt b (length os)) [
  | inl lt ↦
      let next = some_at os b lt in
      let e = floor_at os h b next.0 next.1 in
      let within = each_at (λ o. o.moment ≤ h) os b next.0 a next.1 in
      omega arith
  | inr le ↦ let e = floor_past os h b (slice_get_past os b le) in omega arith
]

get_drop : (os : List Opportunity) (b i : ℕ) → b ≤ i → slice_get (drop b os) (i - b) ≡ slice_get os i
get_drop os zero i le = ap (slice_get os) (let e : i - 0 ≡ i = omega arith in e)
get_drop [] (suc b) i le = refl
get_drop (o ∷ os) (suc b) zero le = absurd (omega arith)
get_drop (o ∷ os) (suc b) (suc i) le = let e : suc i - suc b ≡ i - b = omega arith in ap (slice_get (drop b os)) e
    ∙ get_drop os b i (omega arith)

each_get : (P : Opportunity → Type 0) (b i : ℕ) (os : List Opportunity) (o : Opportunity) → Each P (drop b os) → b ≤ i
    → slice_get os i ≡ Some o → P o
each_get P b i os o a le e = each_at P (drop b os) (i - b) o a (get_drop os b i le ∙ e)

pub link_floor_grows : (os : List Opportunity) (h b b' : ℕ) → AreRising os → Each (λ o. o.moment ≤ h) os → b ≤ b'
    → floor_of os h b ≤ floor_of os h b'
link_floor_grows os h b b' r a le = elim (cases_lt b' (length os)) [
  | inl lt ↦
      let next = some_at os b' lt in
      let e = floor_at os h b' next.0 next.1 in
      let from = each_get (λ o. floor_of os h b ≤ o.moment) b b' os next.0 (from_floor os h b r) le next.1 in
      omega arith
  | inr past ↦
      let e = floor_past os h b' (slice_get_past os b' past) in
      let within = link_floor_within os h b a in
      omega arith
]

-- where all opportunities up to the bound are burnt, and one at least just now, the floor rises
pub link_floor_rises : (os : List Opportunity) (h b bound : ℕ) → AreRising os → Each (λ o. o.moment ≤ h) os
    → b < count_to os bound → floor_of os h b < floor_of os h (count_to os bound)
link_floor_rises os h b bound r a lt =
    let n = count_to os bound in
    let few = length-up_to bound os in
    let next = some_at os b (omega arith) in
    let e = floor_at os h b next.0 next.1 in
    let early = each_at (λ o. o.moment ≤ bound) (take n os) b next.0 (counted bound os r).0 (slice_get-take os n b lt
    ∙ next.1) in
    let within = each_at (λ o. o.moment ≤ h) os b next.0 a next.1 in
    elim (cases_lt n (length os)) [
      | inl some ↦
          let after = some_at os n some in
          let e' = floor_at os h n after.0 after.1 in
          let late = each_get (λ o. bound < o.moment) n n os after.0 (counted bound os r).1 (omega arith) after.1 in
          omega arith
      | inr past ↦ let e' = floor_past os h n (slice_get_past os n past) in omega arith
    ]

-- every opportunity up to the horizon counts at it
pub link_all_at_horizon : (os : List Opportunity) (h : ℕ) → Each (λ o. o.moment ≤ h) os → count_to os h ≡ length os
link_all_at_horizon os h a = ap length (up_to_all h os a)

-- where all opportunities up to the bound are burnt, the floor isn't below it
pub link_floor_from : (os : List Opportunity) (h b bound : ℕ) → AreRising os → bound ≤ h + 1 → count_to os bound ≤ b
    → bound ≤ floor_of os h b
link_floor_from os h b bound r le all = elim (cases_lt b (length os)) [
  | inl some ↦
      let after = some_at os b some in
      let e = floor_at os h b after.0 after.1 in
      let late = each_get (λ o. bound < o.moment) (count_to os bound) b os after.0 (counted bound os r).1 all after.1 in
      omega arith
  | inr past ↦ let e = floor_past os h b (slice_get_past os b past) in omega arith
]

-- and it is above a bound up to the horizon
pub link_floor_above : (os : List Opportunity) (h b bound : ℕ) → AreRising os → bound ≤ h → count_to os bound ≤ b
    → bound < floor_of os h b
link_floor_above os h b bound r le all = elim (cases_lt b (length os)) [
  | inl some ↦
      let after = some_at os b some in
      let e = floor_at os h b after.0 after.1 in
      let late = each_get (λ o. bound < o.moment) (count_to os bound) b os after.0 (counted bound os r).1 all after.1 in
      omega arith
  | inr past ↦ let e = floor_past os h b (slice_get_past os b past) in omega arith
]
