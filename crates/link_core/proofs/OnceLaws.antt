-- Each packet that arrives has departed, is dropped or is inside, and only one of these.
use Rattle.std.proofs.Common.{◌≡◌, ℕ, ◌+◌, ◌-◌, ◌<◌, ◌≤◌, ◌++◌, Bool, true, false, cond, List, [], ◌∷◌, map, arith}
use Rattle.std.proofs.Common.{refl, ap, sym, ◌∙◌, inl, inr}
use Rattle.std.proofs.lemmas.Bool.{cases_lt}
use Rattle.packet_record.specs.declared.packet.Packet.{Packet}
use Rattle.packet_record.specs.declared.packet.Timed.{Timed}
use Rattle.packet_queue.specs.declared.spec.QueueKind.{QueueKind}
use Rattle.packet_queue.specs.declared.spec.QueueKind.TheVariants.{Infinite, DropTail, DropHead}
use Rattle.packet_queue.specs.declared.spec.QueueSpec.{QueueSpec}
use Rattle.packet_record.specs.Packets.{moved_to}
use Rattle.packet_record.specs.Packets.{number}
use Rattle.packet_queue.specs.Queues.{fits, fitting, excess, enqueued, enqueued_by, dropped_by}
use Rattle.trace_reader.specs.declared.opportunity.Opportunity.{Opportunity}
use Rattle.link_core.specs.Stream.{waiting, ahead}
use Rattle.link_core.specs.inside.Stream.{carried, rest, ending}
use Rattle.link_core.specs.inside.Orders.{AreFalling}
use Rattle.trace_reader.specs.Opps.{up_to}
use Rattle.link_core.specs.inside.Back.{sent, keep, dropped_at, losses, ended, departures}
use Rattle.link_core.proofs.StreamLemmas.{carried_over, carried_stops, rest_over, rest_stops, ending_in, ending_before}
use Rattle.link_core.proofs.StreamLemmas.{ending_after, ending_none, ending_first, ahead_waiting}
use Rattle.link_core.proofs.SentLemmas.{sent_more}

pub number_append : (p : Packet → Bool) (xs ys : List Timed) → number p (xs ++ ys) ≡ number p xs + number p ys
number_append p [] ys = omega arith
number_append p (x ∷ xs) ys = let ih = number_append p xs ys in omega arith

pub number_moved : (p : Packet → Bool) (m : ℕ) (xs : List Timed) → number p (map (moved_to m) xs) ≡ number p xs
number_moved p m [] = refl
number_moved p m (x ∷ xs) = ap (λ n. cond (p x.packet) 1 0 + n) (number_moved p m xs)

number_fitting : (p : Packet → Bool) (q : QueueSpec) (ts : List Timed)
    → number p (fitting q ts) + number p (excess q ts) ≡ number p ts
number_fitting p q [] = refl
number_fitting p q (t ∷ ts) =
    let ih = number_fitting p q ts in
    elim (fits q (t ∷ ts)) as (λ b. number p (cond b (t ∷ ts) (fitting q ts)) + number p (cond b [] (t ∷ excess q ts))
    ≡ number p (t ∷ ts)) [
      | true ↦ omega arith
      | false ↦ omega arith
    ]

number_enqueued_by : (p : Packet → Bool) (k : QueueKind) (q : QueueSpec) (ts : List Timed) (t : Timed)
    → number p (enqueued_by k q ts t) + number p (dropped_by k q ts t) ≡ number p (ts ++ t ∷ [])
number_enqueued_by p Infinite q ts t = omega arith
number_enqueued_by p DropTail q ts t =
    let both = number_append p ts (t ∷ []) in
    elim (fits q (ts ++ t ∷ [])) as (λ b. number p (cond b (ts ++ t ∷ []) ts) + number p (cond b [] (t ∷ [])) ≡ number
    p (ts ++ t ∷ [])) [
      | true ↦ omega arith
      | false ↦ omega arith
    ]
number_enqueued_by p DropHead q ts t = number_fitting p q (ts ++ t ∷ [])

-- kept or lost
pub number_kept : (p : Packet → Bool) (q : QueueSpec) (opps : List Opportunity) (arrivals : List Timed)
    → number p (keep q opps arrivals) + number p (losses q opps arrivals) ≡ number p arrivals
number_kept p q opps [] = refl
number_kept p q opps (t ∷ earlier) =
    let kept = keep q opps earlier in
    let n = sent kept (up_to t.moment opps) in
    let ih = number_kept p q opps earlier in
    let both : number p (ahead n kept ++ waiting n kept) ≡ number p kept = ap (number p) (ahead_waiting n kept) in
    let apart = number_append p (ahead n kept) (waiting n kept) in
    let after = number_append p (ahead n kept) (enqueued q (waiting n kept) t) in
    let queue = number_enqueued_by p q.kind q (waiting n kept) t in
    let new = number_append p (waiting n kept) (t ∷ []) in
    let lost = number_append p (losses q opps earlier) (map (moved_to t.moment) (dropped_at q opps kept t)) in
    let moved = number_moved p t.moment (dropped_at q opps kept t) in
    omega arith

carried_rest : (n : ℕ) (ts : List Timed) → carried n ts ++ rest n ts ≡ ts
carried_rest n [] = refl
carried_rest n (t ∷ ts) = elim (cases_lt n t.packet.size) [
  | inl lt ↦ rw (carried_stops n t ts lt, rest_stops n t ts lt)
  | inr ge ↦ rw (carried_over n t ts ge, rest_over n t ts ge)
      (ap (λ (us : List Timed). t ∷ us) (carried_rest (n - t.packet.size) ts))
]

carried_ending : (low high : ℕ) (ts : List Timed) → low ≤ high → carried low ts ++ ending low high ts ≡ carried high ts
carried_ending low high [] le = refl
carried_ending low high (t ∷ ts) le =
    let less : low - t.packet.size ≤ high - t.packet.size = omega arith in
    elim (cases_lt low t.packet.size) [
      | inr ge ↦
          let ge' : t.packet.size ≤ high = omega arith in
          rw (carried_over low t ts ge, ending_before low high t ts ge, carried_over high t ts ge')
          (ap (λ (us : List Timed). t ∷ us) (carried_ending (low - t.packet.size) (high - t.packet.size) ts less))
      | inl lt ↦
          let none : low - t.packet.size ≡ 0 = omega arith in
          ap (λ (us : List Timed). us ++ ending low high (t ∷ ts)) (carried_stops low t ts lt)
          ∙ elim (cases_lt high t.packet.size) [
            | inl gt ↦
                let zero_high : high - t.packet.size ≡ 0 = omega arith in
                ending_after low high t ts lt gt ∙ ending_none (low - t.packet.size) (high - t.packet.size) ts
                zero_high ∙ sym (carried_stops high t ts gt)
            | inr ends ↦
                ending_in low high t ts lt ends
                ∙ ap (λ (us : List Timed). t ∷ us) (ending_first (low - t.packet.size) (high - t.packet.size) ts none)
                ∙ sym (carried_over high t ts ends)
          ]
    ]

carried_none : (n : ℕ) (ts : List Timed) → n ≡ 0 → carried n ts ≡ []
carried_none n [] e = refl
carried_none n (t ∷ ts) e = let some = t.packet.some in let lt : n < t.packet.size = omega arith
    in carried_stops n t ts lt

number_departures : (p : Packet → Bool) (kept : List Timed) (opps : List Opportunity) → AreFalling opps
    → number p (departures kept opps) ≡ number p (carried (sent kept opps) kept)
number_departures p kept [] f = sym (ap (number p) (carried_none 0 kept refl))
number_departures p kept (o ∷ earlier) f =
    let ih = number_departures p kept earlier f.1 in
    let more = number_append p (departures kept earlier) (map (moved_to o.moment) (ended kept o earlier)) in
    let moved = number_moved p o.moment (ended kept o earlier) in
    let joined : number p (carried (sent kept earlier) kept ++ ended kept o earlier) ≡ number p
    (carried (sent kept (o ∷ earlier)) kept)
    = ap (number p) (carried_ending (sent kept earlier) (sent kept (o ∷ earlier)) kept (sent_more kept o earlier f.0))
    in
    let apart = number_append p (carried (sent kept earlier) kept) (ended kept o earlier) in
    omega arith

-- departed, dropped or inside
pub number_once : (p : Packet → Bool) (q : QueueSpec) (opps : List Opportunity) (arrivals : List Timed)
    → AreFalling opps
    → number p arrivals
    ≡ number p (departures (keep q opps arrivals) opps) + number p (losses q opps arrivals)
    + number p (rest (sent (keep q opps arrivals) opps) (keep q opps arrivals))
number_once p q opps arrivals f =
    let kept = keep q opps arrivals in
    let a = number_kept p q opps arrivals in
    let b = number_departures p kept opps f in
    let c : number p (carried (sent kept opps) kept ++ rest (sent kept opps) kept) ≡ number p kept =
    ap (number p) (carried_rest (sent kept opps) kept) in
    let d = number_append p (carried (sent kept opps) kept) (rest (sent kept opps) kept) in
    omega arith
