-- The departures, opportunity by opportunity, are those packet by packet. And what each kind of queue keeps.
use Rattle.std.proofs.Common.{◌≡◌, ℕ, ◌+◌, ◌-◌, ◌<◌, ◌≤◌, ◌++◌, cond, List, [], ◌∷◌, Option, Some, None}
use Rattle.std.proofs.Common.{nat_le, map, arith, refl, ap, sym, ◌∙◌, inl, inr}
use Rattle.std.proofs.lemmas.Bool.{cases_lt, le-leb, lt-leb}
use Rattle.packet_record.specs.declared.packet.Timed.{Timed}
use Rattle.packet_record.specs.Packets.{moved_to}
use Rattle.trace_reader.specs.declared.opportunity.Opportunity.{Opportunity}
use Rattle.link_core.specs.inside.Stream.{ending}
use Rattle.link_core.specs.inside.Orders.{AreFalling}
use Rattle.link_core.specs.inside.Back.{sent, ended, departures}
use Rattle.link_core.proofs.Least.{or_then, moment_sent, onto_some, departing}
use Rattle.link_core.proofs.StreamLemmas.{ending_in, ending_before, ending_after}
use Rattle.link_core.proofs.SentLemmas.{sent_more}

moment_now : (kept : List Timed) (o : Opportunity) (earlier : List Opportunity) (n : ℕ)
    → moment_sent kept earlier n ≡ None → n ≤ sent kept (o ∷ earlier)
    → moment_sent kept (o ∷ earlier) n ≡ Some o.moment
moment_now kept o earlier n e le =
    ap (λ (m : Option ℕ). or_then m (cond (nat_le n (sent kept (o ∷ earlier))) (Some o.moment) None)) e
    ∙ ap (λ b. cond b (Some o.moment) None) (le-leb n (sent kept (o ∷ earlier)) le)

moment_later : (kept : List Timed) (o : Opportunity) (earlier : List Opportunity) (n : ℕ)
    → moment_sent kept earlier n ≡ None → sent kept (o ∷ earlier) < n
    → moment_sent kept (o ∷ earlier) n ≡ None
moment_later kept o earlier n e lt =
    ap (λ (m : Option ℕ). or_then m (cond (nat_le n (sent kept (o ∷ earlier))) (Some o.moment) None)) e
    ∙ ap (λ b. cond b (Some o.moment) None) (lt-leb n (sent kept (o ∷ earlier)) lt)

-- no moment where fewer are sent in all
pub no_moment : (kept : List Timed) (opps : List Opportunity) (n : ℕ) → AreFalling opps → sent kept opps < n
    → moment_sent kept opps n ≡ None
no_moment kept [] n f lt = refl
no_moment kept (o ∷ earlier) n f lt =
    let more = sent_more kept o earlier f.0 in
    let less : sent kept earlier < n = omega arith in
    moment_later kept o earlier n (no_moment kept earlier n f.1 less) lt

-- an opportunity changes no moment before it
moment_keeps : (kept : List Timed) (o : Opportunity) (earlier : List Opportunity) (n m : ℕ)
    → moment_sent kept earlier n ≡ Some m → moment_sent kept (o ∷ earlier) n ≡ Some m
moment_keeps kept o earlier n m e =
    ap (λ (x : Option ℕ). or_then x (cond (nat_le n (sent kept (o ∷ earlier))) (Some o.moment) None)) e

-- some moment where that number are sent in all
pub some_moment : (kept : List Timed) (opps : List Opportunity) (n : ℕ) → AreFalling opps → 0 < n → n ≤ sent kept opps
    → (m : ℕ) × (moment_sent kept opps n ≡ Some m)
some_moment kept [] n f some le = absurd (omega arith)
some_moment kept (o ∷ earlier) n f some le = elim (cases_lt (sent kept earlier) n) [
  | inl lt ↦ (o.moment, moment_now kept o earlier n (no_moment kept earlier n f.1 lt) le)
  | inr ge ↦ let before = some_moment kept earlier n f.1 some ge
      in (before.0, moment_keeps kept o earlier n before.0 before.1)
]

departing_some : (kept : List Timed) (opps : List Opportunity) (before m : ℕ) (t : Timed) (ts : List Timed)
    → moment_sent kept opps (before + t.packet.size) ≡ Some m
    → departing kept opps before (t ∷ ts) ≡ moved_to m t ∷ departing kept opps (before + t.packet.size) ts
departing_some kept opps before m t ts e =
    ap (λ (o : Option ℕ). onto_some o t (departing kept opps (before + t.packet.size) ts)) e

departing_none : (kept : List Timed) (opps : List Opportunity) (before : ℕ) (t : Timed) (ts : List Timed)
    → moment_sent kept opps (before + t.packet.size) ≡ None
    → departing kept opps before (t ∷ ts) ≡ departing kept opps (before + t.packet.size) ts
departing_none kept opps before t ts e =
    ap (λ (o : Option ℕ). onto_some o t (departing kept opps (before + t.packet.size) ts)) e

none_departing : (kept : List Timed) (opps : List Opportunity) (before : ℕ) (ts : List Timed) → AreFalling opps
    → sent kept opps ≤ before → departing kept opps before ts ≡ []
none_departing kept opps before [] f le = refl
none_departing kept opps before (t ∷ ts) f le =
    let some = t.packet.some in
    let lt : sent kept opps < before + t.packet.size = omega arith in
    let le' : sent kept opps ≤ before + t.packet.size = omega arith in
    departing_none kept opps before t ts (no_moment kept opps (before + t.packet.size) f lt)
    ∙ none_departing kept opps (before + t.packet.size) ts f le'

departing_more : (kept : List Timed) (o : Opportunity) (earlier : List Opportunity) (before low high : ℕ)
    (ts : List Timed) → AreFalling (o ∷ earlier)
    → low ≡ sent kept earlier - before → high ≡ sent kept (o ∷ earlier) - before
    → departing kept (o ∷ earlier) before ts ≡ departing kept earlier before ts
    ++ map (moved_to o.moment) (ending low high ts)
departing_more kept o earlier before low high [] f e e' = refl
departing_more kept o earlier before low high (t ∷ ts) f e e' =
    let n = before + t.packet.size in
    let some = t.packet.some in
    let more = sent_more kept o earlier f.0 in
    let e1 : low - t.packet.size ≡ sent kept earlier - n = omega arith in
    let e2 : high - t.packet.size ≡ sent kept (o ∷ earlier) - n = omega arith in
    let ih = departing_more kept o earlier n (low - t.packet.size) (high - t.packet.size) ts f e1 e2 in
    elim (cases_lt (sent kept earlier) n) [
      | inr ge ↦
          let pos : 0 < n = omega arith in
          let now = some_moment kept earlier n f.1 pos ge in
          let in_low : t.packet.size ≤ low = omega arith in
          departing_some kept (o ∷ earlier) before now.0 t ts (moment_keeps kept o earlier n now.0 now.1)
          ∙ ap (λ (xs : List Timed). moved_to now.0 t ∷ xs) ih
          ∙ ap (λ (xs : List Timed). xs ++ map (moved_to o.moment)
          (ending (low - t.packet.size) (high - t.packet.size) ts))
          (sym (departing_some kept earlier before now.0 t ts now.1))
          ∙ ap (λ (xs : List Timed). departing kept earlier before (t ∷ ts) ++ map (moved_to o.moment) xs)
          (sym (ending_before low high t ts in_low))
      | inl lt ↦
          let none = no_moment kept earlier n f.1 lt in
          let after_low : low < t.packet.size = omega arith in
          elim (cases_lt (sent kept (o ∷ earlier)) n) [
            | inl later ↦
                let after : high < t.packet.size = omega arith in
                departing_none kept (o ∷ earlier) before t ts (moment_later kept o earlier n none later)
                ∙ ih
                ∙ ap (λ (xs : List Timed). xs ++ map (moved_to o.moment)
                (ending (low - t.packet.size) (high - t.packet.size) ts))
                (sym (departing_none kept earlier before t ts none))
                ∙ ap (λ (xs : List Timed). departing kept earlier before (t ∷ ts) ++ map (moved_to o.moment) xs)
                (sym (ending_after low high t ts after_low after))
            | inr now ↦
                let in_high : t.packet.size ≤ high = omega arith in
                let le' : sent kept earlier ≤ n = omega arith in
                let empty : departing kept earlier n ts ≡ [] = none_departing kept earlier n ts f.1 le' in
                let whole : departing kept earlier before (t ∷ ts) ≡ [] = departing_none kept earlier before t ts none
                ∙ empty in
                departing_some kept (o ∷ earlier) before o.moment t ts (moment_now kept o earlier n none now)
                ∙ ap (λ (xs : List Timed). moved_to o.moment t ∷ xs) ih
                ∙ ap (λ (xs : List Timed). moved_to o.moment t ∷
                (xs ++ map (moved_to o.moment) (ending (low - t.packet.size) (high - t.packet.size) ts))) empty
                ∙ ap (λ (xs : List Timed). map (moved_to o.moment) xs) (sym (ending_in low high t ts after_low in_high))
                ∙ ap (λ (xs : List Timed). xs ++ map (moved_to o.moment) (ending low high (t ∷ ts))) (sym whole)
          ]
    ]

no_opps : (kept : List Timed) (before : ℕ) (ts : List Timed) → departing kept [] before ts ≡ []
no_opps kept before [] = refl
no_opps kept before (t ∷ ts) = no_opps kept (before + t.packet.size) ts

-- the two are one
pub departures_least : (kept : List Timed) (opps : List Opportunity) → AreFalling opps
    → departures kept opps ≡ departing kept opps 0 kept
departures_least kept [] f = sym (no_opps kept 0 kept)
departures_least kept (o ∷ earlier) f =
    let e : sent kept earlier ≡ sent kept earlier - 0 = omega arith in
    let e' : sent kept (o ∷ earlier) ≡ sent kept (o ∷ earlier) - 0 = omega arith in
    ap (λ (xs : List Timed). xs ++ map (moved_to o.moment) (ended kept o earlier)) (departures_least kept earlier f.1)
    ∙ sym (departing_more kept o earlier 0 (sent kept earlier) (sent kept (o ∷ earlier)) kept f e e')
