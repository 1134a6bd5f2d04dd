-- The first opportunity with which a number of bytes are sent.
use Rattle.std.proofs.Common.{◌≡◌, ℕ, suc, ◌+◌, ◌-◌, ◌<◌, ◌≤◌, ◌++◌, false, cond, List, [], ◌∷◌, Option, Some, None}
use Rattle.std.proofs.Common.{option_to_list, reverse, length, nat_le, slice_get, arith, refl, ap, sym, ◌∙◌, inl, inr}
use Rattle.std.specs.Option.{option_map, option_and_then}
use Rattle.std.proofs.lemmas.Bool.{cases_lt, le-leb, lt-leb, eq-eqb, ne_eqb}
use Rattle.packet_record.specs.declared.packet.Timed.{Timed}
use Rattle.packet_record.specs.Packets.{moved_to}
use Rattle.trace_reader.specs.declared.opportunity.Opportunity.{Opportunity}
use Rattle.trace_reader.proofs.ListLemmas.{slice_get-front, slice_get-next, some_at}
use Rattle.link_core.specs.inside.Orders.{AreFalling}
use Rattle.link_core.specs.inside.Stream.{rest, ending}
use Rattle.link_core.specs.Links.{sent_with, sums_sent, first_reaching, first_sent, departure_at, departing, leaving}
use Rattle.link_core.specs.Links.{is_number, is_no_number}
use Rattle.link_core.specs.inside.Back as back
use Rattle.link_core.proofs.Least as least
use Rattle.link_core.proofs.SentLemmas as sums
use Rattle.link_core.proofs.StreamLemmas.{rest_over, rest_stops, rest_zero, ending_in, ending_before, ending_after}
use Rattle.link_core.proofs.Turned.{reverse_cons, sent_back, sums_more}

-- among sums
now : (n m : ℕ) (ms : List ℕ) → n ≤ m → first_reaching n (m ∷ ms) ≡ Some 0
now n m ms le = ap (λ b. cond b (Some 0) (option_map suc (first_reaching n ms))) (le-leb n m le)

not_now : (n m : ℕ) (ms : List ℕ) → m < n → first_reaching n (m ∷ ms) ≡ option_map suc (first_reaching n ms)
not_now n m ms lt = ap (λ b. cond b (Some 0) (option_map suc (first_reaching n ms))) (lt-leb n m lt)

no_suc : (o : Option ℕ) → option_map suc o ≡ None → o ≡ None
no_suc None e = refl
no_suc (Some j) e = cc

some_suc : (o : Option ℕ) (i : ℕ) → option_map suc o ≡ Some i → (j : ℕ) × (o ≡ Some j) × (i ≡ suc j)
some_suc None i e = cc
some_suc (Some j) i e = let h : suc j ≡ i = cc in (j, refl, sym h)

-- the first, whatever comes after
stays : (n i : ℕ) (ms later : List ℕ) → first_reaching n ms ≡ Some i → first_reaching n (ms ++ later) ≡ Some i
stays n i [] later e = cc
stays n i (m ∷ ms) later e = elim (cases_lt m n) [
  | inr le ↦ now n m (ms ++ later) le ∙ sym (now n m ms le) ∙ e
  | inl lt ↦
      let before = some_suc (first_reaching n ms) i (sym (not_now n m ms lt) ∙ e) in
      not_now n m (ms ++ later) lt ∙ ap (option_map suc) (stays n before.0 ms later before.1) ∙ ap Some (sym before.2)
]

none_below : (n m : ℕ) (ms : List ℕ) → first_reaching n (m ∷ ms) ≡ None → (m < n) × (first_reaching n ms ≡ None)
none_below n m ms e = elim (cases_lt m n) [
  | inl lt ↦ (lt, no_suc (first_reaching n ms) (sym (not_now n m ms lt) ∙ e))
  | inr le ↦ let h : Some 0 ≡ None = sym (now n m ms le) ∙ e in cc h
]

then_first : (n m : ℕ) (ms later : List ℕ) → first_reaching n ms ≡ None → n ≤ m
    → first_reaching n (ms ++ m ∷ later) ≡ Some (length ms)
then_first n m [] later e le = now n m later le
then_first n m (x ∷ ms) later e le =
    let b = none_below n x ms e in
    not_now n x (ms ++ m ∷ later) b.0 ∙ ap (option_map suc) (then_first n m ms later b.1 le)

then_none : (n m : ℕ) (ms : List ℕ) → first_reaching n ms ≡ None → m < n → first_reaching n (ms ++ m ∷ []) ≡ None
then_none n m [] e lt = not_now n m [] lt
then_none n m (x ∷ ms) e lt =
    let b = none_below n x ms e in
    not_now n x (ms ++ m ∷ []) b.0 ∙ ap (option_map suc) (then_none n m ms b.1 lt)

number_suc : (i : ℕ) (o : Option ℕ) → is_number i o ≡ false → is_number (suc i) (option_map suc o) ≡ false
number_suc i None e = refl
number_suc i (Some j) e = grind arith

number_zero : (o : Option ℕ) → is_number 0 (option_map suc o) ≡ false
number_zero None = refl
number_zero (Some j) = ne_eqb (suc j) 0 (λ (e : suc j ≡ 0). omega arith)

then_later : (n m : ℕ) (ms later : List ℕ) → first_reaching n ms ≡ None → m < n
    → is_number (length ms) (first_reaching n (ms ++ m ∷ later)) ≡ false
then_later n m [] later e lt = ap (is_number 0) (not_now n m later lt) ∙ number_zero (first_reaching n later)
then_later n m (x ∷ ms) later e lt =
    let b = none_below n x ms e in
    ap (is_number (suc (length ms))) (not_now n x (ms ++ m ∷ later) b.0)
    ∙ number_suc (length ms) (first_reaching n (ms ++ m ∷ later)) (then_later n m ms later b.1 lt)

within : (n i : ℕ) (ms : List ℕ) → first_reaching n ms ≡ Some i → i < length ms
within n i [] e = cc
within n i (m ∷ ms) e = elim (cases_lt m n) [
  | inr le ↦ let h : Some 0 ≡ Some i = sym (now n m ms le) ∙ e in let k : 0 ≡ i = cc in omega arith
  | inl lt ↦
      let before = some_suc (first_reaching n ms) i (sym (not_now n m ms lt) ∙ e) in
      let ih = within n before.0 ms before.1 in
      let s = before.2 in
      omega arith
]

length-sums : (kept : List Timed) (n : ℕ) (opps : List Opportunity) → length (sums_sent kept n opps) ≡ length opps
length-sums kept n [] = refl
length-sums kept n (o ∷ opps) = ap suc (length-sums kept (sent_with kept n o) opps)

-- the sums of a list with one more opportunity
sums_back : (kept : List Timed) (o : Opportunity) (earlier later : List Opportunity)
    → sums_sent kept 0 (reverse earlier ++ o ∷ later)
    ≡ sums_sent kept 0 (reverse earlier)
    ++ back.sent kept (o ∷ earlier) ∷ sums_sent kept (back.sent kept (o ∷ earlier)) later
sums_back kept o earlier later =
    sums_more kept 0 (reverse earlier) o later
    ∙ ap (λ n. sums_sent kept 0 (reverse earlier) ++ sent_with kept n o ∷ sums_sent kept (sent_with kept n o) later)
    (sent_back kept earlier)

reach_back : (kept : List Timed) (n : ℕ) (o : Opportunity) (earlier later : List Opportunity)
    → first_sent kept (reverse earlier ++ o ∷ later) n
    ≡ first_reaching n (sums_sent kept 0 (reverse earlier)
    ++ back.sent kept (o ∷ earlier) ∷ sums_sent kept (back.sent kept (o ∷ earlier)) later)
reach_back kept n o earlier later = ap (first_reaching n) (sums_back kept o earlier later)

-- where fewer are sent in all, there is none
pub reach_none : (kept : List Timed) (n : ℕ) (earlier : List Opportunity) → AreFalling earlier
    → back.sent kept earlier < n → first_sent kept (reverse earlier) n ≡ None
reach_none kept n [] f lt = refl
reach_none kept n (o ∷ earlier) f lt =
    let more = sums.sent_more kept o earlier f.0 in
    let less : back.sent kept earlier < n = omega arith in
    ap (λ (os : List Opportunity). first_sent kept os n) (reverse_cons o earlier)
    ∙ reach_back kept n o earlier []
    ∙ then_none n (back.sent kept (o ∷ earlier)) (sums_sent kept 0 (reverse earlier))
    (reach_none kept n earlier f.1 less) lt

-- and where as many are sent in all, there is one
pub reach_some : (kept : List Timed) (n : ℕ) (earlier : List Opportunity) → AreFalling earlier → 0 < n
    → n ≤ back.sent kept earlier
    → (i : ℕ) × (first_sent kept (reverse earlier) n ≡ Some i)
reach_some kept n [] f some le = absurd (omega arith)
reach_some kept n (o ∷ earlier) f some le =
    let whole : first_sent kept (reverse (o ∷ earlier)) n ≡ first_reaching n (sums_sent kept 0 (reverse earlier)
    ++ back.sent kept (o ∷ earlier) ∷ [])
    = ap (λ (os : List Opportunity). first_sent kept os n) (reverse_cons o earlier) ∙ reach_back kept n o earlier []
    in
    elim (cases_lt (back.sent kept earlier) n) [
      | inl lt ↦ (
        length (sums_sent kept 0 (reverse earlier)),
        whole
            ∙ then_first n (back.sent kept (o ∷ earlier)) (sums_sent kept 0 (reverse earlier)) []
            (reach_none kept n earlier f.1 lt) le,
      )
      | inr ge ↦
          let before = reach_some kept n earlier f.1 some ge in (
            before.0,
            whole ∙ stays n before.0 (sums_sent kept 0 (reverse earlier)) (back.sent kept (o ∷ earlier) ∷ [])
                before.1,
          )
    ]

-- the packets whose first opportunity is this one are those that it ends
pub leaving_is : (kept : List Timed) (o : Opportunity) (earlier later : List Opportunity) (before low high : ℕ)
    (ts : List Timed) → AreFalling (o ∷ earlier)
    → low ≡ back.sent kept earlier - before → high ≡ back.sent kept (o ∷ earlier) - before
    → leaving (is_number (length (reverse earlier))) kept (reverse earlier ++ o ∷ later) before ts ≡ ending low high ts
leaving_is kept o earlier later before low high [] f e e' = refl
leaving_is kept o earlier later before low high (t ∷ ts) f e e' =
    let n = before + t.packet.size in
    let some = t.packet.some in
    let ms = sums_sent kept 0 (reverse earlier) in
    let more = sums.sent_more kept o earlier f.0 in
    let e1 : low - t.packet.size ≡ back.sent kept earlier - n = omega arith in
    let e2 : high - t.packet.size ≡ back.sent kept (o ∷ earlier) - n = omega arith in
    let ih = leaving_is kept o earlier later n (low - t.packet.size) (high - t.packet.size) ts f e1 e2 in
    let rest_is = leaving (is_number (length (reverse earlier))) kept (reverse earlier ++ o ∷ later) n ts in
    let place : length ms ≡ length (reverse earlier) = length-sums kept 0 (reverse earlier) in
    let as_is : is_number (length (reverse earlier)) (first_sent kept (reverse earlier ++ o ∷ later) n)
    ≡ is_number (length ms) (first_reaching n
    (ms ++ back.sent kept (o ∷ earlier) ∷ sums_sent kept (back.sent kept (o ∷ earlier)) later))
    = ap (is_number (length (reverse earlier))) (reach_back kept n o earlier later)
    ∙ ap (λ i. is_number i (first_reaching n
    (ms ++ back.sent kept (o ∷ earlier) ∷ sums_sent kept (back.sent kept (o ∷ earlier)) later))) (sym place)
    in
    elim (cases_lt (back.sent kept earlier) n) [
      | inr ge ↦
          let positive : 0 < n = omega arith in
          let le : t.packet.size ≤ low = omega arith in
          let found = reach_some kept n earlier f.1 positive ge in
          let earlier_place = within n found.0 ms found.1 in
          let other : is_number (length ms) (Some found.0) ≡ false =
          ne_eqb found.0 (length ms) (λ (same : found.0 ≡ length ms). omega arith) in
          ap (λ b. cond b (t ∷ []) [] ++ rest_is)
          (as_is ∙ ap (is_number (length ms))
          (stays n found.0 ms (back.sent kept (o ∷ earlier) ∷ sums_sent kept (back.sent kept (o ∷ earlier)) later)
          found.1) ∙ other)
          ∙ ih ∙ sym (ending_before low high t ts le)
      | inl lt ↦
          let low_lt : low < t.packet.size = omega arith in
          let none = reach_none kept n earlier f.1 lt in
          elim (cases_lt (back.sent kept (o ∷ earlier)) n) [
            | inl late ↦
                let high_lt : high < t.packet.size = omega arith in
                ap (λ b. cond b (t ∷ []) [] ++ rest_is)
                (as_is ∙ then_later n (back.sent kept (o ∷ earlier)) ms
                (sums_sent kept (back.sent kept (o ∷ earlier)) later) none late)
                ∙ ih ∙ sym (ending_after low high t ts low_lt high_lt)
            | inr in_time ↦
                let le : t.packet.size ≤ high = omega arith in
                ap (λ b. cond b (t ∷ []) [] ++ rest_is)
                (as_is ∙ ap (is_number (length ms))
                (then_first n (back.sent kept (o ∷ earlier)) ms
                (sums_sent kept (back.sent kept (o ∷ earlier)) later) none in_time)
                ∙ eq-eqb (length ms) (length ms) refl)
                ∙ ap (λ (us : List Timed). t ∷ us) ih ∙ sym (ending_in low high t ts low_lt le)
          ]
    ]

-- the packets without one are the rest
pub staying_is : (kept : List Timed) (earlier : List Opportunity) (before n : ℕ) (ts : List Timed)
    → AreFalling earlier → n ≡ back.sent kept earlier - before
    → leaving is_no_number kept (reverse earlier) before ts ≡ rest n ts
staying_is kept earlier before n [] f e = refl
staying_is kept earlier before n (t ∷ ts) f e =
    let m = before + t.packet.size in
    let some = t.packet.some in
    let e1 : n - t.packet.size ≡ back.sent kept earlier - m = omega arith in
    let ih = staying_is kept earlier m (n - t.packet.size) ts f e1 in
    let rest_is = leaving is_no_number kept (reverse earlier) m ts in
    elim (cases_lt (back.sent kept earlier) m) [
      | inl lt ↦
          let less : n < t.packet.size = omega arith in
          let gone : n - t.packet.size ≡ 0 = omega arith in
          ap (λ (i : Option ℕ). cond (is_no_number i) (t ∷ []) [] ++ rest_is) (reach_none kept m earlier f lt)
          ∙ ap (λ (us : List Timed). t ∷ us) (ih ∙ rest_zero (n - t.packet.size) ts gone) ∙ sym (rest_stops n t ts less)
      | inr ge ↦
          let positive : 0 < m = omega arith in
          let le : t.packet.size ≤ n = omega arith in
          let found = reach_some kept m earlier f positive ge in
          ap (λ (i : Option ℕ). cond (is_no_number i) (t ∷ []) [] ++ rest_is) found.1
          ∙ ih ∙ sym (rest_over n t ts le)
    ]

abbrev moment_at : List Opportunity → Option ℕ → Option ℕ
moment_at opps number = option_map (λ (o : Opportunity). o.moment) (option_and_then (slice_get opps) number)

when_found : (kept : List Timed) (n : ℕ) (o : Opportunity) (earlier : List Opportunity) (i : ℕ)
    → first_reaching n (sums_sent kept 0 (reverse earlier)) ≡ Some i
    → moment_at (reverse earlier) (first_sent kept (reverse earlier) n) ≡ least.moment_sent kept earlier n
    → moment_at (reverse earlier ++ o ∷ [])
    (first_reaching n (sums_sent kept 0 (reverse earlier) ++ back.sent kept (o ∷ earlier) ∷ [])) ≡
    least.moment_sent kept (o ∷ earlier) n
when_found kept n o earlier i e ih =
    let ms = sums_sent kept 0 (reverse earlier) in
    let high = back.sent kept (o ∷ earlier) in
    let lt = within n i ms e in
    let same = length-sums kept 0 (reverse earlier) in
    let front : i < length (reverse earlier) = omega arith in
    let at : (p : Opportunity) × (slice_get (reverse earlier) i ≡ Some p) = some_at (reverse earlier) i front in
    let before : least.moment_sent kept earlier n ≡ Some at.0.moment =
    sym ih ∙ ap (moment_at (reverse earlier)) e ∙ ap (option_map (λ (p : Opportunity). p.moment)) at.1
    in
    ap (moment_at (reverse earlier ++ o ∷ [])) (stays n i ms (high ∷ []) e)
    ∙ ap (option_map (λ (p : Opportunity). p.moment)) (slice_get-front (reverse earlier) (o ∷ []) i front ∙ at.1)
    ∙ sym (ap (λ (m : Option ℕ). least.or_then m (cond (nat_le n high) (Some o.moment) None)) before)

when_cases : (kept : List Timed) (n : ℕ) (o : Opportunity) (earlier : List Opportunity) (found : Option ℕ)
    → first_reaching n (sums_sent kept 0 (reverse earlier)) ≡ found
    → moment_at (reverse earlier) (first_sent kept (reverse earlier) n) ≡ least.moment_sent kept earlier n
    → moment_at (reverse earlier ++ o ∷ [])
    (first_reaching n (sums_sent kept 0 (reverse earlier) ++ back.sent kept (o ∷ earlier) ∷ [])) ≡
    least.moment_sent kept (o ∷ earlier) n
when_cases kept n o earlier (Some i) e ih = when_found kept n o earlier i e ih
when_cases kept n o earlier None e ih =
    let ms = sums_sent kept 0 (reverse earlier) in
    let high = back.sent kept (o ∷ earlier) in
    let before : least.moment_sent kept earlier n ≡ None = sym ih ∙ ap (moment_at (reverse earlier)) e in
    let now_is : least.moment_sent kept (o ∷ earlier) n ≡ cond (nat_le n high) (Some o.moment) None =
    ap (λ (m : Option ℕ). least.or_then m (cond (nat_le n high) (Some o.moment) None)) before
    in
    elim (cases_lt high n) [
      | inl lt ↦
          ap (moment_at (reverse earlier ++ o ∷ [])) (then_none n high ms e lt)
          ∙ sym (now_is ∙ ap (λ b. cond b (Some o.moment) None) (lt-leb n high lt))
      | inr le ↦
          ap (moment_at (reverse earlier ++ o ∷ [])) (then_first n high ms [] e le)
          ∙ ap (λ i. moment_at (reverse earlier ++ o ∷ []) (Some i)) (length-sums kept 0 (reverse earlier))
          ∙ ap (option_map (λ (p : Opportunity). p.moment)) (slice_get-next (reverse earlier) [] o)
          ∙ sym (now_is ∙ ap (λ b. cond b (Some o.moment) None) (le-leb n high le))
    ]

-- the two ways to say when
pub when_is : (kept : List Timed) (n : ℕ) (earlier : List Opportunity)
    → moment_at (reverse earlier) (first_sent kept (reverse earlier) n) ≡ least.moment_sent kept earlier n
when_is kept n [] = refl
when_is kept n (o ∷ earlier) =
    let ih = when_is kept n earlier in
    let ms = sums_sent kept 0 (reverse earlier) in
    let high = back.sent kept (o ∷ earlier) in
    let whole : first_sent kept (reverse (o ∷ earlier)) n ≡ first_reaching n (ms ++ high ∷ [])
    = ap (λ (os : List Opportunity). first_sent kept os n) (reverse_cons o earlier) ∙ reach_back kept n o earlier []
    in
    let both : moment_at (reverse (o ∷ earlier)) (first_sent kept (reverse (o ∷ earlier)) n) ≡ moment_at
    (reverse earlier ++ o ∷ []) (first_reaching n (ms ++ high ∷ []))
    = ap (λ (os : List Opportunity). moment_at os (first_sent kept (reverse (o ∷ earlier)) n)) (reverse_cons o earlier)
    ∙ ap (moment_at (reverse earlier ++ o ∷ [])) whole
    in
    both ∙ when_cases kept n o earlier (first_reaching n ms) refl ih

made : (o : Option Opportunity) (moment : Option ℕ) (t : Timed) (ts : List Timed)
    → option_map (λ (p : Opportunity). p.moment) o ≡ moment
    → option_to_list (option_map (λ (p : Opportunity). moved_to p.moment t) o) ++ ts ≡ least.onto_some moment t ts
made None None t ts e = refl
made None (Some m) t ts e = cc
made (Some p) None t ts e = cc
made (Some p) (Some m) t ts e = let h : p.moment ≡ m = cc in ap (λ k. moved_to k t ∷ ts) h

departure_is : (opps : List Opportunity) (number : Option ℕ) (moment : Option ℕ) (t : Timed) (ts : List Timed)
    → moment_at opps number ≡ moment
    → departure_at opps number t ++ ts ≡ least.onto_some moment t ts
departure_is opps number moment t ts e = made (option_and_then (slice_get opps) number) moment t ts e

pub departing_is : (kept : List Timed) (earlier : List Opportunity) (before : ℕ) (ts : List Timed)
    → departing kept (reverse earlier) before ts ≡ least.departing kept earlier before ts
departing_is kept earlier before [] = refl
departing_is kept earlier before (t ∷ ts) =
    let n = before + t.packet.size in
    departure_is (reverse earlier) (first_sent kept (reverse earlier) n) (least.moment_sent kept earlier n) t
    (departing kept (reverse earlier) n ts) (when_is kept n earlier)
    ∙ ap (least.onto_some (least.moment_sent kept earlier n) t) (departing_is kept earlier n ts)
