-- What opportunities carry doesn't depend on what still waits.
use Rattle.std.proofs.Common.{◌≡◌, ℕ, ◌+◌, ◌<◌, ◌≤◌, ◌++◌, List, [], ◌∷◌, map, arith, refl, ap, sym, ◌∙◌, inl, inr}
use Rattle.std.proofs.lemmas.Bool.{cases_lt, lt-ltb, le-ltb}
use Rattle.packet_record.specs.declared.packet.Timed.{Timed}
use Rattle.packet_record.specs.Packets.{bytes, moved_to}
use Rattle.trace_reader.specs.declared.opportunity.Opportunity.{Opportunity}
use Rattle.link_core.specs.inside.Stream.{ending}
use Rattle.trace_reader.specs.Orders.{Each}
use Rattle.link_core.specs.inside.Orders.{Rising, AreFalling}
use Rattle.link_core.specs.Links.{below, departure_line, Lines}
use Rattle.link_core.specs.inside.Back.{sent, ended, departures, opportunity_lines}
use Rattle.shell_log.specs.declared.entry.Entry.TheVariants as entries
use Rattle.link_core.proofs.StreamLemmas.{ending_same}

pub each_append : {X : Type 0} (P : X → Type 0) (xs ys : List X) → Each P xs → Each P ys → Each P (xs ++ ys)
each_append P [] ys a b = b
each_append P (x ∷ xs) ys a b = (a.0, each_append P xs ys a.1 b)

pub each_front : {X : Type 0} (P : X → Type 0) (xs ys : List X) → Each P (xs ++ ys) → Each P xs
each_front P [] ys a = tt
each_front P (x ∷ xs) ys a = (a.0, each_front P xs ys a.1)

pub each_back : {X : Type 0} (P : X → Type 0) (xs ys : List X) → Each P (xs ++ ys) → Each P ys
each_back P [] ys a = a
each_back P (x ∷ xs) ys a = each_back P xs ys a.1

pub each_map : {X : Type 0} (P Q : X → Type 0) (xs : List X) → ((x : X) → P x → Q x) → Each P xs → Each Q xs
each_map P Q [] f a = tt
each_map P Q (x ∷ xs) f a = (f x a.0, each_map P Q xs f a.1)

pub below_in : (m : ℕ) (t : Timed) (ts : List Timed) → t.moment < m → below m (t ∷ ts) ≡ t.packet.size + below m ts
below_in m t ts lt = rw (lt-ltb t.moment m lt)

pub below_out : (m : ℕ) (t : Timed) (ts : List Timed) → m ≤ t.moment → below m (t ∷ ts) ≡ below m ts
below_out m t ts le = rw (le-ltb t.moment m le)

pub below_append : (m : ℕ) (xs ys : List Timed) → below m (xs ++ ys) ≡ below m xs + below m ys
below_append m [] ys = omega arith
below_append m (x ∷ xs) ys =
    let ih = below_append m xs ys in
    elim (cases_lt x.moment m) [
      | inl lt ↦ let a = below_in m x (xs ++ ys) lt in let b = below_in m x xs lt in omega arith
      | inr le ↦ let a = below_out m x (xs ++ ys) le in let b = below_out m x xs le in omega arith
    ]

pub below_le : (m : ℕ) (xs : List Timed) → below m xs ≤ bytes xs
below_le m [] = omega arith
below_le m (x ∷ xs) =
    let ih = below_le m xs in
    elim (cases_lt x.moment m) [
      | inl lt ↦ let b = below_in m x xs lt in omega arith
      | inr le ↦ let b = below_out m x xs le in omega arith
    ]

pub below_mono : (m n : ℕ) (xs : List Timed) → m ≤ n → below m xs ≤ below n xs
below_mono m n [] le = omega arith
below_mono m n (x ∷ xs) le =
    let ih = below_mono m n xs le in
    elim (cases_lt x.moment m) [
      | inl lt ↦ let lt' : x.moment < n = omega arith in let a = below_in m x xs lt in let b = below_in n x xs lt'
          in omega arith
      | inr ge ↦
          let a = below_out m x xs ge in
          elim (cases_lt x.moment n) [
            | inl lt' ↦ let b = below_in n x xs lt' in omega arith
            | inr ge' ↦ let b = below_out n x xs ge' in omega arith
          ]
    ]

pub below_whole : (m : ℕ) (xs : List Timed) → Each (λ u. u.moment < m) xs → below m xs ≡ bytes xs
below_whole m [] a = refl
below_whole m (x ∷ xs) a = let ih = below_whole m xs a.1 in below_in m x xs a.0 ∙ ap (λ n. x.packet.size + n) ih

pub below_none : (m : ℕ) (xs : List Timed) → Each (λ u. m ≤ u.moment) xs → below m xs ≡ 0
below_none m [] a = refl
below_none m (x ∷ xs) a = below_out m x xs a.0 ∙ below_none m xs a.1

pub none_below : (m : ℕ) (xs : List Timed) → below m xs ≡ 0 → Each (λ u. m ≤ u.moment) xs
none_below m [] e = tt
none_below m (x ∷ xs) e = elim (cases_lt x.moment m) [
  | inl lt ↦ let some = x.packet.some in let b = below_in m x xs lt in absurd (omega arith)
  | inr ge ↦ (ge, none_below m xs (sym (below_out m x xs ge) ∙ e))
]

pub some_below : (l m : ℕ) (xs : List Timed) → Each (λ u. l ≤ u.moment) xs → 0 < below m xs → l < m
some_below l m [] a lt = absurd (omega arith)
some_below l m (x ∷ xs) a lt = elim (cases_lt x.moment m) [
  | inl in_time ↦ let low : l ≤ x.moment = a.0 in omega arith
  | inr ge ↦ some_below l m xs a.1 (rw (below_out m x xs ge) at lt)
]

-- where some of the packets behind arrived before m, all of those ahead did
pub ahead_below : (m : ℕ) (xs ys : List Timed) → Rising (xs ++ ys) → 0 < below m ys → below m xs ≡ bytes xs
ahead_below m [] ys r lt = refl
ahead_below m (x ∷ xs) ys r lt =
    let first : x.moment < m = some_below x.moment m ys (each_back (λ u. x.moment ≤ u.moment) xs ys r.0) lt in
    below_in m x xs first ∙ ap (λ n. x.packet.size + n) (ahead_below m xs ys r.1 lt)

pub sent_le : (kept : List Timed) (opps : List Opportunity) → sent kept opps ≤ bytes kept
sent_le kept [] = omega arith
sent_le kept (o ∷ earlier) = omega (arith, below_le o.moment kept)

pub sent_below : (m : ℕ) (kept : List Timed) (opps : List Opportunity) → Each (λ p. p.moment ≤ m) opps
    → sent kept opps ≤ below m kept
sent_below m kept [] a = omega arith
sent_below m kept (o ∷ earlier) a = omega (arith, below_mono o.moment m kept a.0)

pub sent_more : (kept : List Timed) (o : Opportunity) (earlier : List Opportunity)
    → Each (λ p. p.moment ≤ o.moment) earlier → sent kept earlier ≤ sent kept (o ∷ earlier)
sent_more kept o earlier a = omega (arith, sent_below o.moment kept earlier a)

-- the others, us and vs, stand behind all that has begun
pub same_sent : (ts us vs : List Timed) (opps : List Opportunity) → Rising (ts ++ us) → AreFalling opps
    → Each (λ o. below o.moment us ≡ 0 → below o.moment vs ≡ 0) opps
    → sent (ts ++ us) opps ≤ bytes ts → sent (ts ++ vs) opps ≡ sent (ts ++ us) opps
same_sent ts us vs [] r f a le = refl
same_sent ts us vs (o ∷ earlier) r f a le =
    let more = sent_more (ts ++ us) o earlier f.0 in
    let low : sent (ts ++ us) earlier ≤ bytes ts = omega arith in
    let ih = same_sent ts us vs earlier r f.1 a.1 low in
    let both = below_append o.moment ts us in
    let both' = below_append o.moment ts vs in
    elim (cases_lt 0 (below o.moment us)) [
      | inl lt ↦ let whole = ahead_below o.moment ts us r lt in omega arith
      | inr none ↦
          let none' : below o.moment us ≡ 0 = omega arith in
          let none'' : below o.moment vs ≡ 0 = a.0 none' in
          omega arith
    ]

pub same_ended : (ts us vs : List Timed) (o : Opportunity) (earlier : List Opportunity) → Rising (ts ++ us)
    → AreFalling (o ∷ earlier)
    → Each (λ o. below o.moment us ≡ 0 → below o.moment vs ≡ 0) (o ∷ earlier)
    → sent (ts ++ us) (o ∷ earlier) ≤ bytes ts → ended (ts ++ vs) o earlier ≡ ended (ts ++ us) o earlier
same_ended ts us vs o earlier r f a le =
    let more = sent_more (ts ++ us) o earlier f.0 in
    let low : sent (ts ++ us) earlier ≤ bytes ts = omega arith in
    let now = same_sent ts us vs (o ∷ earlier) r f a le in
    let before = same_sent ts us vs earlier r f.1 a.1 low in
    ap (λ n. ending n (sent (ts ++ vs) (o ∷ earlier)) (ts ++ vs)) before
    ∙ ap (λ n. ending (sent (ts ++ us) earlier) n (ts ++ vs)) now
    ∙ ending_same (sent (ts ++ us) earlier) (sent (ts ++ us) (o ∷ earlier)) ts vs us le

pub same_departures : (ts us vs : List Timed) (opps : List Opportunity) → Rising (ts ++ us) → AreFalling opps
    → Each (λ o. below o.moment us ≡ 0 → below o.moment vs ≡ 0) opps
    → sent (ts ++ us) opps ≤ bytes ts → departures (ts ++ vs) opps ≡ departures (ts ++ us) opps
same_departures ts us vs [] r f a le = refl
same_departures ts us vs (o ∷ earlier) r f a le =
    let more = sent_more (ts ++ us) o earlier f.0 in
    let low : sent (ts ++ us) earlier ≤ bytes ts = omega arith in
    ap (λ (xs : List Timed). xs ++ map (moved_to o.moment) (ended (ts ++ vs) o earlier))
    (same_departures ts us vs earlier r f.1 a.1 low)
    ∙ ap (λ (xs : List Timed). departures (ts ++ us) earlier ++ map (moved_to o.moment) xs)
    (same_ended ts us vs o earlier r f a le)

pub same_lines : (ts us vs : List Timed) (opps : List Opportunity) → Rising (ts ++ us) → AreFalling opps
    → Each (λ o. below o.moment us ≡ 0 → below o.moment vs ≡ 0) opps
    → sent (ts ++ us) opps ≤ bytes ts → opportunity_lines (ts ++ vs) opps ≡ opportunity_lines (ts ++ us) opps
same_lines ts us vs [] r f a le = refl
same_lines ts us vs (o ∷ earlier) r f a le =
    let more = sent_more (ts ++ us) o earlier f.0 in
    let low : sent (ts ++ us) earlier ≤ bytes ts = omega arith in
    let line : List Timed → Lines =
    λ xs. (o.moment, entries.Opportunity o.moment o.bytes ∷ map (departure_line o.moment) xs) in
    ap (λ (ls : List Lines). line (ended (ts ++ vs) o earlier) ∷ ls) (same_lines ts us vs earlier r f.1 a.1 low)
    ∙ ap (λ (xs : List Timed). line xs ∷ opportunity_lines (ts ++ us) earlier) (same_ended ts us vs o earlier r f a le)
