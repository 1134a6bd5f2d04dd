-- What a link promises of arrivals and opportunities to come: nothing is taken back, and each later departure is at the
-- floor or after it. `os` are all opportunities up to the horizon h, of which the first b are burnt.
use Rattle.std.proofs.Common.{◌≡◌, ℕ, suc, ◌+◌, ◌-◌, ◌<◌, ◌≤◌, ◌++◌, List, [], ◌∷◌, Option, Some, None, slice_get}
use Rattle.std.proofs.Common.{length, take, drop, reverse, arith, ap, sym, subst, ◌∙◌, inl, inr}
use Rattle.std.specs.Option.{option_map, unwrap_or}
use Rattle.std.proofs.lemmas.Bool.{cases_lt}
use Rattle.std.proofs.lemmas.List.{append-nil, take-append-drop, drop-drop, drop_all}
use Rattle.std.proofs.Math.Seq.{take-add}
use Rattle.packet_record.specs.declared.packet.Timed.{Timed}
use Rattle.packet_record.specs.Moments.{AreFrom, AreUpTo, Rise}
use Rattle.packet_record.proofs.MomentsLemmas.{rise-append, rise_rest}
use Rattle.packet_queue.specs.declared.spec.QueueSpec.{QueueSpec}
use Rattle.shell_log.specs.declared.entry.Entry.{Entry}
use Rattle.trace_reader.specs.declared.opportunity.Opportunity.{Opportunity}
use Rattle.trace_reader.specs.Orders.{Each, AreRising}
use Rattle.trace_reader.proofs.OrderLemmas.{each_map, counted}
use Rattle.trace_reader.proofs.ListLemmas.{some_at}
use Rattle.link_core.specs.inside.Orders.{Rising, Falling}
use Rattle.link_core.specs.Links.{link_out, link_lost, link_log}
use Rattle.link_core.specs.Promises.{count_to, AreCovered, floor_of}
use Rattle.link_core.specs.inside.Promises.{Extends}
use Rattle.link_core.proofs.SentLemmas.{each_append, each_front, each_back}
use Rattle.link_core.proofs.SoundLemmas.{each_reverse, each_up_to, drop_one}
use Rattle.link_core.proofs.Turned.{reverse_cons}
use Rattle.link_core.proofs.InOrder.{out_is, lost_is, log_is, falling_turned}
use Rattle.link_core.proofs.SeenLemmas.{rising_front, rising_take}
use Rattle.link_core.proofs.Continuation.{GoesOn, GoesOnWhole, MayCome, onto, continues, reverse_onto}

-- lists in order
pub rising_back : (xs ys : List Opportunity) → AreRising (xs ++ ys) → AreRising ys
rising_back [] ys r = r
rising_back (x ∷ xs) ys r = rising_back xs ys r.1

pub rising_drop : (b : ℕ) (os : List Opportunity) → AreRising os → AreRising (drop b os)
rising_drop b os r = rising_back (take b os) (drop b os) (subst AreRising (sym (take-append-drop b os)) r)

-- none of the first is after one of the others
split_one : (xs ys : List Opportunity) (o : Opportunity) → AreRising (xs ++ o ∷ ys) → Each (λ p. p.moment ≤ o.moment) xs
split_one [] ys o r = tt
split_one (x ∷ xs) ys o r = ((each_back (λ p. x.moment ≤ p.moment) xs (o ∷ ys) r.0).0, split_one xs ys o r.1)

each_later : (xs : List Opportunity) (o : Opportunity) (ys : List Opportunity) → Each (λ p. p.moment ≤ o.moment) xs
    → Each (λ p. o.moment ≤ p.moment) ys
    → Each (λ q. Each (λ p. p.moment ≤ q.moment) xs) ys
each_later xs o [] a b = tt
each_later xs o (y ∷ ys) a b = (
  each_map (λ p. p.moment ≤ o.moment) (λ p. p.moment ≤ y.moment) xs (λ p le. let h = b.0
      in omega arith) a,
  each_later xs o ys a b.1,
)

pub between : (xs ys : List Opportunity) → AreRising (xs ++ ys) → Each (λ o. Each (λ p. p.moment ≤ o.moment) xs) ys
between xs [] r = tt
between xs (o ∷ ys) r = (split_one xs ys o r, each_later xs o ys (split_one xs ys o r) (rising_back xs (o ∷ ys) r).0)

from_front : (m : ℕ) (xs ys : List Timed) → AreFrom m (xs ++ ys) → AreFrom m xs
from_front m [] ys a = tt
from_front m (x ∷ xs) ys a = (a.0, from_front m xs ys a.1)

pub rise_front : (xs ys : List Timed) → Rise (xs ++ ys) → Rise xs
rise_front [] ys r = tt
rise_front (x ∷ xs) ys r = (from_front x.moment xs ys r.0, rise_front xs ys r.1)

rise_is : (m : ℕ) (ts : List Timed) → AreFrom m ts → Each (λ u. m ≤ u.moment) ts
rise_is m [] a = tt
rise_is m (t ∷ ts) a = (a.0, rise_is m ts a.1)

pub rising_of : (ts : List Timed) → Rise ts → Rising ts
rising_of [] r = tt
rising_of (t ∷ ts) r = (rise_is t.moment ts r.0, rising_of ts r.1)

falling_more : (earlier : List Timed) (t : Timed) → Falling earlier → Each (λ u. t.moment ≤ u.moment) earlier
    → Falling (earlier ++ t ∷ [])
falling_more [] t f a = (tt, tt)
falling_more (u ∷ earlier) t f a = (
  each_append (λ x. x.moment ≤ u.moment) earlier (t ∷ []) f.0 (a.0, tt),
  falling_more earlier t f.1 a.1,
)

pub falling_of : (ts : List Timed) → Rise ts → Falling (reverse ts)
falling_of [] r = tt
falling_of (t ∷ ts) r =
    subst Falling (sym (reverse_cons t ts))
    (falling_more (reverse ts) t (falling_of ts r.1)
    (each_reverse (λ u. t.moment ≤ u.moment) ts (rise_is t.moment ts r.0)))

each_drop : (P : Opportunity → Type 0) (k : ℕ) (os : List Opportunity) → Each P os → Each P (drop k os)
each_drop P k os a = each_back P (take k os) (drop k os) (subst (Each P) (sym (take-append-drop k os)) a)

pub each_take : (P : Opportunity → Type 0) (k : ℕ) (os : List Opportunity) → Each P os → Each P (take k os)
each_take P k os a = each_front P (take k os) (drop k os) (subst (Each P) (sym (take-append-drop k os)) a)

-- an opportunity that isn't burnt is after each covered arrival
after_one : (os : List Opportunity) (b m : ℕ) → AreRising os → count_to os m ≤ b → Each (λ o. m < o.moment) (drop b os)
after_one os b m r le =
    let n = count_to os m in
    let sum : n + (b - n) ≡ b = omega arith in
    let P : List Opportunity → Type 0 = Each (λ o. m < o.moment) in
    subst P (drop-drop (b - n) n os ∙ ap (λ k. drop k os) sum)
    (each_drop (λ o. m < o.moment) (b - n) (drop n os) (counted m os r).1)

both_after : (t : Timed) (ts : List Timed) (os : List Opportunity) → Each (λ o. t.moment < o.moment) os
    → Each (λ o. Each (λ u. u.moment < o.moment) ts) os
    → Each (λ o. Each (λ u. u.moment < o.moment) (t ∷ ts)) os
both_after t ts [] a b = tt
both_after t ts (o ∷ os) a b = ((a.0, b.0), both_after t ts os a.1 b.1)

none_after : (os : List Opportunity) → Each (λ o. Each (λ (u : Timed). u.moment < o.moment) []) os
none_after [] = tt
none_after (o ∷ os) = (tt, none_after os)

after_all : (os : List Opportunity) (b : ℕ) (l : List Timed) → AreRising os → AreCovered os b l
    → Each (λ o. Each (λ u. u.moment < o.moment) l) (drop b os)
after_all os b [] r c = none_after (drop b os)
after_all os b (t ∷ l) r c = both_after t l (drop b os) (after_one os b t.moment r c.0) (after_all os b l r c.1)

pub turn_each : (ts : List Timed) (os : List Opportunity) → Each (λ o. Each (λ u. u.moment < o.moment) ts) os
    → Each (λ o. Each (λ u. u.moment < o.moment) (reverse ts)) os
turn_each ts [] a = tt
turn_each ts (o ∷ os) a = (each_reverse (λ u. u.moment < o.moment) ts a.0, turn_each ts os a.1)

turn_opps : (ps os : List Opportunity) → Each (λ o. Each (λ p. p.moment ≤ o.moment) ps) os
    → Each (λ o. Each (λ p. p.moment ≤ o.moment) (reverse ps)) os
turn_opps ps [] a = tt
turn_opps ps (o ∷ os) a = (each_reverse (λ p. p.moment ≤ o.moment) ps a.0, turn_opps ps os a.1)

-- no later arrival is before an earlier one
pub rise_split : (xs : List Timed) (t : Timed) (ts : List Timed) → Rise (xs ++ t ∷ ts)
    → Each (λ u. u.moment ≤ t.moment) xs
rise_split [] t ts r = tt
rise_split (x ∷ xs) t ts r = (
  (each_back (λ u. x.moment ≤ u.moment) xs (t ∷ ts)
      (rise_is x.moment (xs ++ t ∷ ts) r.0)).0,
  rise_split xs t ts r.1,
)

pub each_le : (xs ts : List Timed) (m : ℕ) → Each (λ u. u.moment ≤ m) xs → AreFrom m ts
    → Each (λ t. Each (λ u. u.moment ≤ t.moment) (reverse xs)) ts
each_le xs [] m a f = tt
each_le xs (t ∷ ts) m a f = (
  each_reverse (λ u. u.moment ≤ t.moment) xs
      (each_map (λ u. u.moment ≤ m) (λ u. u.moment ≤ t.moment) xs (λ u le. let h = f.0 in omega arith) a),
  each_le xs ts m a f.1,
)

pub opps_le : (ps : List Opportunity) (ts : List Timed) (m : ℕ) → Each (λ p. p.moment ≤ m) ps → AreFrom m ts
    → Each (λ t. Each (λ p. p.moment ≤ t.moment) (reverse ps)) ts
opps_le ps [] m a f = tt
opps_le ps (t ∷ ts) m a f = (
  each_reverse (λ p. p.moment ≤ t.moment) ps
      (each_map (λ p. p.moment ≤ m) (λ p. p.moment ≤ t.moment) ps (λ p le. let h = f.0 in omega arith) a),
  opps_le ps ts m a f.1,
)

-- the first b are no later than a moment with that count
pub early_burnt : (os : List Opportunity) (b m : ℕ) → AreRising os → b ≤ count_to os m
    → Each (λ p. p.moment ≤ m) (take b os)
early_burnt os b m r le =
    let n = count_to os m in
    let sum : b + (n - b) ≡ n = omega arith in
    let P : List Opportunity → Type 0 = Each (λ p. p.moment ≤ m) in
    each_front (λ p. p.moment ≤ m) (take b os) (take (n - b) (drop b os))
    (subst P (ap (λ k. take k os) (sym sum) ∙ take-add b (n - b) os) (counted m os r).0)

-- the next opportunity is the floor
pub floor_at : (os : List Opportunity) (h b : ℕ) (o : Opportunity) → slice_get os b ≡ Some o
    → floor_of os h b ≡ o.moment
floor_at os h b o e = ap (λ (x : Option Opportunity). unwrap_or (option_map (λ (p : Opportunity). p.moment) x)
    (h + 1)) e

pub floor_past : (os : List Opportunity) (h b : ℕ) → slice_get os b ≡ None → floor_of os h b ≡ h + 1
floor_past os h b e = ap (λ (x : Option Opportunity). unwrap_or (option_map (λ (p : Opportunity). p.moment) x)
    (h + 1)) e

none_left : (os : List Opportunity) (b : ℕ) → length os ≤ b → drop b os ≡ []
none_left os b le = drop_all b os le

pub from_floor : (os : List Opportunity) (h b : ℕ) → AreRising os → Each (λ o. floor_of os h b ≤ o.moment) (drop b os)
from_floor os h b r = elim (cases_lt b (length os)) [
  | inl lt ↦
      let next = some_at os b lt in
      let o = next.0 in
      let rest : drop b os ≡ o ∷ drop (suc b) os = drop_one os b o next.1 in
      let e = floor_at os h b o next.1 in
      let P : List Opportunity → Type 0 = Each (λ p. floor_of os h b ≤ p.moment) in
      let later = (subst AreRising rest (rising_drop b os r)).0 in
      subst P (sym rest) (
        omega arith,
        each_map (λ p. o.moment ≤ p.moment) (λ p. floor_of os h b ≤ p.moment)
            (drop (suc b) os) (λ p le. omega arith) later,
      )
  | inr le ↦ let P : List Opportunity → Type 0 = Each (λ p. floor_of os h b ≤ p.moment)
      in subst P (sym (none_left os b le)) tt
]

-- the opportunities that are burnt between, and all before them
take_more : (os : List Opportunity) (b b' : ℕ) → b ≤ b' → take b' os ≡ take b os ++ take (b' - b) (drop b os)
take_more os b b' le = let sum : b' ≡ b + (b' - b) = omega arith in ap (λ k. take k os) sum ∙ take-add b (b' - b) os

-- what may come
comes : (os : List Opportunity) (h b b' : ℕ) (l cs : List Timed) → AreRising os → Rise (l ++ cs)
    → Each (λ o. Each (λ u. u.moment < o.moment) (reverse l)) (drop b os)
    → Each (λ t. Each (λ u. u.moment ≤ t.moment) (reverse l)) cs
    → Each (λ t. Each (λ p. p.moment ≤ t.moment) (reverse (take b os))) cs
    → MayCome (floor_of os h b) (reverse (take b os)) (reverse l) (take (b' - b) (drop b os)) cs
comes os h b b' l cs r rise after before burnt = record {
  falling = falling_of l (rise_front l cs rise);
  opps_falling = falling_turned (take b os) (rising_take b os r);
  rising = rising_of cs (rise_rest l cs rise);
  opps_rising = rising_take (b' - b) (drop b os) (rising_drop b os r);
  opps_from = each_take (λ o. floor_of os h b ≤ o.moment) (b' - b) (drop b os) (from_floor os h b r);
  opps_arrivals = each_take (λ o. Each (λ u. u.moment < o.moment) (reverse l)) (b' - b) (drop b os) after;
  opps_opps = each_take (λ o. Each (λ p. p.moment ≤ o.moment) (reverse (take b os))) (b' - b) (drop b os)
      (turn_opps (take b os) (drop b os)
      (between (take b os) (drop b os) (subst AreRising (sym (take-append-drop b os)) r)));
  arrivals_arrivals = before;
  arrivals_opps = burnt;
}

-- departures, losses and log of more go on from those of less
pub record LinkGoesOn (low : ℕ) (q : QueueSpec) (opps : List Opportunity) (arrivals : List Timed)
    (opps' : List Opportunity) (arrivals' : List Timed) : Type 0 where
  pub out : Extends (link_out q opps' arrivals') (link_out q opps arrivals) low
  pub lost : GoesOn (link_lost q opps arrivals) (link_lost q opps' arrivals')
  pub log : GoesOn (link_log q opps arrivals) (link_log q opps' arrivals')

in_order : (low : ℕ) (q : QueueSpec) (os os' : List Opportunity) (ts ts' : List Timed) → AreRising os → AreRising os'
    → Rise ts → Rise ts'
    → GoesOnWhole low q (reverse os) (reverse ts) (reverse os') (reverse ts') → LinkGoesOn low q os ts os' ts'
in_order low q os os' ts ts' r r' s s' g = record {
  out = record {
    more = g.departed.more;
    is = out_is q os' ts' r' ∙ g.departed.is ∙ ap (λ (l : List Timed). l ++ g.departed.more) (sym (out_is q os ts r));
    later = g.departed.later;
  };
  lost = record {
    more = g.lost.more;
    is = lost_is q os' ts' ∙ g.lost.is
        ∙ ap (λ (l : List Timed). l ++ g.lost.more) (sym (lost_is q os ts));
  };
  log = record {
    more = g.log.more;
    is = log_is q os' ts' r' (falling_of ts' s') ∙ g.log.is
        ∙ ap (λ (l : List Entry). l ++ g.log.more) (sym (log_is q os ts r (falling_of ts s)));
  };
}

-- whatever opportunities and packets come
pub link_continues : (low : ℕ) (q : QueueSpec) (opps opps' : List Opportunity) (arrivals arrivals' : List Timed)
    → AreRising (opps ++ opps') → Rise (arrivals ++ arrivals')
    → MayCome low (reverse opps) (reverse arrivals) opps' arrivals'
    → LinkGoesOn low q opps arrivals (opps ++ opps') (arrivals ++ arrivals')
link_continues low q opps opps' arrivals arrivals' r s c =
    let e = continues low q arrivals' opps' (reverse opps) (reverse arrivals) c in
    let es : onto opps' (reverse opps) ≡ reverse (opps ++ opps') = sym (reverse_onto opps opps') in
    let fs : onto arrivals' (reverse arrivals) ≡ reverse (arrivals ++ arrivals') =
    sym (reverse_onto arrivals arrivals') in
    in_order low q opps (opps ++ opps') arrivals (arrivals ++ arrivals') (rising_front opps opps' r) r
    (rise_front arrivals arrivals' s) s
    (subst (λ (ts : List Timed). GoesOnWhole low q (reverse opps) (reverse arrivals) (reverse (opps ++ opps')) ts) fs
    (subst (λ (os : List Opportunity). GoesOnWhole low q (reverse opps) (reverse arrivals) os
    (onto arrivals' (reverse arrivals))) es e))

-- where more is fed and maybe more is burnt
pub goes_on : (q : QueueSpec) (os : List Opportunity) (h b b' : ℕ) (l cs : List Timed) → AreRising os → b ≤ b'
    → Rise (l ++ cs)
    → Each (λ o. Each (λ u. u.moment < o.moment) (reverse l)) (drop b os)
    → Each (λ t. Each (λ u. u.moment ≤ t.moment) (reverse l)) cs
    → Each (λ t. Each (λ p. p.moment ≤ t.moment) (reverse (take b os))) cs
    → LinkGoesOn (floor_of os h b) q (take b os) l (take b' os) (l ++ cs)
goes_on q os h b b' l cs r le rise after before burnt =
    let all : take b' os ≡ take b os ++ take (b' - b) (drop b os) = take_more os b b' le in
    let whole : AreRising (take b os ++ take (b' - b) (drop b os)) = subst AreRising all (rising_take b' os r) in
    subst (λ (xs : List Opportunity). LinkGoesOn (floor_of os h b) q (take b os) l xs (l ++ cs)) (sym all)
    (link_continues (floor_of os h b) q (take b os) (take (b' - b) (drop b os)) l cs whole rise
    (comes os h b b' l cs r rise after before burnt))

pub link_fed : (q : QueueSpec) (os : List Opportunity) (h b b' bound : ℕ) (l cs : List Timed) → AreRising os → b ≤ b'
    → b ≤ count_to os bound → AreCovered os b l
    → Rise l → AreUpTo bound l → AreFrom bound cs → Rise cs
    → LinkGoesOn (floor_of os h b) q (take b os) l (take b' os) (l ++ cs)
link_fed q os h b b' bound l cs r le lic cov rl up from rc =
    goes_on q os h b b' l cs r le (rise-append bound l cs rl up from rc)
    (turn_each l (drop b os) (after_all os b l r cov)) (each_le l cs bound (each_up_to bound l up) from)
    (opps_le (take b os) cs bound (early_burnt os b bound r lic) from)

pub link_burnt : (q : QueueSpec) (os : List Opportunity) (h b b' : ℕ) (l : List Timed) → AreRising os → b ≤ b'
    → Rise l → AreCovered os b l
    → LinkGoesOn (floor_of os h b) q (take b os) l (take b' os) l
link_burnt q os h b b' l r le rl cov =
    let none : l ++ [] ≡ l = append-nil l in
    subst (λ (ts : List Timed). LinkGoesOn (floor_of os h b) q (take b os) l (take b' os) ts) none
    (goes_on q os h b b' l [] r le (subst Rise (sym none) rl) (turn_each l (drop b os) (after_all os b l r cov)) tt tt)

-- the laws one by one
pub link_out_fed : (q : QueueSpec) (os : List Opportunity) (h b b' bound : ℕ) (l cs : List Timed) → AreRising os
    → b ≤ b' → b ≤ count_to os bound → AreCovered os b l
    → Rise l → AreUpTo bound l → AreFrom bound cs → Rise cs
    → Extends (link_out q (take b' os) (l ++ cs)) (link_out q (take b os) l) (floor_of os h b)
link_out_fed q os h b b' bound l cs r le lic cov rl up from rc =
    (link_fed q os h b b' bound l cs r le lic cov rl up from rc).out

pub link_out_burnt : (q : QueueSpec) (os : List Opportunity) (h b b' : ℕ) (l : List Timed) → AreRising os → b ≤ b'
    → Rise l → AreCovered os b l
    → Extends (link_out q (take b' os) l) (link_out q (take b os) l) (floor_of os h b)
link_out_burnt q os h b b' l r le rl cov = (link_burnt q os h b b' l r le rl cov).out

pub link_log_fed : (q : QueueSpec) (os : List Opportunity) (b b' bound : ℕ) (l cs : List Timed) → AreRising os
    → b ≤ b' → b ≤ count_to os bound → AreCovered os b l
    → Rise l → AreUpTo bound l → AreFrom bound cs → Rise cs → (rest : List Entry)
    × (link_log q (take b' os) (l ++ cs) ≡ link_log q (take b os) l ++ rest)
link_log_fed q os b b' bound l cs r le lic cov rl up from rc = let g =
    (link_fed q os 0 b b' bound l cs r le lic cov rl up from rc).log in (g.more, g.is)

pub link_log_burnt : (q : QueueSpec) (os : List Opportunity) (b b' : ℕ) (l : List Timed) → AreRising os → b ≤ b'
    → Rise l → AreCovered os b l
    → (rest : List Entry) × (link_log q (take b' os) l ≡ link_log q (take b os) l ++ rest)
link_log_burnt q os b b' l r le rl cov = let g = (link_burnt q os 0 b b' l r le rl cov).log in (g.more, g.is)
