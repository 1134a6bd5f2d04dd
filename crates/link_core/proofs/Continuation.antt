-- What a link has done stays, whatever comes later.
use Rattle.std.proofs.Common.{reverse, ◌≡◌, ℕ, ◌<◌, ◌≤◌, ◌++◌, true, List, [], ◌∷◌, map, arith, refl, ap, sym, ◌∙◌, inl}
use Rattle.std.proofs.Common.{inr}
use Rattle.std.proofs.lemmas.Bool.{cases_lt}
use Rattle.std.proofs.lemmas.List.{append-nil, append_assoc}
use Rattle.packet_record.specs.declared.packet.Timed.{Timed}
use Rattle.packet_queue.specs.declared.spec.QueueSpec.{QueueSpec}
use Rattle.packet_record.specs.Packets.{moved_to}
use Rattle.trace_reader.specs.declared.opportunity.Opportunity.{Opportunity}
use Rattle.link_core.specs.inside.Stream.{rest, begun}
use Rattle.trace_reader.specs.Orders.{Each, AreRising}
use Rattle.link_core.specs.inside.Orders.{Rising, Falling, AreFalling}
use Rattle.link_core.specs.inside.Back.{sent, keep, departures, losses, log_of}
use Rattle.link_core.specs.inside.State.{Tied}
use Rattle.packet_record.specs.Moments.{AreFrom}
use Rattle.packet_record.proofs.MomentsLemmas.{from-append}
use Rattle.link_core.specs.inside.Promises.{Extends}
use Rattle.link_core.proofs.SentLemmas.{each_map}
use Rattle.link_core.proofs.TiedLemmas.{tied_burn, tied_arrive}
use Rattle.link_core.proofs.SoundLemmas.{reverse_push}

-- the second list goes on from the first
pub record GoesOn {X : Type 0} (xs ys : List X) : Type 0 where
  pub more : List X
  pub is : ys ≡ xs ++ more

pub goes_on_same : {X : Type 0} (xs ys : List X) → ys ≡ xs → GoesOn xs ys
goes_on_same xs ys e = record { more = []; is = e ∙ sym (append-nil xs) }

pub goes_on_then : {X : Type 0} (xs ys zs : List X) → GoesOn xs ys → GoesOn ys zs → GoesOn xs zs
goes_on_then xs ys zs a b =
    record { more = a.more ++ b.more; is = b.is ∙ ap (λ l. l ++ b.more) a.is ∙ append_assoc xs a.more b.more }

-- departures, drops and log of one link, and later; what departs later does so at this moment or later
pub record GoesOnWhole (low : ℕ) (q : QueueSpec) (opps : List Opportunity) (arrivals : List Timed)
    (opps' : List Opportunity) (arrivals' : List Timed) : Type 0 where
  pub departed : Extends (departures (keep q opps' arrivals') opps') (departures (keep q opps arrivals) opps) low
  pub lost : GoesOn (losses q opps arrivals) (losses q opps' arrivals')
  pub log : GoesOn (log_of q opps arrivals) (log_of q opps' arrivals')

extends_same : (low : ℕ) (xs ys : List Timed) → ys ≡ xs → Extends ys xs low
extends_same low xs ys e = record { more = []; is = e ∙ sym (append-nil xs); later = tt }

extends_on : (low : ℕ) (xs ys zs : List Timed) → Extends ys xs low → Extends zs ys low → Extends zs xs low
extends_on low xs ys zs a b = record {
  more = a.more ++ b.more;
  is = b.is ∙ ap (λ l. l ++ b.more) a.is ∙ append_assoc xs a.more b.more;
  later = from-append low a.more b.more a.later b.later;
}

goes_then : (low : ℕ) (q : QueueSpec) (os os' os'' : List Opportunity) (ts ts' ts'' : List Timed)
    → GoesOnWhole low q os ts os' ts' → GoesOnWhole low q os' ts' os'' ts''
    → GoesOnWhole low q os ts os'' ts''
goes_then low q os os' os'' ts ts' ts'' a b = record {
  departed = extends_on low _ _ _ a.departed b.departed;
  lost = goes_on_then _ _ _ a.lost b.lost;
  log = goes_on_then _ _ _ a.log b.log;
}

pub moved_from : (low moment : ℕ) (ts : List Timed) → low ≤ moment → AreFrom low (map (moved_to moment) ts)
moved_from low moment [] le = tt
moved_from low moment (t ∷ ts) le = (le, moved_from low moment ts le)

tied_now : (q : QueueSpec) (opps : List Opportunity) (arrivals : List Timed) → Falling arrivals → AreFalling opps
    → Tied q opps arrivals (rest (sent (keep q opps arrivals) opps) (keep q opps arrivals))
    (begun (sent (keep q opps arrivals) opps) (keep q opps arrivals))
    (departures (keep q opps arrivals) opps) (losses q opps arrivals) true (log_of q opps arrivals)
tied_now q opps arrivals f g = record {
  inside_is = refl;
  used_is = refl;
  departed_is = refl;
  lost_is = refl;
  log_is = refl;
  arrivals_fall = f;
  opps_fall = g;
}

-- a later opportunity
pub extends_burn : (low : ℕ) (q : QueueSpec) (o : Opportunity) (opps : List Opportunity) (arrivals : List Timed)
    → Falling arrivals → AreFalling opps
    → Each (λ t. t.moment < o.moment) arrivals → Each (λ p. p.moment ≤ o.moment) opps → low ≤ o.moment
    → GoesOnWhole low q opps arrivals (o ∷ opps) arrivals
extends_burn low q o opps arrivals f g a b le =
    let new = tied_burn q o opps arrivals _ _ _ _ true _ (tied_now q opps arrivals f g) a b in
    record {
      departed = record { more = _; is = new.departed_is; later = moved_from low o.moment _ le };
      lost = goes_on_same _ _ new.lost_is;
      log = record { more = _; is = new.log_is };
    }

-- a later arrival
pub extends_arrive : (low : ℕ) (q : QueueSpec) (t : Timed) (opps : List Opportunity) (arrivals : List Timed)
    → Falling arrivals → AreFalling opps
    → Each (λ u. u.moment ≤ t.moment) arrivals → Each (λ o. o.moment ≤ t.moment) opps
    → GoesOnWhole low q opps arrivals opps (t ∷ arrivals)
extends_arrive low q t opps arrivals f g a b =
    let new = tied_arrive q t opps arrivals _ _ _ _ true _ _ _ (tied_now q opps arrivals f g) refl refl a b in
    record {
      departed = extends_same low _ _ new.departed_is;
      lost = record { more = _; is = new.lost_is };
      log = record { more = _; is = new.log_is };
    }

-- a list in order, put before one with the latest first
abbrev pub onto : {X : Type 0} → List X → List X → List X
onto [] earlier = earlier
onto (x ∷ xs) earlier = onto xs (x ∷ earlier)

-- what may come: opportunities and packets in order, none before what has been
pub record MayCome (low : ℕ) (opps : List Opportunity) (arrivals : List Timed) (opps' : List Opportunity)
    (arrivals' : List Timed) : Type 0 where
  pub falling : Falling arrivals
  pub opps_falling : AreFalling opps
  pub rising : Rising arrivals'
  pub opps_rising : AreRising opps'
  pub opps_from : Each (λ o. low ≤ o.moment) opps'
  pub opps_arrivals : Each (λ o. Each (λ t. t.moment < o.moment) arrivals) opps'
  pub opps_opps : Each (λ o. Each (λ p. p.moment ≤ o.moment) opps) opps'
  pub arrivals_arrivals : Each (λ t. Each (λ u. u.moment ≤ t.moment) arrivals) arrivals'
  pub arrivals_opps : Each (λ t. Each (λ o. o.moment ≤ t.moment) opps) arrivals'

each_also : {X Y : Type 0} (R : X → Y → Type 0) (y : Y) (ys : List Y) (xs : List X) → Each (λ x. R x y) xs
    → Each (λ x. Each (R x) ys) xs → Each (λ x. Each (R x) (y ∷ ys)) xs
each_also R y ys [] a b = tt
each_also R y ys (x ∷ xs) a b = ((a.0, b.0), each_also R y ys xs a.1 b.1)

come_burn : (low : ℕ) (o : Opportunity) (os opps : List Opportunity) (arrivals ts : List Timed)
    → MayCome low opps arrivals (o ∷ os) ts → Each (λ t. o.moment ≤ t.moment) ts
    → MayCome low (o ∷ opps) arrivals os ts
come_burn low o os opps arrivals ts c a = record {
  falling = c.falling;
  opps_falling = (c.opps_opps.0, c.opps_falling);
  rising = c.rising;
  opps_rising = c.opps_rising.1;
  opps_from = c.opps_from.1;
  opps_arrivals = c.opps_arrivals.1;
  opps_opps = each_also (λ (x : Opportunity) (p : Opportunity). p.moment ≤ x.moment) o opps os c.opps_rising.0
      c.opps_opps.1;
  arrivals_arrivals = c.arrivals_arrivals;
  arrivals_opps = each_also (λ (x : Timed) (p : Opportunity). p.moment ≤ x.moment) o opps ts a c.arrivals_opps;
}

come_arrive : (low : ℕ) (t : Timed) (ts arrivals : List Timed) (opps os : List Opportunity)
    → MayCome low opps arrivals os (t ∷ ts) → Each (λ o. t.moment < o.moment) os
    → MayCome low opps (t ∷ arrivals) os ts
come_arrive low t ts arrivals opps os c a = record {
  falling = (c.arrivals_arrivals.0, c.falling);
  opps_falling = c.opps_falling;
  rising = c.rising.1;
  opps_rising = c.opps_rising;
  opps_from = c.opps_from;
  opps_arrivals = each_also (λ (x : Opportunity) (u : Timed). u.moment < x.moment) t arrivals os a c.opps_arrivals;
  opps_opps = c.opps_opps;
  arrivals_arrivals = each_also (λ (x : Timed) (u : Timed). u.moment ≤ x.moment) t arrivals ts c.rising.0
      c.arrivals_arrivals.1;
  arrivals_opps = c.arrivals_opps.1;
}

only_opps : (low : ℕ) (q : QueueSpec) (os opps : List Opportunity) (arrivals : List Timed)
    → MayCome low opps arrivals os [] → GoesOnWhole low q opps arrivals (onto os opps) arrivals
only_opps low q [] opps arrivals c = record {
  departed = extends_same low _ _ refl;
  lost = goes_on_same _ _ refl;
  log = goes_on_same _ _ refl;
}
only_opps low q (o ∷ os) opps arrivals c =
    goes_then low q _ _ _ _ _ _ (extends_burn low q o opps arrivals c.falling c.opps_falling c.opps_arrivals.0
    c.opps_opps.0 c.opps_from.0)
    (only_opps low q os (o ∷ opps) arrivals (come_burn low o os opps arrivals [] c tt))

-- what holds of every list of packets that may come after the first
abbrev Rest : ℕ → QueueSpec → List Timed → Type 0
Rest low q ts = (os opps : List Opportunity) (arrivals : List Timed) → MayCome low opps arrivals os ts
    → GoesOnWhole low q opps arrivals (onto os opps) (onto ts arrivals)

next_packet : (low : ℕ) (q : QueueSpec) (t : Timed) (ts : List Timed) → Rest low q ts
    → (os opps : List Opportunity) (arrivals : List Timed) → MayCome low opps arrivals os (t ∷ ts)
    → GoesOnWhole low q opps arrivals (onto os opps) (onto ts (t ∷ arrivals))
next_packet low q t ts ih [] opps arrivals c =
    goes_then low q _ _ _ _ _ _ (extends_arrive low q t opps arrivals c.falling c.opps_falling c.arrivals_arrivals.0
    c.arrivals_opps.0)
    (ih [] opps (t ∷ arrivals) (come_arrive low t ts arrivals opps [] c tt))
next_packet low q t ts ih (o ∷ os) opps arrivals c = elim (cases_lt t.moment o.moment) [
  | inl lt ↦
      let later : Each (λ p. t.moment < p.moment) (o ∷ os) =
      (lt, each_map (λ p. o.moment ≤ p.moment) (λ p. t.moment < p.moment) os (λ p le. omega arith) c.opps_rising.0)
      in
      goes_then low q _ _ _ _ _ _ (extends_arrive low q t opps arrivals c.falling c.opps_falling c.arrivals_arrivals.0
      c.arrivals_opps.0)
      (ih (o ∷ os) opps (t ∷ arrivals) (come_arrive low t ts arrivals opps (o ∷ os) c later))
  | inr le ↦
      let after : Each (λ u. o.moment ≤ u.moment) (t ∷ ts) =
      (le, each_map (λ u. t.moment ≤ u.moment) (λ u. o.moment ≤ u.moment) ts (λ u h. omega arith) c.rising.0)
      in
      goes_then low q _ _ _ _ _ _ (extends_burn low q o opps arrivals c.falling c.opps_falling c.opps_arrivals.0
      c.opps_opps.0 c.opps_from.0)
      (next_packet low q t ts ih os (o ∷ opps) arrivals (come_burn low o os opps arrivals (t ∷ ts) c after))
]

-- whatever comes, what was stays
pub continues : (low : ℕ) (q : QueueSpec) (ts : List Timed) → Rest low q ts
continues low q [] os opps arrivals c = only_opps low q os opps arrivals c
continues low q (t ∷ ts) os opps arrivals c = next_packet low q t ts (continues low q ts) os opps arrivals c

pub reverse_onto : {X : Type 0} (xs ys : List X) → reverse (xs ++ ys) ≡ onto ys (reverse xs)
reverse_onto xs [] = ap reverse (append-nil xs)
reverse_onto xs (y ∷ ys) =
    ap reverse (sym (append_assoc xs (y ∷ []) ys)) ∙ reverse_onto (xs ++ y ∷ []) ys
    ∙ ap (λ l. onto ys l) (reverse_push xs y)
