-- A link that goes over a piece of its arrivals, and then over the others.
use Rattle.std.proofs.Common.{◌≡◌, ℕ, ◌≤◌, ◌++◌, zero, suc, List, [], ◌∷◌, length, take, get_or}
use Rattle.std.proofs.Common.{arith, refl, ap, sym, subst, ◌∙◌}
use Rattle.std.proofs.lemmas.List.{append_assoc}
use Rattle.packet_record.specs.declared.packet.Timed.{Timed}
use Rattle.packet_record.specs.Moments.{AreFrom, AreUpTo, Rise}
use Rattle.packet_record.proofs.MomentsLemmas.{rise_back, up_to_back}
use Rattle.packet_queue.specs.declared.spec.QueueSpec.{QueueSpec}
use Rattle.trace_reader.specs.declared.opportunity.Opportunity.{Opportunity}
use Rattle.link_core.specs.Promises.{count_to, AreCovered}
use Rattle.link_core.specs.inside.Play.{IsInTime, IsPlayable}
use Rattle.link_core.proofs.FeedLemmas.{count_more}
use Rattle.link_core.proofs.LinkLaws.{rise_split}
use Rattle.link_core.proofs.OnlyLaws.{up_to_each}

from_front : (m : ℕ) (xs ys : List Timed) → AreFrom m (xs ++ ys) → AreFrom m xs
from_front m [] ys a = tt
from_front m (x ∷ xs) ys a = (a.0, from_front m xs ys a.1)

rise_front : (xs ys : List Timed) → Rise (xs ++ ys) → Rise xs
rise_front [] ys r = tt
rise_front (x ∷ xs) ys r = (from_front x.moment xs ys r.0, rise_front xs ys r.1)

up_to_front : (m : ℕ) (xs ys : List Timed) → AreUpTo m (xs ++ ys) → AreUpTo m xs
up_to_front m [] ys a = tt
up_to_front m (x ∷ xs) ys a = (a.0, up_to_front m xs ys a.1)

covered_back : (os : List Opportunity) (n : ℕ) (xs ys : List Timed) → AreCovered os n (xs ++ ys) → AreCovered os n ys
covered_back os n [] ys a = a
covered_back os n (x ∷ xs) ys a = covered_back os n xs ys a.1

covered_up_to : (os : List Opportunity) (m : ℕ) (ts : List Timed) → AreUpTo m ts → AreCovered os (count_to os m) ts
covered_up_to os m [] a = tt
covered_up_to os m (t ∷ ts) a = (count_more os t.moment m a.0, covered_up_to os m ts a.1)

in_time_from : (os : List Opportunity) (m : ℕ) (ts : List Timed) → AreFrom m ts → IsInTime os (count_to os m) ts
in_time_from os m [] a = tt
in_time_from os m (t ∷ ts) a = count_more os m t.moment a.0

in_time_front : (os : List Opportunity) (b : ℕ) (xs ys : List Timed) → IsInTime os b (xs ++ ys) → IsInTime os b xs
in_time_front os b [] ys i = tt
in_time_front os b (x ∷ xs) ys i = i

-- what is burnt before a packet is no more than what is due at it
in_time_up_to : (os : List Opportunity) (b m : ℕ) (t : Timed) (ts : List Timed) → IsInTime os b (t ∷ ts)
    → AreUpTo m (t ∷ ts) → b ≤ count_to os m
in_time_up_to os b m t ts i a = let more = count_more os t.moment m a.0 in omega arith

at_end : (piece : List Timed) (i : ℕ) (latest : Timed) → latest ≡ get_or piece i latest → length piece ≡ suc i
    → piece ≡ take i piece ++ latest ∷ []
at_end [] i latest at size = absurd (omega arith)
at_end (t ∷ []) zero latest at size = ap (λ u. u ∷ []) (sym at)
at_end (t ∷ u ∷ ts) zero latest at size = absurd (omega arith)
at_end (t ∷ ts) (suc i) latest at size = ap (λ us. t ∷ us) (at_end ts i latest at (omega arith))

module _ (os : List Opportunity) (h last b : ℕ) (come piece rest : List Timed) (latest : Timed) (i : ℕ)
    (p : IsPlayable os h last b come (piece ++ rest)) (at : latest ≡ get_or piece i latest)
    (size : length piece ≡ suc i) where
  abbrev front : List Timed
  front = take i piece

  is_front : piece ≡ front ++ latest ∷ []
  is_front = at_end piece i latest at size

  all_is : come ++ (piece ++ rest) ≡ (come ++ front) ++ latest ∷ rest
  all_is = ap (λ ts. come ++ (ts ++ rest)) is_front ∙ ap (λ ts. come ++ ts) (append_assoc front (latest ∷ []) rest)
      ∙ sym (append_assoc come front (latest ∷ rest))

  whole_rises : Rise ((come ++ front) ++ latest ∷ rest)
  whole_rises = subst Rise all_is p.rises

  up_to_latest : AreUpTo latest.moment piece
  up_to_latest =
      let before = up_to_back latest.moment come front (up_to_each latest.moment (come ++ front)
      (rise_split (come ++ front) latest rest whole_rises)) in
      subst (AreUpTo latest.moment) (sym is_front) (with_latest front before)
    where
      with_latest : (ts : List Timed) → AreUpTo latest.moment ts → AreUpTo latest.moment (ts ++ latest ∷ [])
      with_latest [] a = (omega arith, tt)
      with_latest (t ∷ ts) a = (a.0, with_latest ts a.1)

  due_in_time : (ts : List Timed) → ts ≡ piece → IsInTime os b ts → b ≤ count_to os latest.moment
  due_in_time [] e t = let none = ap length e in absurd (omega arith)
  due_in_time (t ∷ ts) e i = in_time_up_to os b latest.moment t ts i
      (subst (AreUpTo latest.moment) (sym e) up_to_latest)

  pub latest_in_time : b ≤ count_to os latest.moment
  latest_in_time = due_in_time piece refl (in_time_front os b piece rest p.in_time)

  -- the link can go over the piece, up to what is due at its last packet
  pub playable_piece : count_to os latest.moment ≤ length os → IsPlayable os h (count_to os latest.moment) b come piece
  playable_piece few = record {
    rises = rise_front (come ++ piece) rest (subst Rise (sym (append_assoc come piece rest)) p.rises);
    within = up_to_front h (come ++ piece) rest (subst (AreUpTo h) (sym (append_assoc come piece rest)) p.within);
    in_time = in_time_front os b piece rest p.in_time;
    covered = covered_up_to os latest.moment piece up_to_latest;
    few = few;
    so_far = latest_in_time;
  }

  -- then it can go over the others
  pub playable_rest : IsPlayable os h last (count_to os latest.moment) (come ++ piece) rest
  playable_rest = record {
    rises = subst Rise (sym (append_assoc come piece rest)) p.rises;
    within = subst (AreUpTo h) (sym (append_assoc come piece rest)) p.within;
    in_time = in_time_from os latest.moment rest (rise_back (come ++ front) latest rest whole_rises);
    covered = covered_back os last piece rest p.covered;
    few = p.few;
    so_far = (covered_back os last front (latest ∷ rest)
        (subst (AreCovered os last) (ap (λ ts. ts ++ rest) is_front ∙ append_assoc front (latest ∷ []) rest)
        p.covered)).0;
  }

-- what a link makes of the same queue, opportunities and arrivals
pub same_along : {X : Type 0} (f : QueueSpec → List Opportunity → List Timed → X) (q q' : QueueSpec) (b b' : ℕ)
    (os os' : List Opportunity) (ts ts' : List Timed) → q ≡ q' → b ≡ b' → os ≡ os' → ts ≡ ts'
    → f q (take b os) ts ≡ f q' (take b' os') ts'
same_along f q q' b b' os os' ts ts' spec burnt opps arrivals =
    ap (λ r. f r (take b os) ts) spec
    ∙ ap (λ n. f q' (take n os) ts) burnt
    ∙ ap (λ xs. f q' (take b' xs) ts) opps
    ∙ ap (λ us. f q' (take b' os') us) arrivals
