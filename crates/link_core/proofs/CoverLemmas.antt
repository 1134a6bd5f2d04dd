-- What holds of the arrivals of a sound link: they rise, and each is covered by the opportunities that are burnt.
use Rattle.std.proofs.Common.{◌≡◌, ℕ, ◌<◌, ◌≤◌, ◌++◌, Bool, List, [], ◌∷◌, Option, Result, Ok, Err, OnOk, OnErr}
use Rattle.std.proofs.Common.{length, take, drop, reverse, arith, sym, subst, ◌∙◌, inl, inr}
use Rattle.std.proofs.lemmas.Bool.{cases_lt}
use Rattle.std.proofs.lemmas.List.{reverse-reverse}
use Rattle.text_base.specs.declared.out_of_memory.OutOfMemory.{OutOfMemory}
use Rattle.packet_record.specs.declared.packet.Timed.{Timed}
use Rattle.packet_record.specs.Moments.{AreUpTo, Rise}
use Rattle.packet_record.proofs.MomentsLemmas.{up_to-append}
use Rattle.packet_queue.specs.declared.spec.QueueSpec.{QueueSpec}
use Rattle.shell_log.specs.declared.entry.Entry.{Entry}
use Rattle.trace_reader.specs.declared.opportunity.Opportunity.{Opportunity}
use Rattle.trace_reader.specs.Orders.{Each, AreRising}
use Rattle.trace_reader.proofs.OrderLemmas.{each_map, counted, length-up_to}
use Rattle.trace_reader.proofs.ListLemmas.{some_at, slice_get-take}
use Rattle.link_core.specs.Promises.{count_to, AreCovered}
use Rattle.link_core.specs.inside.Sound.{Sound}
use Rattle.link_core.proofs.SoundLemmas.{drop_one}
use Rattle.link_core.proofs.OppsLemmas.{each_at}
use Rattle.link_core.proofs.LinkLaws.{turn_each}
use Rattle.link_core.proofs.OnlyLaws.{rise_now}

-- where all but the first b are after a moment, at most b are up to it
count_below : (os : List Opportunity) (b m : ℕ) → AreRising os → Each (λ o. m < o.moment) (drop b os)
    → count_to os m ≤ b
count_below os b m r late =
    let n = count_to os m in
    let few = length-up_to m os in
    elim (cases_lt b n) [
      | inl lt ↦
          let next = some_at os b (omega arith) in
          let early = each_at (λ o. o.moment ≤ m) (take n os) b next.0 (counted m os r).0 (slice_get-take os n b lt
          ∙ next.1) in
          let after = (subst (Each (λ o. m < o.moment)) (drop_one os b next.0 next.1) late).0 in
          absurd (omega arith)
      | inr le ↦ le
    ]

covered_by : (os : List Opportunity) (b : ℕ) (ts : List Timed) → AreRising os
    → Each (λ o. Each (λ t. t.moment < o.moment) ts) (drop b os)
    → AreCovered os b ts
covered_by os b [] r late = tt
covered_by os b (t ∷ ts) r late =
    let All : List Timed → Opportunity → Type 0 = λ us o. Each (λ u. u.moment < o.moment) us in (
      count_below os b t.moment r (each_map (All (t ∷ ts)) (λ o. t.moment < o.moment) (drop b os) (λ o all. all.0)
          late),
      covered_by os b ts r (each_map (All (t ∷ ts)) (All ts) (drop b os) (λ o all. all.1) late),
    )

-- all opportunities cover whatever arrives
pub all_cover : (os : List Opportunity) (ts : List Timed) → AreCovered os (length os) ts
all_cover os [] = tt
all_cover os (t ∷ ts) = (length-up_to t.moment os, all_cover os ts)

-- one more packet within the horizon, or none
pub within_after : (h : ℕ) (old new : List Timed) (t : Timed) (r : Result (Unit {0}) OutOfMemory) (B : Type 0)
    → AreUpTo h old → t.moment ≤ h → OnOk r (new ≡ old ++ t ∷ []) → OnErr r (B × (new ≡ old)) → AreUpTo h new
within_after h old new t (Ok u) B up le is err = subst (AreUpTo h) (sym is) (up_to-append h old (t ∷ []) up (le, tt))
within_after h old new t (Err e) B up le is err = subst (AreUpTo h) (sym err.1) up

pub sound_rises : (q : QueueSpec) (os : List Opportunity) (b : ℕ) (arrivals : List Timed) (packet : Option Timed)
    (used : ℕ) (queue departed lost : List Timed) (logged : Bool) (log : List Entry)
    → Sound q os b arrivals packet used queue departed lost logged log → Rise arrivals
sound_rises q os b arrivals packet used queue departed lost logged log s = rise_now arrivals s.tied.arrivals_fall

pub sound_covered : (q : QueueSpec) (os : List Opportunity) (b : ℕ) (arrivals : List Timed) (packet : Option Timed)
    (used : ℕ) (queue departed lost : List Timed) (logged : Bool) (log : List Entry)
    → Sound q os b arrivals packet used queue departed lost logged log → AreCovered os b arrivals
sound_covered q os b arrivals packet used queue departed lost logged log s =
    let late = turn_each (reverse arrivals) (drop b os) s.later in
    covered_by os b arrivals s.order
    (subst (λ (ts : List Timed). Each (λ o. Each (λ t. t.moment < o.moment) ts) (drop b os)) (reverse-reverse arrivals)
    late)
