-- For proofs alone: a link that goes over all its arrivals and the first `last` opportunities.
use Rattle.std.specs.Prelude.{◌≡◌, ℕ, ◌+◌, ◌-◌, ◌≤◌, ◌++◌, List, [], ◌∷◌, length, take}
use Rattle.packet_record.specs.declared.packet.Timed.{Timed}
use Rattle.packet_record.specs.Moments.{AreUpTo, Rise}
use Rattle.trace_reader.specs.declared.opportunity.Opportunity.{Opportunity}
use Rattle.link_core.specs.declared.parts.Parts.{Parts}
use Rattle.link_core.specs.Promises.{count_to, AreCovered}
use Rattle.link_core.specs.Links.{link_out, link_log}
use Rattle.link_core.specs.views.Span.{span_opps}
use Rattle.link_core.specs.inside.Sound.{Gone, all_come}

-- the opportunities that are burnt are not after the next arrival
abbrev pub IsInTime : List Opportunity → ℕ → List Timed → Type 0
IsInTime os b [] = Unit {0}
IsInTime os b (t ∷ ts) = b ≤ count_to os t.moment

-- where b opportunities are burnt, these packets were let in and those are to come
pub record IsPlayable (os : List Opportunity) (horizon last b : ℕ) (come coming : List Timed) : Type 0 where
  pub rises : Rise (come ++ coming)
  pub within : AreUpTo horizon (come ++ coming)
  pub in_time : IsInTime os b coming
  pub covered : AreCovered os last coming
  pub few : last ≤ length os
  pub so_far : b ≤ last

abbrev pub CanPlay : Gone → ℕ → Parts → Type 0
CanPlay gone last c = IsPlayable (span_opps c.opportunities) c.opportunities.horizon last c.burnt (all_come gone c)
    c.arrived.coming

-- all arrivals are in, and the first `last` opportunities are burnt
pub record IsPlayed (last : ℕ) (c : Parts) : Type 0 where
  pub all_in : c.arrived.coming ≡ []
  pub all_burnt : c.burnt ≡ last

abbrev pub all_arrivals : Gone → Parts → List Timed
all_arrivals gone c = all_come gone c ++ c.arrived.coming

-- how many steps there may be
abbrev pub work : ℕ → Parts → ℕ
work last c = length c.arrived.coming + (last - c.burnt)

-- all but the last `n`
abbrev pub without_last : {X : Type 0} → List X → List X → List X
without_last last all = take (length all - length last) all

-- the departures and entries that aren't in hand any more, where each arrival still is
abbrev pub gone_of : Parts → Gone
gone_of c = record {
  come = [];
  departed = without_last c.departed.items (link_out c.buffer.queue.spec (take c.burnt (span_opps c.opportunities))
      c.arrived.come);
  log = without_last c.log.entries (link_log c.buffer.queue.spec (take c.burnt (span_opps c.opportunities))
      c.arrived.come);
}

-- what was let go, where the departures and entries in hand are let go too
abbrev pub gone_with : Gone → Parts → Gone
gone_with gone c = record gone { departed = gone.departed ++ c.departed.items; log = gone.log ++ c.log.entries }
