-- What one direction of a shell means, over the whole list of its arrivals. Each kind of shell is one value of this
-- (`Shells`).
use Rattle.std.specs.Prelude.{ℕ, Bool, List}
use Rattle.packet_record.specs.declared.packet.Timed.{Timed}
use Rattle.trace_reader.specs.declared.opportunity.Opportunity.{Opportunity}
use Rattle.shell_log.specs.declared.entry.Entry.{Entry}

-- Of the fields that are functions `opportunities` takes the horizon. The others take the horizon, how many
-- opportunities were burnt, and then the arrivals, or for `floor` the bound.
pub record Meaning : Type 1 where
  -- the range that its numbers must have
  pub in_range : Type 0
  -- what is true of it once it was made
  pub built : Type 0
  -- whether it has a log; only such a shell has opportunities
  pub is_logged : Bool
  -- the opportunities up to the horizon
  pub opportunities : ℕ → List Opportunity
  -- the departures of these arrivals, in order, each at its moment
  pub out : ℕ → ℕ → List Timed → List Timed
  -- the packets that are dropped, in order, each at the moment of its drop
  pub lost : ℕ → ℕ → List Timed → List Timed
  -- the packets that neither depart nor are dropped, in order
  pub inside : ℕ → ℕ → List Timed → List Timed
  -- the log
  pub log : ℕ → ℕ → List Timed → List Entry
  -- No packet departs before this moment any more, if none arrives before the bound any more. Packets that have
  -- departed may be before it.
  pub floor : ℕ → ℕ → ℕ → ℕ
