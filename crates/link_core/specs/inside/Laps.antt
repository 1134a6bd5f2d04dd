-- Laps of a trace that is played again and again.
use Rattle.std.specs.Prelude.{◌≡◌, ℕ, ◌*◌, ◌/◌, List, length}
use Rattle.trace_reader.specs.declared.opportunity.Opportunity.{Opportunity}
use Rattle.trace_reader.specs.Opps.{last_moment}

-- this number of opportunities came before a lap, which begins at this moment
pub record IsLap (trace : List Opportunity) (first start : ℕ) : Type 0 where
  pub whole : first / length trace * length trace ≡ first
  pub begins : first / length trace * last_moment trace ≡ start
