-- A link whose departures take the places of its arrivals.
use Rattle.std.specs.Prelude.{◌≡◌, ℕ, List, [], length, take}
use Rattle.packet_record.specs.declared.packet.Timed.{Timed}
use Rattle.link_core.specs.declared.parts.Parts.{Parts}
use Rattle.link_core.specs.views.Placed.{Placed}
use Rattle.link_core.specs.views.Span.{span_opps}
use Rattle.link_core.specs.inside.Play.{IsPlayable}
use Rattle.link_core.specs.inside.Sound.{Gone, IsSoundAfter}

-- what was let go, where the first of these packets have arrived and what departed stands in their places
abbrev pub gone_in : List Timed → Placed → Gone
gone_in arrivals places = record { come = take places.entered arrivals; departed = places.departed; log = [] }

-- Between two pieces of the arrivals nothing is in hand: what arrived was let go, and what departed stands in its
-- places.
pub record IsBetweenPieces (gone : Gone) (last : ℕ) (c : Parts) (places : Placed) : Type 0 where
  pub sound : IsSoundAfter gone c
  pub playable : IsPlayable (span_opps c.opportunities) c.opportunities.horizon last c.burnt gone.come places.coming
  pub entered : length gone.come ≡ places.entered
  pub departed : gone.departed ≡ places.departed
  pub none_come : c.arrived.come ≡ []
  pub none_coming : c.arrived.coming ≡ []
  pub none_departed : c.departed.items ≡ []
  pub none_logged : gone.log ≡ []
