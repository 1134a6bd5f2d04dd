-- Both lanes of a run at once.
use Rattle.std.proofs.Common.{◌≡◌, ℕ, List, subst}
use Rattle.packet_record.specs.declared.both.Both.{Both}
use Rattle.packet_record.specs.declared.packet.Direction.TheVariants.{Up, Down}
use Rattle.packet_record.specs.declared.packet.Row.{Row}
use Rattle.packet_record.specs.Rows.{entering}
use Rattle.mark_channel.specs.Boths.{BothKeep, ByDirection, OfBoth}
use Rattle.nest_spec.specs.Nests.{NestParts, directions_of}
use Rattle.nest_runner.specs.declared.lane.Lane.{Lane}
use Rattle.nest_runner.specs.Lanes.{HasCarried, HasRun, IsWired}
use Rattle.nest_runner.specs.inside.Lanes.{HasEnded, IsSameLane}
use Rattle.nest_runner.proofs.Chains.{carried_ended, still_wired}

-- lanes that have carried rows have ended
pub both_ended : (h : ℕ) (rows : List Row) (lanes : Both Lane)
    → ByDirection (λ d lane. HasCarried (entering d h rows) lane) lanes → OfBoth HasEnded lanes
both_ended h rows lanes carried = (carried_ended _ lanes.up carried.0, carried_ended _ lanes.down carried.1)

-- lanes that were wired, and have carried rows, have run them
pub both_ran : (nest : NestParts) (h : ℕ) (rows : List Row) (old new : Both Lane) → h ≡ nest.horizon
    → ByDirection (λ d lane. IsWired nest.horizon (directions_of d nest) lane) old → BothKeep IsSameLane old new
    → ByDirection (λ d lane. HasCarried (entering d h rows) lane) new
    → ByDirection (λ d lane. HasRun d nest rows lane) new
both_ran nest h rows old new is wired same carried = (
  record {
    wired = still_wired _ _ old.up new.up wired.0 same.0;
    carried = subst (λ (h : ℕ). HasCarried (entering Up h rows) new.up) is carried.0;
  },
  record {
    wired = still_wired _ _ old.down new.down wired.1 same.1;
    carried = subst (λ (h : ℕ). HasCarried (entering Down h rows) new.down) is carried.1;
  },
)
