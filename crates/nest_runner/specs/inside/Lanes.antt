-- Beside Lanes, for proofs alone: the lanes of both directions, a lane that stays the same, and one whose streams have
-- ended.
use Rattle.std.specs.Prelude.{◌≡◌, List, [], ◌∷◌}
use Rattle.packet_record.specs.declared.item.FlowEnd.TheVariants.{Ended as IsOver}
use Rattle.mark_channel.specs.Ends.{IsSameEnd}
use Rattle.shell_workers.specs.declared.stage.Stage.{Stage}
use Rattle.nest_runner.specs.declared.lane.Lane.{Lane}
use Rattle.nest_runner.specs.Lanes.{IsSamePath}
use Rattle.packet_record.specs.declared.both.Both.{Both}
use Rattle.nest_runner.specs.declared.lanes.Lanes.{Lanes}

-- the lane of each direction
abbrev pub lanes_of : Lanes → Both Lane
lanes_of lanes = record {
  up = record { head = lanes.heads.up; path = lanes.paths.up };
  down = record { head = lanes.heads.down; path = lanes.paths.down };
}

-- The sender before the path and the path stay the same.
abbrev pub IsSameLane : Lane → Lane → Type 0
IsSameLane old new = IsSameEnd old.head new.head × IsSamePath old.path new.path

-- What each stage received, took and sent came to its end: nothing of it was broken off.
abbrev pub AllEnded : List Stage → Type 0
AllEnded [] = Unit {0}
AllEnded (s ∷ stages) = (s.from.flow.end ≡ IsOver) × (s.drain.flow.end ≡ IsOver) × (s.to.flow.end ≡ IsOver)
    × AllEnded stages

-- What the source sent, what the stages passed on, and what was collected came to its end.
pub record HasEnded (lane : Lane) : Type 0 where
  pub sent : lane.head.flow.end ≡ IsOver
  pub stages : AllEnded lane.path.stages.items
  pub collected : lane.path.last.flow.end ≡ IsOver
