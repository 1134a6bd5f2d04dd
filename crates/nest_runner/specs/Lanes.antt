-- A direction of a run: the sender that the source has, the stages of the shells, and the receiver behind the last.
use Rattle.std.specs.Prelude.{◌≡◌, ◌+◌, ◌*◌, ℕ, List, [], ◌∷◌, length, map}
use Rattle.packet_record.specs.declared.both.Both.{Both}
use Rattle.packet_record.specs.declared.packet.Timed.{Timed}
use Rattle.packet_record.specs.declared.packet.Direction.{Direction}
use Rattle.packet_record.specs.declared.packet.Row.{Row}
use Rattle.packet_record.specs.declared.item.FlowEnd.TheVariants.{Ended as IsOver}
use Rattle.packet_record.specs.Rows.{entering}
use Rattle.packet_record.specs.Streams.{no_items}
use Rattle.mark_channel.specs.Ends.{Channel, IsSameEnd}
use Rattle.shell_state.specs.declared.spec.DirSpec.{DirSpec}
use Rattle.nest_spec.specs.Nests.{NestParts, directions_of}
use Rattle.shell_workers.specs.declared.stage.Stage.{Stage}
use Rattle.nest_runner.specs.declared.lane.Path.{Path}
use Rattle.nest_runner.specs.declared.lane.Lane.{Lane}
use Rattle.shell_workers.specs.Stages.{AllDone, AllFresh, AllSame}

-- The first stage receives from the channel `first`, each other one from the channel that the one before it sends to.
-- The last one sends to the channel `last`.
abbrev pub Linked : Channel → List Stage → Channel → Type 0
Linked first [] last = first ≡ last
Linked first (s ∷ stages) last = (s.from.channel ≡ first) × Linked s.to.channel stages last

-- Each cell is that of its two seats, and was opened with a state up to `horizon`.
abbrev pub AllOwn : ℕ → List Stage → Type 0
AllOwn horizon [] = Unit {0}
AllOwn horizon (s ∷ stages) = ((s.feed.cell ≡ s.cell) × (s.drain.cell ≡ s.cell) × (s.cell.opening.horizon ≡ horizon))
    × AllOwn horizon stages

-- what the shells of the stages do
abbrev pub specs_of : List Stage → List DirSpec
specs_of stages = map (λ (s : Stage). s.cell.opening.spec) stages

-- The channels link the source, the stages of shells that do what `specs` say, and the collector. All have `horizon`.
pub record IsWired (horizon : ℕ) (specs : List DirSpec) (lane : Lane) : Type 0 where
  pub within : lane.head.horizon ≡ horizon
  pub linked : Linked lane.head.channel lane.path.stages.items lane.path.last.channel
  pub own : AllOwn horizon lane.path.stages.items
  pub specs_are : specs_of lane.path.stages.items ≡ specs

-- how many workers a path has: a feeder and a drain for each shell, and a collector
abbrev pub workers_of : Path → ℕ
workers_of path = 2 * length path.stages.items + 1

-- how many workers the paths of both directions have
abbrev pub workers_in : Both Path → ℕ
workers_in paths = workers_of paths.up + workers_of paths.down

-- Nothing has gone through the path.
abbrev pub IsFreshPath : Path → Type 0
IsFreshPath path = AllFresh path.stages.items × (path.last.flow ≡ no_items)

-- Nothing has gone through the lane, whose source sends up to `horizon`.
pub record IsFreshLane (horizon : ℕ) (lane : Lane) : Type 0 where
  pub flow : lane.head.flow ≡ no_items
  pub items : lane.head.items ≡ []
  pub within : lane.head.horizon ≡ horizon
  pub path : IsFreshPath lane.path

-- All that went through the path came to its end.
abbrev pub IsDonePath : Path → Type 0
IsDonePath path = AllDone path.stages.items × (path.last.flow.end ≡ IsOver)

-- The stages of the path and its last receiver stay the same.
abbrev pub IsSamePath : Path → Path → Type 0
IsSamePath old new = AllSame old.stages.items new.stages.items × IsSameEnd old.last new.last

-- `packets` were sent through the lane, and then the end, and all of it came through.
pub record HasCarried (packets : List Timed) (lane : Lane) : Type 0 where
  pub sent : lane.head.flow.packets ≡ packets
  pub over : lane.head.flow.end ≡ IsOver
  pub done : IsDonePath lane.path

-- The packets that `rows` have in `direction` went through the nest, from the source to the collector.
pub record HasRun (direction : Direction) (nest : NestParts) (rows : List Row) (lane : Lane) : Type 0 where
  pub wired : IsWired nest.horizon (directions_of direction nest) lane
  pub carried : HasCarried (entering direction nest.horizon rows) lane
