-- For proofs alone: what the feeder of a station may feed, and when its drain takes.
use Rattle.std.specs.Prelude.{Bool, true, false, Option, Some, None, IfSome}
use Rattle.packet_record.specs.Streams.{MayFollow, IsUpTo}
use Rattle.packet_record.specs.declared.item.Item.{Item}
use Rattle.packet_record.specs.declared.item.FlowEnd.{FlowEnd}
use Rattle.packet_record.specs.declared.item.FlowEnd.TheVariants.{Open, Ended, Broken}
use Rattle.shell_state.specs.declared.taken.Taken.{Taken}
use Rattle.shell_state.specs.declared.taken.Taken.TheVariants.{Item as Gives, Again, NotYet}
use Rattle.shell_state.specs.Steps.{answer_of}
use Rattle.nest_core.specs.declared.station.Station.{Station}
use Rattle.nest_core.specs.Stations.{most}

-- What the feeder holds may be fed.
abbrev pub MayFeed : Station → Type 0
MayFeed s = IfSome s.feeder (λ item. MayFollow s.state.fed item × IsUpTo s.state.horizon item)

-- A take gave an item or burnt opportunities.
abbrev pub goes_on : Taken → Bool
goes_on (Gives item) = true
goes_on (Again burnt) = true
goes_on (NotYet bound) = false

-- A drain that holds `held` and whose taken stream is at `end` would take something.
abbrev pub takes_where : Option Item → FlowEnd → Station → Bool
takes_where (Some item) end s = false
takes_where None Open s = goes_on (answer_of s.state most)
takes_where None Ended s = false
takes_where None Broken s = false
