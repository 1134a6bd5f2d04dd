-- A step of a world: what each actor does. An actor that has nothing to do changes nothing.
use Rattle.std.specs.Prelude.{ℕ, zero, suc, ◌+◌, ◌*◌, List, [], ◌∷◌, Option, Some, None, length, if◌then◌else◌}
use Rattle.packet_record.specs.declared.item.Item.{Item}
use Rattle.packet_record.specs.Streams.{Stream, after}
use Rattle.nest_core.specs.declared.station.Station.{Station}
use Rattle.nest_core.specs.declared.actor.Actor.{Actor}
use Rattle.nest_core.specs.declared.actor.Actor.TheVariants.{Source, Receiver, Feeder, Taker, Sender}
use Rattle.nest_core.specs.Channels.{ChannelParts, has_room, with_last, first_of, without_first, left_by}
use Rattle.nest_core.specs.Stations.{station, receives, after_receiving, fed_station, taken_station, sent_station}
use Rattle.nest_core.specs.Worlds.{Line, WorldParts, line, world}
use Rattle.nest_core.specs.Actors.{actor_of}

-- How many actors a world has.
abbrev pub actors_of : WorldParts → ℕ
actors_of w = 4 * length w.line.stations + 2

-- The source sends the first of the items that it has left, where the channel has room.
abbrev pub sourcing : List Item → WorldParts → WorldParts
sourcing [] w = w
sourcing (item ∷ items) w =
    if has_room w.line.channel
    then world w.horizon items (line (with_last w.line.channel item) w.line.stations w.line.collected) else w

-- The collector receives the item, if there is one.
abbrev pub collecting : Option Item → ChannelParts → Stream → Line
collecting None channel collected = line channel [] collected
collecting (Some item) channel collected = line (without_first channel) [] (after collected item)

-- The feeder of the shell behind the channel receives from it.
abbrev pub receiving : ChannelParts → Station → List Station → Stream → Line
receiving channel s stations collected =
    line (left_by (receives (first_of channel.items) s) channel) (after_receiving (first_of channel.items) s ∷ stations)
    collected

-- The line of a shell and the line behind it. The channel of `rest` is the one that the shell's drain sends into.
abbrev pub behind : ChannelParts → Station → Line → Line
behind channel s rest = line channel (station s.feeder s.state s.drain rest.channel ∷ rest.stations) rest.collected

-- The feeder of the shell at a place receives. At the place past the last shell the collector does.
abbrev pub received : ℕ → ChannelParts → List Station → Stream → Line
received zero channel [] collected = collecting (first_of channel.items) channel collected
received (suc j) channel [] collected = line channel [] collected
received zero channel (s ∷ stations) collected = receiving channel s stations collected
received (suc j) channel (s ∷ stations) collected = behind channel s (received j s.channel stations collected)

-- The stations, where the one at place `j` is changed by `f`.
abbrev pub changed_at : (Station → Station) → ℕ → List Station → List Station
changed_at f j [] = []
changed_at f zero (s ∷ stations) = f s ∷ stations
changed_at f (suc j) (s ∷ stations) = s ∷ changed_at f j stations

-- The world with other stations.
abbrev pub with_stations : WorldParts → List Station → WorldParts
with_stations w stations = world w.horizon w.unsent (line w.line.channel stations w.line.collected)

-- The world after an actor's step.
abbrev pub act : WorldParts → Actor → WorldParts
act w Source = sourcing w.unsent w
act w (Receiver j) = world w.horizon w.unsent (received j w.line.channel w.line.stations w.line.collected)
act w (Feeder j) = with_stations w (changed_at fed_station j w.line.stations)
act w (Taker j) = with_stations w (changed_at taken_station j w.line.stations)
act w (Sender j) = with_stations w (changed_at sent_station j w.line.stations)

-- The world after the step of the actor `number`.
unfoldable pub step_of : WorldParts → ℕ → WorldParts
step_of w number = act w (actor_of number)
