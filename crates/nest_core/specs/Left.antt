-- How much is left for a world to do. Each step that changes the world lowers it, so a world comes to rest.
use Rattle.std.specs.Prelude.{ℕ, ◌+◌, ◌*◌, List, [], ◌∷◌, Option, length, option_to_list}
use Rattle.packet_record.specs.declared.packet.Timed.{Timed}
use Rattle.packet_record.specs.declared.item.Item.{Item}
use Rattle.shell_state.specs.Shells.{whole_out}
use Rattle.shell_state.specs.Promises.{takes_left}
use Rattle.nest_core.specs.declared.station.Station.{Station}
use Rattle.nest_core.specs.Channels.{ChannelParts}
use Rattle.nest_core.specs.Worlds.{WorldParts}
use Rattle.nest_core.specs.Promises.{arrivals_of}

-- 1 where an item is held, else 0.
abbrev pub count_held : Option Item → ℕ
count_held item = length (option_to_list item)

-- What is left at one shell: 1 for an item that the feeder holds, 4 for each take that may still give something, 3 for
-- an item that the drain holds.
abbrev pub left_at : List Timed → Station → ℕ
left_at arrivals s = count_held s.feeder + 4 * takes_left arrivals s.state + 3 * count_held s.drain

-- What is left behind a channel: 2 for each item in a channel, and what is left at each shell.
abbrev pub left_in : List Timed → ChannelParts → List Station → ℕ
left_in arrivals channel [] = 2 * length channel.items
left_in arrivals channel (s ∷ stations) =
    2 * length channel.items + left_at arrivals s
    + left_in (whole_out s.state.spec s.state.horizon arrivals) s.channel stations

-- What is left in a world: 3 for each item that isn't sent yet, and what is left behind the first channel.
unfoldable pub left_of : WorldParts → ℕ
left_of w = 3 * length w.unsent + left_in (arrivals_of w) w.line.channel w.line.stations
