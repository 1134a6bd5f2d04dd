-- A world: one direction of a nest in single steps.
use Rattle.std.specs.Prelude.{ℕ, List, map}
use Rattle.packet_record.specs.declared.item.Item.{Item}
use Rattle.packet_record.specs.Streams.{Stream, no_items}
use Rattle.shell_state.specs.declared.spec.DirSpec.{DirSpec}
use Rattle.nest_core.specs.declared.station.Station.{Station}
use Rattle.nest_core.specs.Channels.{ChannelParts, new_channel}
use Rattle.nest_core.specs.Stations.{new_station}

-- A channel, the shells behind it in passing order, and the stream that was collected behind them.
pub record Line : Type 0 where
  pub channel : ChannelParts
  pub stations : List Station
  pub collected : Stream

-- The horizon, the items that the source has still to send, and the line that it sends into.
pub record WorldParts : Type 0 where
  pub horizon : ℕ
  pub unsent : List Item
  pub line : Line

-- The line of its parts.
abbrev pub line : ChannelParts → List Station → Stream → Line
line channel stations collected = record { channel = channel; stations = stations; collected = collected }

-- The world of its parts.
abbrev pub world : ℕ → List Item → Line → WorldParts
world horizon unsent line = record { horizon = horizon; unsent = unsent; line = line }

-- The shells before anything has reached them.
abbrev pub new_stations : ℕ → ℕ → List DirSpec → List Station
new_stations horizon capacity specs = map (λ c. new_station c horizon capacity) specs

-- The world before its first step: nothing is sent, all channels are empty, and nobody holds an item.
abbrev pub new_world : List DirSpec → ℕ → ℕ → List Item → WorldParts
new_world specs horizon capacity items =
    world horizon items (line (new_channel capacity) (new_stations horizon capacity specs) no_items)
