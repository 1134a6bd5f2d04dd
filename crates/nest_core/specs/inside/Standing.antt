-- For proofs alone: how the streams of a world fit each other.
use Rattle.std.specs.Prelude.{◌≡◌, ◌≤◌, ℕ, false, List, [], ◌∷◌, ◌++◌, length, option_to_list}
use Rattle.packet_record.specs.declared.item.Item.{Item}
use Rattle.packet_record.specs.declared.item.FlowEnd.TheVariants.{Ended}
use Rattle.packet_record.specs.Streams.{Stream, after_all, AllFollow}
use Rattle.shell_state.specs.declared.spec.DirSpec.{DirSpec}
use Rattle.shell_state.specs.States.{new_state}
use Rattle.shell_state.specs.Standing.{Stands}
use Rattle.nest_core.specs.declared.station.Station.{Station}
use Rattle.nest_core.specs.Channels.{ChannelParts}
use Rattle.nest_core.specs.Worlds.{WorldParts}
use Rattle.nest_core.specs.Promises.{source_stream}

-- `got`, and then `items`, is the stream `whole`, and `items` may follow `got`.
pub record Arrives (h : ℕ) (whole got : Stream) (items : List Item) : Type 0 where
  pub is : after_all got items ≡ whole
  pub honest : AllFollow h got items

-- The shell's state is sound, has the horizon `h`, and isn't broken.
pub record StationStands (h : ℕ) (s : Station) : Type 0 where
  pub stands : Stands s.state
  pub horizon : s.state.horizon ≡ h
  pub unbroken : s.state.broken ≡ false

-- The stream `whole` is sent into the channel, the last of it being `rest`, and arrives at the first shell. What is
-- taken from each shell arrives at the next, and from the last at the collector.
abbrev pub LineStands : ℕ → Stream → ChannelParts → List Item → List Station → Stream → Type 0
LineStands h whole channel rest [] collected =
    Arrives h whole collected (channel.items ++ rest) × (1 ≤ channel.capacity)
LineStands h whole channel rest (s ∷ stations) collected =
    Arrives h whole s.state.fed (option_to_list s.feeder ++ (channel.items ++ rest)) × (1 ≤ channel.capacity)
    × StationStands h s
    × LineStands h s.state.taken s.channel (option_to_list s.drain) stations collected

-- What is true of every world: its source's stream ends, its streams fit each other, and it has at most 8 shells.
pub record WorldStands (w : WorldParts) : Type 0 where
  pub ended : (source_stream w).end ≡ Ended
  pub line : LineStands w.horizon (source_stream w) w.line.channel w.unsent w.line.stations w.line.collected
  pub few : length w.line.stations ≤ 8

-- A new state of each shell is sound.
abbrev pub StandAnew : ℕ → List DirSpec → Type 0
StandAnew h [] = Unit {0}
StandAnew h (c ∷ specs) = Stands (new_state c h) × StandAnew h specs
