-- A new world stands, and its first list is what enters.
use Rattle.std.proofs.Common.{◌≡◌, ℕ, suc, ◌≤◌, List, [], ◌∷◌, length, map, ap, sym, ◌∙◌, refl, arith}
use Rattle.packet_record.specs.declared.packet.Direction.{Direction}
use Rattle.packet_record.specs.declared.packet.Row.{Row}
use Rattle.packet_record.specs.declared.item.Item.{Item}
use Rattle.packet_record.specs.Streams.{Stream, no_items, after_all}
use Rattle.packet_record.specs.Sources.{source_items}
use Rattle.packet_record.specs.Rows.{Rises}
use Rattle.packet_record.proofs.SourcesLemmas.{source_packets, source_honest, items_end}
use Rattle.shell_state.specs.declared.spec.DirSpec.{DirSpec}
use Rattle.shell_state.specs.States.{State}
use Rattle.nest_spec.specs.Nests.{NestParts, directions_of}
use Rattle.nest_core.specs.declared.station.Station.{Station}
use Rattle.nest_core.specs.Channels.{ChannelParts, new_channel}
use Rattle.nest_core.specs.Worlds.{line, world, new_stations, new_world}
use Rattle.nest_core.specs.Promises.{passed_first, source_stream, IsRunOf}
use Rattle.nest_core.specs.inside.Standing.{Arrives, LineStands, WorldStands, StandAnew}

none_passed : (h capacity : ℕ) (specs : List DirSpec) → passed_first (new_stations h capacity specs) no_items ≡ no_items
none_passed h capacity [] = refl
none_passed h capacity (c ∷ specs) = refl

new_source : (specs : List DirSpec) (h capacity : ℕ) (items : List Item)
    → source_stream (new_world specs h capacity items) ≡ after_all no_items items
new_source specs h capacity items = ap (λ (f : Stream). after_all f items) (none_passed h capacity specs)

new_specs : (h capacity : ℕ) (specs : List DirSpec)
    → map (λ (s : State). s.spec) (map (λ (s : Station). s.state) (new_stations h capacity specs)) ≡ specs
new_specs h capacity [] = refl
new_specs h capacity (c ∷ specs) = ap (λ (l : List DirSpec). c ∷ l) (new_specs h capacity specs)

new_line : (h capacity : ℕ) (whole : Stream) (items : List Item) (specs : List DirSpec) → 1 ≤ capacity
    → StandAnew h specs → Arrives h whole no_items items
    → LineStands h whole (new_channel capacity) items (new_stations h capacity specs) no_items
new_line h capacity whole items [] some st a = (a, some)
new_line h capacity whole items (c ∷ specs) some st a = (
  a,
  some,
  record { stands = st.0; horizon = refl; unbroken = refl },
  new_line h capacity no_items [] specs some st.1 (record { is = refl; honest = tt }),
)

length-new_stations : (h capacity : ℕ) (specs : List DirSpec) → length (new_stations h capacity specs) ≡ length specs
length-new_stations h capacity [] = refl
length-new_stations h capacity (c ∷ specs) = ap suc (length-new_stations h capacity specs)

pub new_world_stands : (d : Direction) (rows : List Row) (specs : List DirSpec) (h capacity : ℕ) → 1 ≤ capacity
    → Rises 0 rows → StandAnew h specs → length specs ≤ 8
    → WorldStands (new_world specs h capacity (source_items d h rows))
new_world_stands d rows specs h capacity some rises st few =
    let items = source_items d h rows in
    let whole = source_stream (new_world specs h capacity items) in
    record {
      ended = ap (λ (f : Stream). f.end) (new_source specs h capacity items) ∙ items_end d h 0 rows no_items;
      line = new_line h capacity whole items specs some st
          (record { is = sym (new_source specs h capacity items); honest = source_honest d h rows rises });
      few = let same = length-new_stations h capacity specs in omega arith;
    }

pub new_run : (nest : NestParts) (d : Direction) (rows : List Row) (capacity : ℕ)
    → IsRunOf nest d rows (new_world (directions_of d nest) nest.horizon capacity (source_items d nest.horizon rows))
new_run nest d rows capacity = record {
  horizon = refl;
  arrivals = ap (λ (f : Stream). f.packets)
      (new_source (directions_of d nest) nest.horizon capacity (source_items d nest.horizon rows))
      ∙ source_packets d nest.horizon rows;
  specs = new_specs nest.horizon capacity (directions_of d nest);
}

-- the parts that a new world is made of
pub made_is : (d : Direction) (rows rows' : List Row) (specs : List DirSpec) (h h' capacity : ℕ) (items : List Item)
    (channel : ChannelParts) (stations : List Station) (collected : Stream)
    → h ≡ h' → rows' ≡ rows → items ≡ source_items d h rows' → channel ≡ new_channel capacity
    → stations ≡ new_stations h capacity specs → collected ≡ no_items
    → world h items (line channel stations collected) ≡ new_world specs h' capacity (source_items d h' rows)
made_is d rows rows' specs h h' capacity items channel stations collected horizon same sent empty made none =
    ap (λ (l : List Item). world h l (line channel stations collected))
    (sent ∙ ap (λ (r : List Row). source_items d h r) same)
    ∙ ap (λ (c : ChannelParts). world h (source_items d h rows) (line c stations collected)) empty
    ∙ ap (λ (l : List Station). world h (source_items d h rows) (line (new_channel capacity) l collected)) made
    ∙ ap (λ (f : Stream). world h (source_items d h rows)
    (line (new_channel capacity) (new_stations h capacity specs) f)) none
    ∙ ap (λ n. new_world specs n capacity (source_items d n rows)) horizon
