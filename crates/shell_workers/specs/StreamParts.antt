-- What a source has read of a schedule's file, and what it has sent of its rows.
use Rattle.std.specs.Prelude.{◌≡◌, ◌≤◌, ℕ, List, Option, length}
use Rattle.mm_base.specs.Files.{Files, IfHeld, IsThere}
use Rattle.packet_record.specs.declared.item.FlowEnd.TheVariants.{Ended as IsOver}
use Rattle.packet_record.specs.declared.packet.Direction.{Direction}
use Rattle.packet_record.specs.declared.packet.Row.{Row}
use Rattle.packet_record.specs.PartsRead.{HasReadAll, PartRead}
use Rattle.packet_record.specs.Rows.{entering}
use Rattle.packet_record.specs.Sources.{source_items}
use Rattle.mark_channel.specs.Ends.{End}

-- the file `name` may be read and has `bytes`
pub record IsText (told : Option Files) (name : List ℕ) (bytes : List ℕ) : Type 0 where
  pub few : length bytes ≤ 67108864
  pub there : IsThere told name
  pub held : IfHeld told name (λ whole. bytes ≡ whole)

-- all bytes of the file were read as a schedule
pub record IsStreamed (told : Option Files) (name : List ℕ) (read : PartRead) : Type 0 where
  pub bytes : List ℕ
  pub text : IsText told name bytes
  pub all : HasReadAll bytes read

-- all that `rows` give in direction `d` was sent, and then the end
pub record AllSent (d : Direction) (horizon : ℕ) (rows : List Row) (to : End) : Type 0 where
  pub items : to.items ≡ source_items d horizon rows
  pub packets : to.flow.packets ≡ entering d horizon rows
  pub over : to.flow.end ≡ IsOver
