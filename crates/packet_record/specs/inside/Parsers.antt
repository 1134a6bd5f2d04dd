-- For proofs alone: what contracts see of a schedule that is read piece by piece.
use Rattle.std.specs.Prelude.{◌≡◌, ◌≤◌, length, true}
use Rattle.text_base.specs.Lines.{is_one_line}
use Rattle.packet_record.specs.declared.parser.TheConstants.{MOST_KEPT}
use Rattle.packet_record.specs.declared.parser.ScheduleParser.TheInside.{Inside}

-- What is kept is of one line, and no more than is enough of it.
pub record KeepsOneLine (t : Inside) : Type 0 where
  pub one_line : is_one_line t.kept ≡ true
  pub few : length t.kept ≤ MOST_KEPT
