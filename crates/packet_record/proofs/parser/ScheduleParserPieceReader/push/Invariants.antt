use Rattle.std.proofs.Common.{◌++◌, ℕ, List, length}
use mathlib.Core.List.{IsPrefix}
use Rattle.packet_record.specs.PartsRead.{IsLeft}
use Rattle.packet_record.proofs.parser.ScheduleParserPieceReader.push.Given as goal

abbrev pub invariant-lines : goal.invariant-lines
invariant-lines l = ((whole rest : List ℕ) → IsLeft whole (l.fn.piece ++ rest) l.fn.self
    → IsLeft whole (l.rest ++ rest) l.self)
    × IsPrefix l.fn.self.gathered.rows l.self.gathered.rows

abbrev pub decreases-lines : goal.decreases-lines
decreases-lines l = length l.rest
