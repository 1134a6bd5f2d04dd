use Rattle.std.proofs.Common.{List, subst}
use Rattle.packet_record.specs.declared.packet.Row.{Row}
use Rattle.packet_record.specs.Rows.{AreApart}
use Rattle.sender_merge.specs.Merges.{merge_rows, rows_from}
use Rattle.sender_merge.proofs.Numbering.{merged_apart}
use Rattle.sender_merge.proofs.Rowing.{merged_rise}
use Rattle.sender_merge.proofs.senders.SendersFeeds.rows.Goals as goal

pub returns-clause-apart : goal.returns-clause-apart
returns-clause-apart c = subst (λ (l : List (List Row)). AreApart (merge_rows l)) c.self.view_is
    (merged_apart c.self.inside.schedules.items c.self.invariant.few c.self.invariant.schedules)

pub returns-clause-rises : goal.returns-clause-rises
returns-clause-rises c = merged_rise (rows_from 1 c.args.self.now)
