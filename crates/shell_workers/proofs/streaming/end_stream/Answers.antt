use Rattle.packet_record.specs.declared.packet.Direction.TheVariants.{Up, Down}
use Rattle.shell_workers.proofs.Streamed.{end_sent, pieces_rise, pieces_sent}
use Rattle.shell_workers.proofs.streaming.end_stream.Goals as goal

pub send_rows-requires-clause-rises : goal.send_rows-requires-clause-rises
send_rows-requires-clause-rises g c =
    let now = c.rows-rows.ensures in
    pieces_rise c.args.horizon c.args.sent _ _ _ _ _ c.rows-done.ensures.rows now.rows c.requires.sent
    c.end.ensures.grows now.schedule

pub returns-else-is_refused-clause-sent : goal.returns-else-is_refused-clause-sent
returns-else-is_refused-clause-sent g c = λ none.
    let h = c.args.horizon in
    let new = c.end.new.self.gathered.rows in
    let over = c.end_both.ensures in
    let sent = pieces_sent h c.args.sent c.send_rows.result _ _ _ _ _ _ c.rows-done.ensures.rows
    c.rows-rows.ensures.rows c.end.ensures.grows c.requires.sent c.send_rows.ensures.sent in (
      end_sent Up h _ new _ c.end_both.new.heads.up sent.0 over.items.0 over.packets.0 over.over.0,
      end_sent Down h _ new _ c.end_both.new.heads.down sent.1 over.items.1 over.packets.1 over.over.1,
    )
