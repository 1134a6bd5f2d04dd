use Rattle.shell_workers.proofs.Streamed.{pieces_rise, pieces_sent}
use Rattle.shell_workers.proofs.streaming.stream_piece.Goals as goal

pub send_rows-sent-requires-clause-rises : goal.send_rows-sent-requires-clause-rises
send_rows-sent-requires-clause-rises g c =
    let now = c.rows-rows.ensures in
    pieces_rise c.args.horizon c.args.sent _ _ _ _ _ c.rows-done.ensures.rows now.rows c.requires.sent
    c.in_ok-read.ensures.piece.grows now.schedule

pub returns-clause-sent : goal.returns-clause-sent
returns-clause-sent g c =
    pieces_sent c.args.horizon c.args.sent c.send_rows-sent.result _ _ _ _ _ _ c.rows-done.ensures.rows
    c.rows-rows.ensures.rows c.in_ok-read.ensures.piece.grows c.requires.sent c.send_rows-sent.ensures.sent
