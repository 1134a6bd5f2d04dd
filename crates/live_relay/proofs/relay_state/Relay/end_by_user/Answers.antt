use Rattle.std.proofs.Common.{subst, sym}
use Rattle.packet_record.specs.Rows.{AreApart}
use Rattle.live_relay.proofs.Stamping.{apart}
use Rattle.live_relay.proofs.relay_state.Relay.end_by_user.Goals as goal

pub into_result-requires-clause-apart : goal.into_result-requires-clause-apart
into_result-requires-clause-apart c =
    let s = c.requires.stands in
    subst AreApart (sym s.current.stamps.rows) (apart s.turns)
