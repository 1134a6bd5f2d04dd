use Rattle.std.proofs.Common.{rules}
use Rattle.sender_merge.proofs.outlet.Outlet.send_begun.Goals as goal

pub send_schedule-requires-clause-empty : goal.send_schedule-requires-clause-empty
send_schedule-requires-clause-empty g c = search rules

pub returns-then-is_err-clause-sent : goal.returns-then-is_err-clause-sent
returns-then-is_err-clause-sent g c = search rules
