use Rattle.std.proofs.Common.{rules}
use Rattle.shell_workers.proofs.draining.drain.Goals as goal

pub send-requires-clause-follows : goal.send-requires-clause-follows
send-requires-clause-follows g c = search rules

pub returns-in_default-clause-over : goal.returns-in_default-clause-over
returns-in_default-clause-over g c = search rules

pub returns-in-End-clause-over : goal.returns-in-End-clause-over
returns-in-End-clause-over g c = search rules

pub returns-in-End-clause-ended : goal.returns-in-End-clause-ended
returns-in-End-clause-ended g c = search rules

pub returns-in-Broken-clause-over : goal.returns-in-Broken-clause-over
returns-in-Broken-clause-over g c = search rules

pub loop-preserved-in-Packet : goal.loop-preserved-in-Packet
loop-preserved-in-Packet g c = search rules
