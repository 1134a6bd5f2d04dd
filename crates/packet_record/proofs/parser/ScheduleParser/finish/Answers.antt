use Rattle.std.proofs.Common.{rules}
use Rattle.packet_record.proofs.parser.ScheduleParser.finish.Goals as goal

pub returns-clause-found : goal.returns-clause-found
returns-clause-found c = search rules

pub returns-clause-exact : goal.returns-clause-exact
returns-clause-exact c = search rules
