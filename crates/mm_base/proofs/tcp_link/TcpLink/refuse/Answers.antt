use Rattle.std.proofs.Common.{rules}
use Rattle.mm_base.proofs.tcp_link.TcpLink.refuse.Goals as goal

pub returns-clause-failed : goal.returns-clause-failed
returns-clause-failed c = search rules
