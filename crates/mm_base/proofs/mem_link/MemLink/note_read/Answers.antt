use Rattle.std.proofs.Common.{rules}
use Rattle.mm_base.proofs.mem_link.MemLink.note_read.Goals as goal

pub returns-clause-ok : goal.returns-clause-ok
returns-clause-ok c = search rules
