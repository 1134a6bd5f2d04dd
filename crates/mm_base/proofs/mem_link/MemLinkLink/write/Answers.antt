use Rattle.std.proofs.Common.{rules, arith}
use Rattle.std.proofs.lemmas.Grind.{common_steps}
use Rattle.mm_base.proofs.mem_link.MemLinkLink.write.Goals as goal

pub returns-clause-exact : goal.returns-clause-exact
returns-clause-exact c = search rules

pub returns-clause-told : goal.returns-clause-told
returns-clause-told c = grind (arith, common_steps)
