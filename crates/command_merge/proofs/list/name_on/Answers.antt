use Rattle.std.proofs.Common.{rules}
use Rattle.command_merge.proofs.ListLemmas.{name_found, name_missing}
use Rattle.command_merge.proofs.list.name_on.Goals as goal

pub returns-clause-some : goal.returns-clause-some
returns-clause-some c =
    name_found (λ name. name.now) _ c.args.line.now c.from_utf8.result c.ok.result c.ok.ensures.value (search rules)
    c.from_utf8.ensures.cases

pub returns-clause-none : goal.returns-clause-none
returns-clause-none c =
    name_missing _ _ c.args.line.now c.from_utf8.result c.ok.result c.ok.ensures.value c.from_utf8.ensures.cases

pub returns-then-is_empty-clause-some : goal.returns-then-is_empty-clause-some
returns-then-is_empty-clause-some c = search rules
