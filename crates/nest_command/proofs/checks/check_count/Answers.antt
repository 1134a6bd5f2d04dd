use Rattle.std.proofs.Common.{ℕ, ◌<◌, subst}
use Rattle.nest_command.proofs.NestLemmas.{count_over}
use Rattle.nest_command.proofs.checks.check_count.Goals as goal

pub returns-then-opportunities-gt-MOST_OPPORTUNITIES-clause-refused :
    goal.returns-then-opportunities-gt-MOST_OPPORTUNITIES-clause-refused
returns-then-opportunities-gt-MOST_OPPORTUNITIES-clause-refused c =
    count_over c.args.horizon c.args.words.now.shells c.args.traces.now c.limit.result
    (subst (λ (n : ℕ). 16000000 < n) c.opportunities.ensures c.if-opportunities-gt-MOST_OPPORTUNITIES.true)
    c.limit.ensures
