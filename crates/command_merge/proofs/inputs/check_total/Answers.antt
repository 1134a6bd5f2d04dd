use Rattle.std.proofs.Common.{ap, ◌∙◌, arith}
use Rattle.command_ends.specs.declared.cause.Cause.TheVariants.{Refused}
use Rattle.command_ends.specs.declared.cause.Limit.{Limit}
use Rattle.command_ends.specs.declared.cause.Limit.TheVariants.{Packets}
use Rattle.command_ends.specs.declared.cause.Refusal.TheVariants as refusals
use Rattle.command_merge.proofs.ScheduleLemmas.{total_over, total_within}
use Rattle.command_merge.proofs.inputs.check_total.Goals as goal

pub returns-then-lines-clause-refused : goal.returns-then-lines-clause-refused
returns-then-lines-clause-refused c =
    total_over c.args.name.now c.args.lines c.limit.result c.if-lines.true
    (c.limit.ensures ∙ ap (λ text. Refused (refusals.Limit (Packets text))) c.in_ok-from_text.ensures)

pub returns-clause-refused : goal.returns-clause-refused
returns-clause-refused c = total_within c.args.name.now c.args.lines (omega (arith, c.if-lines.false))
