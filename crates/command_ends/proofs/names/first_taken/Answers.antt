use Rattle.std.proofs.Common.{sym, ◌∙◌}
use Rattle.command_ends.proofs.NameLemmas.{borrowed_free, borrowed_taken}
use Rattle.command_ends.proofs.names.first_taken.Goals as goal

pub returns-then-is_taken : goal.returns-then-is_taken
returns-then-is_taken c =
    sym (borrowed_taken (λ name. name.now) c.args.taken.now c.args.names.now c.loop-i.i _ c.loop-i-test.true
    c.loop-i.invariant (sym c.is_taken.ensures ∙ c.if-is_taken.true))

pub loop-i-preserved : goal.loop-i-preserved
loop-i-preserved c =
    borrowed_free (λ name. name.now) c.args.taken.now c.args.names.now c.loop-i.i _ c.loop-i-test.true
    c.loop-i.invariant (sym c.is_taken.ensures ∙ c.if-is_taken.false)
