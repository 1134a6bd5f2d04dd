use Rattle.command_ends.proofs.explain.send_refusal.Goals as goal

pub returns-in-BadInput : goal.returns-in-BadInput
returns-in-BadInput g c = rw c.in-BadInput.is c.send_bad_input.ensures
