use Rattle.link_core.proofs.parts.Parts.step.Given as goal

abbrev pub ghost-go_to : goal.ghost-go_to
ghost-go_to g a = g.gone

abbrev pub ghost-burn_rest : goal.ghost-burn_rest
ghost-burn_rest g a = g.gone
