use Rattle.link_core.proofs.parts.Parts.burn_some.Given as goal

abbrev pub ghost-skip_to : goal.ghost-skip_to
ghost-skip_to g a = g.gone

abbrev pub ghost-burn_next : goal.ghost-burn_next
ghost-burn_next g a = g.gone
