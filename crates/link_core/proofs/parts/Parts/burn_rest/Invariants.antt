use Rattle.link_core.proofs.parts.Parts.burn_rest.Given as goal

abbrev pub ghost-burn_some : goal.ghost-burn_some
ghost-burn_some g a = g.gone
