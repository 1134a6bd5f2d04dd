use Rattle.link_core.proofs.parts.Parts.play_rest.Given as goal

abbrev pub ghost-finish : goal.ghost-finish
ghost-finish g a = g.gone

abbrev pub ghost-put_departed : goal.ghost-put_departed
ghost-put_departed g a = g.gone
