use Rattle.link_core.specs.inside.Sound.{nothing}
use Rattle.link_core.proofs.whole.played.Given as goal

abbrev pub ghost-finish : goal.ghost-finish
ghost-finish a = nothing
