use Rattle.link_core.specs.inside.Sound.{nothing}
use Rattle.link_core.proofs.parts.Parts.arrive.Given as goal

abbrev pub ghost-reserve : goal.ghost-reserve
ghost-reserve a = nothing

abbrev pub ghost-burn_to : goal.ghost-burn_to
ghost-burn_to a = nothing

abbrev pub ghost-enter : goal.ghost-enter
ghost-enter a = nothing
