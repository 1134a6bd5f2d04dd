use Rattle.link_core.specs.inside.Sound.{nothing}
use Rattle.link_core.proofs.direction.LinkCore.burn.Given as goal

abbrev pub ghost-burn : goal.ghost-burn
ghost-burn a = nothing
