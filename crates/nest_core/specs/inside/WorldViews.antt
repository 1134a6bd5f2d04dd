-- For proofs alone: what is true of every world.
use Rattle.nest_core.specs.inside.Standing.{WorldStands}
use Rattle.nest_core.specs.declared.world.World.TheInside.{Inside}
use Rattle.nest_core.specs.views.World.{world_view}

-- The streams of its parts fit each other.
abbrev pub IsWorld : Inside → Type 0
IsWorld w = WorldStands (world_view w)
