-- A world as contracts see it.
use Rattle.nest_core.specs.Worlds.{WorldParts, line, world}
use Rattle.nest_core.specs.declared.world.World.TheInside.{Inside}

-- The horizon, the items that the source has left, the first channel, the stations, and the collected stream.
abbrev pub world_view : Inside → WorldParts
world_view w = world w.horizon w.unsent (line w.channel w.stations.items w.collected.stream)
