-- A nest as contracts see it.
use Rattle.nest_spec.specs.Nests.{NestParts}
use Rattle.nest_spec.specs.declared.nest.Nest.TheInside.{Inside}

-- The shells, the seed and the horizon.
abbrev pub nest_view : Inside → NestParts
nest_view n = record { shells = n.shells.items; seed = n.seed; horizon = n.horizon }
