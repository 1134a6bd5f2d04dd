-- The two worlds of a run as contracts see them.
use Rattle.nest_core.specs.Orders.{WorldPair, pair}
use Rattle.nest_core.specs.declared.order.Worlds.TheInside.{Inside}

-- Both worlds.
abbrev pub worlds_view : Inside → WorldPair
worlds_view w = pair w.up w.down
