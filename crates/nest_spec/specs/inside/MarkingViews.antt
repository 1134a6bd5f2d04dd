-- For proofs alone: what is true of every marking.
use Rattle.std.specs.Prelude.{◌≡◌, length}
use Rattle.nest_spec.specs.views.MarkedRows.{rows_in}
use Rattle.nest_spec.specs.inside.Places.{ArePlaces}
use Rattle.nest_spec.specs.declared.marking.Marking.TheInside.{Inside}

-- Each number has a place, and each row a fate.
abbrev pub IsMarking : Inside → Type 0
IsMarking m = ArePlaces (rows_in m.rows) m.places × (length m.list.items ≡ length (rows_in m.rows))
