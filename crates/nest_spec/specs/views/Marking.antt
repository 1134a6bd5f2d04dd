-- A marking as contracts see it.
use Rattle.nest_spec.specs.Marks.{Marks, marks}
use Rattle.nest_spec.specs.views.MarkedRows.{rows_in}
use Rattle.nest_spec.specs.declared.marking.Marking.TheInside.{Inside}

-- The rows, and their fates.
abbrev pub marking_view : Inside → Marks
marking_view m = marks (rows_in m.rows) m.list.items
