-- What is unsent as clauses see it: the items that the source has still to send.
use Rattle.std.specs.Prelude.{List, [], Bool, true, false, drop}
use Rattle.packet_record.specs.Sources.{items_from}
use Rattle.packet_record.specs.declared.item.Item.{Item}
use Rattle.nest_core.specs.declared.unsent.Unsent.TheInside.{Inside}

-- `items`, or none where the source is over.
abbrev pub unless_over : Bool → List Item → List Item
unless_over true items = []
unless_over false items = items

-- The items of the rows from its place on, and then the end.
abbrev pub unsent_view : Inside → List Item
unsent_view s = unless_over s.is_over (items_from s.direction s.horizon s.sent (drop s.place s.rows.now))
