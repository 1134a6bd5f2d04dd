-- For proofs alone: what goes through an end, item by item.
use Rattle.std.specs.Prelude.{List, [], ◌∷◌, ◌++◌}
use Rattle.packet_record.specs.declared.item.Item.{Item}
use Rattle.packet_record.specs.Streams.{Stream, no_items, after}
use Rattle.mark_channel.specs.Carried.{Carried}

-- The stream `flow` and its items.
abbrev pub carried : Stream → List Item → Carried
carried flow items = record { flow = flow; items = items }

-- No item went through.
abbrev pub nothing : Carried
nothing = carried no_items []

-- What went through after one more item.
abbrev pub carrying : Carried → Item → Carried
carrying c x = carried (after c.flow x) (c.items ++ x ∷ [])

-- What went through after all items of a list.
abbrev pub carrying_all : Carried → List Item → Carried
carrying_all c [] = c
carrying_all c (x ∷ xs) = carrying_all (carrying c x) xs
