-- For proofs alone: an end after one more item.
use Rattle.std.specs.Prelude.{[], ◌∷◌, ◌++◌}
use Rattle.packet_record.specs.declared.item.Item.{Item}
use Rattle.packet_record.specs.Streams.{after, MayFollow, IsUpTo}
use Rattle.mark_channel.specs.Ends.{End}

-- The end after the item `x` went through.
abbrev pub with_item : End → Item → End
with_item e x = record {
  flow = after e.flow x;
  items = e.items ++ x ∷ [];
  horizon = e.horizon;
  channel = e.channel;
}

-- The item may go through the end next, and is within the horizon.
abbrev pub MayPass : End → Item → Type 0
MayPass e x = MayFollow e.flow x × IsUpTo e.horizon x
