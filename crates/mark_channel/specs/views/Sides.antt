-- The two ends of a channel as contracts see them.
use Rattle.crossbeam_channel.specs.Claims.{Pass, view}
use Rattle.packet_record.specs.declared.item.Item.{Item}
use Rattle.mark_channel.specs.declared.rule.View.{View}
use Rattle.mark_channel.specs.declared.sender.Sender.TheInside.{Inside as SenderInside}
use Rattle.mark_channel.specs.declared.receiver.Receiver.TheInside.{Inside as ReceiverInside}
use Rattle.mark_channel.specs.Ends.{End, Channel}

-- The channel that a pass belongs to.
abbrev pub channel_of : Pass Item View → Channel
channel_of p = record { table = p.table_id; key = p.me.0.of }

-- What was sent.
abbrev pub sender_view : SenderInside → End
sender_view s = record {
  flow = (view s.pass).sent.flow;
  items = (view s.pass).sent.items;
  horizon = (view s.pass).horizon;
  channel = channel_of s.pass;
}

-- What was received.
abbrev pub receiver_view : ReceiverInside → End
receiver_view r = record {
  flow = (view r.pass).got.flow;
  items = (view r.pass).got.items;
  horizon = (view r.pass).horizon;
  channel = channel_of r.pass;
}
