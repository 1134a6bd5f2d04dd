use Rattle.std.proofs.Common.{◌≡◌, ◌+◌, ◌≤◌, ◌++◌, length, map, vec_len, vec_capacity}
use Rattle.std.specs.VecDeque.{deque_capacity}
use Rattle.packet_record.specs.Packets.{bytes, moved_to}
use Rattle.packet_queue.specs.Queues.{fitting, excess}
use Rattle.packet_queue.proofs.waiting.Waiting.shed.Given as goal

abbrev pub invariant-heads : goal.invariant-heads
invariant-heads l = record {
  head : fitting l.spec l.self.packets.items ≡ fitting l.spec l.fn.self.packets.items;
  capacity : deque_capacity l.self.packets ≡ deque_capacity l.fn.self.packets;
  gone : l.gone.items ++ map (moved_to l.moment) (excess l.spec l.self.packets.items) ≡ l.fn.gone.items
      ++ map (moved_to l.moment) (excess l.spec l.fn.self.packets.items);
  room : length l.self.packets.items + vec_len l.gone ≡ length l.fn.self.packets.items + vec_len l.fn.gone;
  keeps : vec_capacity l.fn.gone ≤ vec_capacity l.gone;
  number : l.dropped.packets + length (excess l.spec l.self.packets.items) ≡ length (excess l.spec l.fn.self.packets.items);
  shed : l.dropped.bytes + bytes (excess l.spec l.self.packets.items) ≡ bytes (excess l.spec l.fn.self.packets.items);
  count : l.dropped.packets + length l.self.packets.items ≡ length l.fn.self.packets.items;
  sum : l.dropped.bytes + l.self.size ≡ bytes l.fn.self.packets.items;
}

abbrev pub decreases-heads : goal.decreases-heads
decreases-heads l = length l.self.packets.items
