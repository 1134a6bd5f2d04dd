use Rattle.std.proofs.Common.{◌≡◌, ◌≤◌, ◌+◌, ◌∙◌, ◌++◌, ◌∷◌, [], List, ℕ, Option, Some, ap, sym, length, arith, rules}
use Rattle.packet_record.specs.declared.packet.Row.{Row}
use Rattle.live_relay.specs.declared.side.Side.{Side}
use Rattle.live_relay.specs.Stamped.{rows_from, stamped_at}
use Rattle.live_relay.specs.Wires.{datagram_in}
use Rattle.live_relay.proofs.Stamping.{row_is}
use Rattle.live_relay.proofs.stamps.Stamps.take_in.Goals as goal

pub returns-clause-row : goal.returns-clause-row
returns-clause-row c =
    let within : c.in-Some.size ≤ length c.args.buf.now = search rules in
    let some = c.in-Some-packet_after.ensures.some in
    let long = c.len.ensures in
    let id : c.in-Some-packet_after.packet.id ≡ length c.args.self.now.rows.items + 1 = omega arith in
    let is : c.args.got ≡ Some (c.in-Some.side, c.in-Some.size) = first_of (cc, search rules) in
    row_is c.args.moment (length c.args.self.now.rows.items + 1) c.in-Some.side c.args.buf.now c.in-Some.size
    c.in-Some-packet_after.packet c.direction.result within id some.1 c.direction.ensures
    ∙ ap (λ (o : Option (Side × ℕ)). rows_from (length c.args.self.now.rows.items + 1)
    (stamped_at c.args.moment (datagram_in c.args.buf.now o))) (sym is)

pub returns-clause-rows : goal.returns-clause-rows
returns-clause-rows c = c.in_ok-push.ensures.items
    ∙ ap (λ (l : List Row). l ++ record {
      direction = c.direction.result;
      timed = record { moment = c.args.moment; packet = c.in-Some-packet_after.packet };
    } ∷ []) c.in_ok-keep.ensures.same.0
    ∙ ap (λ (l : List Row). c.args.self.now.rows.items ++ l) (returns-clause-row c)

pub returns-in_default-packet_after-clause-refused : goal.returns-in_default-packet_after-clause-refused
returns-in_default-packet_after-clause-refused c = search rules
