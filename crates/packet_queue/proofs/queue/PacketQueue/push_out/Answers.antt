use Rattle.std.proofs.Common.{◌≡◌, ◌+◌, ◌++◌, ◌∷◌, [], length, ap, ◌∙◌, arith, rules}
use Rattle.std.proofs.lemmas.Grind.{common_steps}
use Rattle.packet_queue.specs.View.{Queue}
use Rattle.packet_queue.proofs.Sizes.{queue_steps, length_push}
use Rattle.packet_queue.proofs.Limits.{kept_fitting}
use Rattle.packet_queue.proofs.queue.PacketQueue.push_out.Goals as goal

pub invariant_of-self : goal.invariant_of-self
invariant_of-self c =
    let spare_is = ap (λ (q : Queue). q.spare) c.self.view_is in
    let longer : length c.append.new.self.packets.items ≡ length c.self.inside.waiting.packets.items + 1 =
    ap length c.append.ensures.packets ∙ length_push c.self.inside.waiting.packets.items c.args.t in (
      kept_fitting c.self.inside.spec c.append.new.self.packets.items c.shed.new.self.packets.items
          c.shed.ensures.packets,
      grind (arith, common_steps, queue_steps),
      grind (arith, common_steps, queue_steps),
      grind (arith, common_steps, queue_steps),
    )
