use Rattle.std.proofs.Common.{◌≡◌, ◌+◌, [], arith, rules}
use Rattle.link_core.proofs.IdleLemmas.{is_idle, is_idle_empty}
use Rattle.link_core.proofs.buffer.Buffer.carry.Goals as goal

pub returns-then-room-eq0-clause-idle : goal.returns-then-room-eq0-clause-idle
returns-then-room-eq0-clause-idle c =
    let e : c.args.self.now.used + c.args.room.now ≡ c.args.self.now.used = omega arith in
    is_idle c.args.self.now.packet c.args.self.now.queue.packets c.args.self.now.used
    (c.args.self.now.used + c.args.room.now) c.requires e

pub returns-in_default-clause-idle : goal.returns-in_default-clause-idle
returns-in_default-clause-idle c =
    let z : c.head.new.self.used ≡ 0 = search rules in
    let none : c.head.new.self.queue.packets ≡ [] = search rules in
    is_idle_empty c.head.new.self.packet c.head.new.self.queue.packets c.head.new.self.used
    (c.head.new.self.used + c.args.room.now) c.head.ensures.packet none z
