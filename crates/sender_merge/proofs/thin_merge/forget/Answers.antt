use Rattle.std.proofs.Common.{◌∙◌, sym}
use Rattle.sender_merge.proofs.Stepping.{passes}
use Rattle.sender_merge.proofs.thin_merge.forget.Goals as goal

pub overflow_sub-incoming : goal.overflow_sub-incoming
overflow_sub-incoming c =
    (passes c.in-Packet-Some.head c.args.senders.now (sym c.requires.candidate ∙ c.in-Packet-Some.is-1)).some

pub bounds-senders-head : goal.bounds-senders-head
bounds-senders-head c =
    (passes c.in-Packet-Some.head c.args.senders.now (sym c.requires.candidate ∙ c.in-Packet-Some.is-1)).few
