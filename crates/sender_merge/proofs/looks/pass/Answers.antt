use Rattle.std.proofs.Common.{◌∙◌, ◌+◌, ◌-◌, sym, ap, set}
use Rattle.sender_merge.specs.Inflows.{Inflow, head_of, with_passed}
use Rattle.sender_merge.specs.inside.Lefts.{left_of}
use Rattle.sender_merge.proofs.Stepping.{left_passed, passes, some_head}
use Rattle.sender_merge.proofs.looks.pass.Goals as goal

pub overflow_sub-incoming : goal.overflow_sub-incoming
overflow_sub-incoming c =
    (passes c.in-Packet-Some.head c.args.senders.now (sym c.requires.candidate ∙ c.in-Packet-Some.is-1)).some

pub bounds-senders-head : goal.bounds-senders-head
bounds-senders-head c =
    (passes c.in-Packet-Some.head c.args.senders.now (sym c.requires.candidate ∙ c.in-Packet-Some.is-1)).few

pub pass-requires : goal.pass-requires
pass-requires c =
    let p = passes c.in-Packet-Some.head c.args.senders.now (sym c.requires.candidate ∙ c.in-Packet-Some.is-1) in
    some_head _ c.in-Packet-Some.head.packet (ap head_of (p.same c.index-senders-head.result) ∙ p.head)

pub returns-in-Packet-Some-clause-left : goal.returns-in-Packet-Some-clause-left
returns-in-Packet-Some-clause-left c =
    let ss = c.args.senders.now in
    let head = c.in-Packet-Some.head in
    let is = sym c.requires.candidate ∙ c.in-Packet-Some.is-1 in
    let p = passes head ss is in
    ap (λ (s : Inflow). 1 + left_of (set ss (head.sender - 1) s))
    (c.pass.ensures ∙ ap with_passed (p.same c.index-senders-head.result)) ∙ left_passed head ss is
