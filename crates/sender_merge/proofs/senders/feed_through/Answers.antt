use Rattle.std.proofs.Common.{◌∙◌, ℕ, subst, sym}
use Rattle.sender_merge.specs.inside.Inlets.{AllEmpty}
use Rattle.sender_merge.proofs.Gating.{fresh_parts, still_ends}
use Rattle.sender_merge.proofs.Rowing.{fed_down, fed_up}
use Rattle.sender_merge.proofs.senders.feed_through.Goals as goal

pub feed_gates-end-requires-clause-long : goal.feed_gates-end-requires-clause-long
feed_gates-end-requires-clause-long g c = λ _ _.
    let old = c.args.gates in
    let parts = fresh_parts c.args.horizon old.outlets.items old.ups.items old.downs.items c.requires.fresh in
    (c.requires.long, parts.ups_long ∙ c.requires.long, parts.downs_long ∙ c.requires.long)

pub feed_gates-end-requires-clause-empty : goal.feed_gates-end-requires-clause-empty
feed_gates-end-requires-clause-empty g c = λ _ _.
    let old = c.args.gates in
    let parts = fresh_parts c.args.horizon old.outlets.items old.ups.items old.downs.items c.requires.fresh in (
      parts.unsent,
      subst (λ (h : ℕ). AllEmpty h old.ups.items) (sym c.requires.within.0) parts.ups,
      subst (λ (h : ℕ). AllEmpty h old.downs.items) (sym c.requires.within.1) parts.downs,
    )

pub settle-requires-clause-ends : goal.settle-requires-clause-ends
settle-requires-clause-ends g c =
    let old = c.args.gates in
    let new = c.feed_gates-end.new.gates in
    let parts = fresh_parts c.args.horizon old.outlets.items old.ups.items old.downs.items c.requires.fresh in
    still_ends old.outlets.items new.outlets.items old.ups.items new.ups.items old.downs.items new.downs.items
    parts.ends c.feed_gates-end.ensures.same_gates.0 c.feed_gates-end.ensures.same_gates.1
    c.feed_gates-end.ensures.same_gates.2

pub returns-clause-up : goal.returns-clause-up
returns-clause-up g c =
    let new = c.feed_gates-end.new.gates in
    fed_up c.args.horizon c.feed_gates-end.result c.args.schedules.now new.outlets.items new.ups.items new.downs.items
    c.feed_gates-end.new.up.flow c.feed_gates-end.new.down.flow c.feed_gates-end.ensures.merged c.settle.ensures
    c.feed_gates-end.ensures.sent

pub returns-clause-down : goal.returns-clause-down
returns-clause-down g c =
    let new = c.feed_gates-end.new.gates in
    fed_down c.args.horizon c.feed_gates-end.result c.args.schedules.now new.outlets.items new.ups.items new.downs.items
    c.feed_gates-end.new.up.flow c.feed_gates-end.new.down.flow c.feed_gates-end.ensures.merged c.settle.ensures
    c.feed_gates-end.ensures.sent
