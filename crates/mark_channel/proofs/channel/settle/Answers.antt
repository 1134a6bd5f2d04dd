use Rattle.std.proofs.Common.{◌≡◌, List, ap, ◌∙◌, rules, subst}
use Rattle.packet_record.specs.declared.item.Item.{Item}
use Rattle.packet_record.specs.Streams.{AllFollow}
use Rattle.mark_channel.specs.inside.Carrying.{carried, carrying_all}
use Rattle.mark_channel.specs.Ends.{End}
use Rattle.mark_channel.specs.inside.Rules.{Settles, settling}
use Rattle.mark_channel.specs.Carried.{Carried}
use Rattle.mark_channel.specs.declared.rule.View.{View}
use Rattle.mark_channel.proofs.Keeps.{merges}
use Rattle.mark_channel.proofs.Streaming.{begins, items_begin, whole}
use Rattle.mark_channel.proofs.channel.settle.Goals as goal

pub absorb-requires-clause-rule : goal.absorb-requires-clause-rule
absorb-requires-clause-rule c = merges _ _ _ _ (search rules) (search rules)

by_end : End → Carried
by_end e = carried e.flow e.items

-- what was sent is what was received and what the channel held at the end
told : (c : goal.After-drop-sender-inside) → (items : List Item)
    × (by_end c.args.sender ≡ carrying_all (by_end c.args.receiver) items)
    × AllFollow c.args.sender.horizon c.args.receiver.flow items
unfolding by_end
told c =
    let r = c.learn_as.ensures.rule in
    let is : Settles (settling c.args.sender.horizon (by_end c.args.sender) (by_end c.args.receiver)) r.0 =
    subst (λ (v : View). Settles v r.0)
    (c.absorb.ensures.rule ∙ (λ k. settling (c.sender.view_is k).horizon (by_end (c.sender.view_is k))
    (by_end (c.receiver.view_is k)))) r.1 in
    (r.0, is.0, is.1)

pub returns-clause-prefix : goal.returns-clause-prefix
unfolding by_end
returns-clause-prefix c = let t = told c in begins _ _ _ t.0 t.1 t.2

pub returns-clause-items : goal.returns-clause-items
unfolding by_end
returns-clause-items c = let t = told c in items_begin _ _ t.0 t.1

pub returns-clause-whole : goal.returns-clause-whole
unfolding by_end
returns-clause-whole c over =
    let t = told c in
    let same = whole _ _ _ t.0 t.1 t.2 over in
    (ap (λ (x : Carried). x.flow) same, ap (λ (x : Carried). x.items) same)
