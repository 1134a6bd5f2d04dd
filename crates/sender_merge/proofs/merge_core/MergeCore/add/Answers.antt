use Rattle.std.proofs.Common.{◌≡◌, ◌∙◌, ◌≤◌, ◌<◌, ◌-◌, ◌+◌, sym, ap, subst, arith, length, List, set, get_or}
use Rattle.std.proofs.Math.ListN.{length-set}
use Rattle.packet_record.specs.Streams.{Stream, MayFollow}
use Rattle.sender_merge.specs.Inflows.{Inflow, Merging, fresh, merging, sender_at, with_item}
use Rattle.sender_merge.specs.inside.Lefts.{left_of, packets_in}
use Rattle.sender_merge.specs.inside.Standing.{Stands}
use Rattle.sender_merge.proofs.Adding.{added_at, front, left_added, stands-added}
use Rattle.sender_merge.proofs.Stepping.{get_or_any}
use Rattle.sender_merge.proofs.merge_core.MergeCore.add.Goals as goal

pub invariant_of-self-2 : goal.invariant_of-self-2
invariant_of-self-2 c =
    let ss = c.self.inside.senders.items in
    let i = c.args.sender - 1 in
    let m : Merging = merging ss c.self.inside.given.stream in
    let few : c.args.sender ≤ length ss = subst (λ (n : Merging). c.args.sender ≤ length n.senders) (sym c.self.view_is)
    c.requires.few in
    let lt : i < length ss = (let some = c.requires.some in omega arith) in
    let old : c.index_mut-incoming.result.now ≡ get_or ss i fresh = c.index_mut-incoming.ensures.value
    ∙ get_or_any ss i c.index_mut-incoming.result.now fresh lt in
    let one : c.add.new.self ≡ with_item (get_or ss i fresh) c.args.item = c.in_ok-add.ensures.ok
    ∙ ap (λ (s : Inflow). with_item s c.args.item) old in
    let new : set ss i c.add.new.self ≡ added_at ss i c.args.item = ap (λ (s : Inflow). set ss i s) one in
    let long : length (set ss i c.add.new.self) ≡ length ss = length-set ss i c.add.new.self in
    let left : left_of (set ss i c.add.new.self) ≡ left_of ss + packets_in c.args.item = ap left_of new
    ∙ left_added i ss c.args.item lt c.self.invariant.stands.sound in
    let may : MayFollow (sender_at ss c.args.sender).flow c.args.item =
    subst (λ (n : Merging). MayFollow (sender_at n.senders c.args.sender).flow c.args.item) (sym c.self.view_is)
    c.requires.follows in
    record {
      some = (let some = c.self.invariant.some in omega arith);
      few = (let few = c.self.invariant.few in omega arith);
      waiting = (let w = c.in_ok-waiting.ensures.ok in let was = c.self.invariant.waiting in omega arith);
      room = (let spare = c.in_ok-reserve.ensures.ok in omega arith);
      stands = subst (λ (l : List Inflow). Stands (merging l c.reserve.new.self.stream)) (sym new)
          (subst (λ (f : Stream). Stands (merging (added_at ss i c.args.item) f)) (sym c.reserve.ensures.same)
          (stands-added m c.args.sender c.args.item c.requires.some few may c.self.invariant.stands));
    }

pub returns-clause-front : goal.returns-clause-front
returns-clause-front c =
    let ss = c.self.inside.senders.items in
    let i = c.args.sender - 1 in
    let m : Merging = merging ss c.self.inside.given.stream in
    let few : c.args.sender ≤ length ss = subst (λ (n : Merging). c.args.sender ≤ length n.senders) (sym c.self.view_is)
    c.requires.few in
    let lt : i < length ss = (let some = c.requires.some in omega arith) in
    let old : c.index_mut-incoming.result.now ≡ get_or ss i fresh = c.index_mut-incoming.ensures.value
    ∙ get_or_any ss i c.index_mut-incoming.result.now fresh lt in
    let one : c.add.new.self ≡ with_item (get_or ss i fresh) c.args.item = c.in_ok-add.ensures.ok
    ∙ ap (λ (s : Inflow). with_item s c.args.item) old in
    let new : set ss i c.add.new.self ≡ added_at ss i c.args.item = ap (λ (s : Inflow). set ss i s) one in
    let may : MayFollow (sender_at ss c.args.sender).flow c.args.item =
    subst (λ (n : Merging). MayFollow (sender_at n.senders c.args.sender).flow c.args.item) (sym c.self.view_is)
    c.requires.follows in
    front _ (subst (λ (l : List Inflow). Stands (merging l c.reserve.new.self.stream)) (sym new)
    (subst (λ (f : Stream). Stands (merging (added_at ss i c.args.item) f)) (sym c.reserve.ensures.same)
    (stands-added m c.args.sender c.args.item c.requires.some few may c.self.invariant.stands)))
