use Rattle.std.proofs.Common.{◌≡◌, ◌∙◌, sym, ap, subst, arith, length, List, replicate}
use Rattle.std.proofs.lemmas.List.{length-replicate}
use Rattle.packet_record.specs.Streams.{Stream}
use Rattle.sender_merge.specs.Inflows.{Inflow, fresh, merging}
use Rattle.sender_merge.specs.inside.Lefts.{left_of}
use Rattle.sender_merge.specs.inside.Standing.{Stands}
use Rattle.sender_merge.proofs.Adding.{front, left_new, stands-new}
use Rattle.sender_merge.proofs.merge_core.MergeCore.new.Goals as goal

pub invariant_of-result : goal.invariant_of-result
invariant_of-result c =
    let is = c.in_ok-list.ensures in
    let n = c.args.senders in
    let long : length c.in_ok-list.list.items ≡ n = ap (λ (l : List Inflow). length l) is ∙ length-replicate n fresh in
    record {
      some = (let a = c.requires.some in omega arith);
      few = (let a = c.requires.few in omega arith);
      waiting = sym (ap left_of is ∙ left_new n);
      room = omega arith;
      stands = subst (λ (l : List Inflow). Stands (merging l c.new.result.stream)) (sym is)
          (subst (λ (f : Stream). Stands (merging (replicate n fresh) f)) (sym c.new.ensures.0) (stands-new n));
    }

pub returns-clause-front : goal.returns-clause-front
returns-clause-front c =
    let is = c.in_ok-list.ensures in
    let n = c.args.senders in
    front _ (subst (λ (l : List Inflow). Stands (merging l c.new.result.stream)) (sym is)
    (subst (λ (f : Stream). Stands (merging (replicate n fresh) f)) (sym c.new.ensures.0) (stands-new n)))
