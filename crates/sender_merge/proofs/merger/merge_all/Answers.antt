use Rattle.std.proofs.Common.{◌∙◌, ap, arith, length, sym, subst, refl, rules}
use Rattle.packet_record.specs.declared.item.Item.{Item}
use Rattle.packet_record.specs.Streams.{Stream, after}
use Rattle.sender_merge.specs.Inflows.{new_merging}
use Rattle.sender_merge.specs.declared.step.MergeStep.{MergeStep}
use Rattle.sender_merge.specs.Steps.{after_step}
use Rattle.sender_merge.specs.inside.Thins.{IsThin, Keeps}
use Rattle.sender_merge.proofs.Adding.{stands-new}
use Rattle.sender_merge.proofs.Inletting.{empty-added, empty-within, same-all}
use Rattle.sender_merge.proofs.Inletting.{same-on}
use Rattle.sender_merge.proofs.Thinning.{end-runs, keeps-long, need-open, received-runs, runs-keeps, runs-send}
use Rattle.sender_merge.proofs.Thinning.{sent-runs}
use Rattle.sender_merge.proofs.merger.merge_all.Goals as goal

pub returns-in_err-core-clause-same : goal.returns-in_err-core-clause-same
returns-in_err-core-clause-same g c = (same-all c.args.inlets.now, (refl, refl))

pub loop-init : goal.loop-init
loop-init g c =
    let inlets = c.args.inlets.now in
    record {
      whole = new_merging (length inlets);
      stands = stands-new (length inlets);
      thin = c.in_ok-core.ensures;
      goes = (
        ap (λ (f : Stream). f.end) c.requires.none,
        sym c.requires.none,
        empty-added c.args.to.now.horizon inlets c.requires.empty,
        empty-within c.args.to.now.horizon inlets c.requires.empty,
        same-all inlets,
        (refl, refl),
      );
    }

pub send_next-requires-clause-few : goal.send_next-requires-clause-few
send_next-requires-clause-few g c =
    let r = c.loop.invariant in
    let long = keeps-long r.whole c.loop.inlets c.loop.core (runs-keeps _ _ _ _ _ r) in omega arith

pub send_next-requires-clause-going : goal.send_next-requires-clause-going
send_next-requires-clause-going g c =
    let r = c.loop.invariant in (r.whole, runs-send _ _ _ _ _ r)

pub receive_one-requires-clause-going : goal.receive_one-requires-clause-going
receive_one-requires-clause-going g c =
    let r = c.loop.invariant in
    let is = c.send_next.ensures.step r.whole r.thin in
    let thin : IsThin r.whole c.send_next.new.core =
    subst (λ (s : MergeStep). IsThin (after_step r.whole s) c.send_next.new.core) c.in-Need.is
    (c.send_next.ensures.after r.whole r.thin) in (
      r.whole,
      record { stands = r.stands; added = r.goes.2; thin = thin },
      need-open r.whole c.send_next.result _ is c.in-Need.is,
    )

pub loop-preserved-in-Continue-branch-2 : goal.loop-preserved-in-Continue-branch-2
loop-preserved-in-Continue-branch-2 g c =
    let r = c.loop.invariant in
    let thin : IsThin r.whole c.send_next.new.core =
    subst (λ (s : MergeStep). IsThin (after_step r.whole s) c.send_next.new.core) c.in-Need.is
    (c.send_next.ensures.after r.whole r.thin) in
    let alike = c.send_next.ensures.alike r.whole (sym r.goes.1)
    ∙ ap (λ (s : MergeStep). (after_step r.whole s).given) c.in-Need.is in
    let keeps : Keeps r.whole c.loop.inlets c.send_next.new.core =
    record { stands = r.stands; added = r.goes.2; thin = thin } in
    received-runs c.args.inlets.now c.loop.inlets c.receive_one.new.inlets c.loop.core c.receive_one.new.core
    c.args.to.now c.loop.to c.send_next.new.to r (c.in_ok-receive_one-in-Need.ensures.added r.whole keeps) alike
    c.send_next.ensures.same (c.receive_one.ensures.within c.loop.to.horizon r.goes.3) c.receive_one.ensures.same

pub loop-preserved-in-Item-Packet : goal.loop-preserved-in-Item-Packet
loop-preserved-in-Item-Packet g c =
    let r = c.loop.invariant in
    sent-runs c.args.inlets.now c.loop.inlets c.loop.core c.send_next.new.core c.args.to.now c.loop.to
    c.send_next.new.to c.send_next.result c.in-Item-Packet.field-0 r (c.send_next.ensures.step r.whole r.thin)
    (c.send_next.ensures.after r.whole r.thin) c.in-Item-Packet.is
    (ap (λ (x : Item). (after r.whole.given x).end) c.in-Item-Packet.field-0-is)
    (c.send_next.ensures.alike r.whole (sym r.goes.1)) c.send_next.ensures.same

pub loop-preserved : goal.loop-preserved
loop-preserved g c =
    let r = c.loop.invariant in
    sent-runs c.args.inlets.now c.loop.inlets c.loop.core c.send_next.new.core c.args.to.now c.loop.to
    c.send_next.new.to c.send_next.result c.in-Item-Mark.field-0 r (c.send_next.ensures.step r.whole r.thin)
    (c.send_next.ensures.after r.whole r.thin) c.in-Item-Mark.is
    (ap (λ (x : Item). (after r.whole.given x).end) c.in-Item-Mark.field-0-is)
    (c.send_next.ensures.alike r.whole (sym r.goes.1)) c.send_next.ensures.same

pub returns-in-Item-End-clause-merged : goal.returns-in-Item-End-clause-merged
returns-in-Item-End-clause-merged g c =
    let r = c.loop.invariant in
    end-runs c.args.inlets.now c.loop.inlets c.loop.core c.args.to.now c.loop.to c.send_next.new.to.flow
    c.send_next.result c.in-Item-End.field-0 r (c.send_next.ensures.step r.whole r.thin) c.in-Item-End.is
    c.in-Item-End.field-0-is (c.send_next.ensures.alike r.whole (sym r.goes.1))

pub returns-in_err-receive_one-in-Need-clause-same : goal.returns-in_err-receive_one-in-Need-clause-same
returns-in_err-receive_one-in-Need-clause-same g c =
    let i = c.loop.invariant.goes in (
      same-on c.args.inlets.now c.loop.inlets c.receive_one.new.inlets i.4 c.receive_one.ensures.same,
      (c.send_next.ensures.same.0 ∙ i.5.0, c.send_next.ensures.same.1 ∙ i.5.1),
    )

pub returns-in-Item-Broken-clause-merged : goal.returns-in-Item-Broken-clause-merged
returns-in-Item-Broken-clause-merged g c = search rules
