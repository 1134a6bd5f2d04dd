use Rattle.std.proofs.Common.{◌≡◌, ◌<◌, length, get_or, set, ap, ◌∙◌, refl, arith}
use Rattle.packet_record.proofs.MomentsLemmas.{up_at}
use Rattle.delay_core.specs.Delays.{later}
use Rattle.delay_core.proofs.Fronts.{partly, partly_more, partly_all, read_partly}
use Rattle.delay_core.proofs.whole.let_out.Goals as goal

pub loop-t-init : goal.loop-t-init
unfolding partly
loop-t-init c = refl

pub departure-requires : goal.departure-requires
departure-requires c =
    let i = c.loop-t.t-index in
    let d = c.t-item.result in
    let before = c.args.packets.now in
    let lt : i < length before = omega arith in
    let here : get_or c.loop-t.packets i d ≡ get_or before i d = ap (λ l. get_or l i d) c.loop-t.invariant
    ∙ read_partly c.args.rule.delay before i d lt in
    let same = ap (λ t. t.moment) here in
    let early = up_at 3600000 before i d lt c.requires in
    omega arith

pub loop-t-preserved : goal.loop-t-preserved
loop-t-preserved c =
    let i = c.loop-t.t-index in
    let d = c.t-item.result in
    let before = c.args.packets.now in
    let lt : i < length before = omega arith in
    let here : get_or c.loop-t.packets i d ≡ get_or before i d = ap (λ l. get_or l i d) c.loop-t.invariant
    ∙ read_partly c.args.rule.delay before i d lt in
    ap (λ t. set c.loop-t.packets i t) c.departure.ensures
    ∙ ap (λ t. set c.loop-t.packets i (later c.args.rule.delay t)) here
    ∙ ap (λ l. set l i (later c.args.rule.delay (get_or before i d))) c.loop-t.invariant
    ∙ partly_more c.args.rule.delay before i d lt

pub returns : goal.returns
returns c = c.loop-t.invariant ∙ partly_all c.args.rule.delay c.args.packets.now c.loop-t.t-index (omega arith)
