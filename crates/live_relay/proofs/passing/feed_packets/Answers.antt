use Rattle.live_relay.proofs.Carrying.{fed_one}
use Rattle.live_relay.proofs.passing.feed_packets.Goals as goal

pub loop-packet-preserved : goal.loop-packet-preserved
loop-packet-preserved c =
    let i = c.loop-packet.invariant in
    let one = fed_one c.args.state.now c.loop-packet.state c.feed.new.self c.args.packets.now c.loop-packet.packet-index
    c.packet-item.result c.requires.whole
    (record { same = i.same; taken = i.taken; follow = i.follow; fed = i.fed }) c.loop-packet-test.true
    c.packet-item.is c.in_ok-feed.ensures.ok in
    record { same = one.same; taken = one.taken; follow = one.follow; fed = one.fed }
