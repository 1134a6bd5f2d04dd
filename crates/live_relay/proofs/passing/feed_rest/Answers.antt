use Rattle.std.proofs.Common.{◌∙◌, inl, ap}
use Rattle.std.proofs.lemmas.Result.{on_ok_weaker}
use Rattle.packet_record.specs.Streams.{Stream}
use Rattle.live_relay.proofs.Carrying.{catches, has_caught, mark_may}
use Rattle.live_relay.proofs.passing.feed_rest.Goals as goal

pub feed_packets-requires-clause-follow : goal.feed_packets-requires-clause-follow
feed_packets-requires-clause-follow c =
    (catches c.args.state.now c.args.before.now c.packets.result.now c.packets-fed.result.now c.requires.grows
    c.requires.horizon c.stands.ensures.stands
    (c.packets.ensures ∙ ap (λ (f : Stream). f.packets) c.taken-taken.ensures)
    (c.packets-fed.ensures ∙ ap (λ (f : Stream). f.packets) c.fed.ensures)).follow

pub feed-requires-clause-follows : goal.feed-requires-clause-follows
feed-requires-clause-follows c =
    let may = catches c.args.state.now c.args.before.now c.packets.result.now c.packets-fed.result.now c.requires.grows
    c.requires.horizon c.stands.ensures.stands
    (c.packets.ensures ∙ ap (λ (f : Stream). f.packets) c.taken-taken.ensures)
    (c.packets-fed.ensures ∙ ap (λ (f : Stream). f.packets) c.fed.ensures) in
    inl (mark_may c.args.state.now c.args.before.now c.feed_packets.new.state _ c.bound.result may
    c.in_ok-feed_packets.ensures.fed (c.bound.ensures ∙ ap (λ (f : Stream). f.bound) c.taken-taken.ensures))

pub returns : goal.returns
returns c =
    let may = catches c.args.state.now c.args.before.now c.packets.result.now c.packets-fed.result.now c.requires.grows
    c.requires.horizon c.stands.ensures.stands
    (c.packets.ensures ∙ ap (λ (f : Stream). f.packets) c.taken-taken.ensures)
    (c.packets-fed.ensures ∙ ap (λ (f : Stream). f.packets) c.fed.ensures) in
    on_ok_weaker c.feed.result
    (λ e. has_caught c.args.state.now c.args.before.now c.feed_packets.new.state c.feed.new.self _ c.bound.result may
    c.requires.whole c.in_ok-feed_packets.ensures.same c.in_ok-feed_packets.ensures.taken
    c.in_ok-feed_packets.ensures.fed (c.bound.ensures ∙ ap (λ (f : Stream). f.bound) c.taken-taken.ensures) e)
    c.feed.ensures.ok
