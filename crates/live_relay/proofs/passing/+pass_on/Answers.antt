use Rattle.std.proofs.Common.{rules}
use Rattle.live_relay.proofs.Carrying.{follow_on, for_follow, passed}
use Rattle.live_relay.proofs.passing.+pass_on.Goals as goal

pub pass_on-requires : goal.pass_on-requires
pass_on-requires t c =
    let h = c.args._horizon in
    let whole = c.args.before.now.taken in
    let first = c.in-Some.first.now in
    let rest = c.in-Some.rest.now in
    let follow = for_follow h whole c.args.states.now rest first c.in-Some.ensures.cases.0 c.requires.follow in
    let f = c.in_ok-feed_from.ensures in
    let k = c.in_ok-take_all.ensures in
    let p = passed h whole first c.feed_from.new.state c.take_all.new.state follow.1 f.same f.taken f.fed k.same k.fed
    k.grows k.waits c.stands.ensures.stands in
    (search rules, (p.rests.sound, follow_on h first.taken c.take_all.new.state.taken rest p.grows follow.3))
