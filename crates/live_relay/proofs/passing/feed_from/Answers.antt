use Rattle.std.proofs.Common.{◌≡◌, ◌∙◌, inl, ap, sym, rules, refl}
use Rattle.std.proofs.lemmas.Result.{on_ok_weaker}
use Rattle.packet_record.specs.declared.item.Item.TheVariants.{End}
use Rattle.packet_record.specs.declared.item.FlowEnd.TheVariants.{Ended}
use Rattle.packet_record.specs.Streams.{Stream}
use Rattle.live_relay.proofs.Carrying.{fed_ended, fed_open, fed_same, fed_taken, open_unless, same_on}
use Rattle.live_relay.proofs.passing.feed_from.Goals as goal

pub feed-requires-clause-follows : goal.feed-requires-clause-follows
feed-requires-clause-follows c = inl (ap (λ (f : Stream). f.end) c.in_ok-feed_rest.ensures.fed, tt)

pub returns-then-eq-clause-same : goal.returns-then-eq-clause-same
returns-then-eq-clause-same c = on_ok_weaker c.feed.result
    (λ e. same_on c.args.state.now c.feed_rest.new.state c.feed.new.self c.in_ok-feed_rest.ensures.same
    (fed_same c.feed_rest.new.state c.feed.new.self End
    (c.in_ok-feed_rest.ensures.same.broken ∙ c.requires.whole.0) refl e))
    c.feed.ensures.ok

pub returns-then-eq-clause-taken : goal.returns-then-eq-clause-taken
returns-then-eq-clause-taken c = on_ok_weaker c.feed.result
    (λ e. fed_taken c.feed_rest.new.state c.feed.new.self End e ∙ c.in_ok-feed_rest.ensures.taken)
    c.feed.ensures.ok

pub returns-then-eq-clause-fed : goal.returns-then-eq-clause-fed
returns-then-eq-clause-fed c =
    let at : c.end.result ≡ Ended = search rules in
    let ended : c.args.before.now.taken.end ≡ Ended =
    sym (c.end.ensures ∙ ap (λ (f : Stream). f.end) c.taken.ensures) ∙ at in
    on_ok_weaker c.feed.result
    (λ e. fed_ended c.args.state.now c.args.before.now c.feed_rest.new.state c.feed.new.self c.in_ok-feed_rest.ensures
    c.requires.whole.0 e ended)
    c.feed.ensures.ok

pub returns-clause-same : goal.returns-clause-same
returns-clause-same c = c.in_ok-feed_rest.ensures.same

pub returns-clause-taken : goal.returns-clause-taken
returns-clause-taken c = c.in_ok-feed_rest.ensures.taken

pub returns-clause-fed : goal.returns-clause-fed
returns-clause-fed c =
    let end_is : c.end.result ≡ c.args.before.now.taken.end =
    c.end.ensures ∙ ap (λ (f : Stream). f.end) c.taken.ensures in
    fed_open c.args.state.now c.args.before.now c.feed_rest.new.state c.in_ok-feed_rest.ensures
    (open_unless c.args.before.now c.stands.ensures.stands c.requires.whole.1
    (λ e. let at : c.end.result ≡ Ended = end_is ∙ e in search rules))
