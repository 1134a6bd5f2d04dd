use Rattle.std.proofs.Common.{◌∙◌, ap, sym, subst, List}
use Rattle.std.proofs.lemmas.Result.{on_ok_weaker}
use Rattle.packet_record.specs.Streams.{Stream, after}
use Rattle.shell_state.specs.States.{State}
use Rattle.live_relay.specs.Lines.{IsFront}
use Rattle.live_relay.specs.views.Meeting.{fed_of, last_taken, specs_of}
use Rattle.live_relay.proofs.Carrying.{fed_same, fed_taken, follow_on, for_first, past_item, specs-cons}
use Rattle.live_relay.proofs.Growing.{front_of}
use Rattle.live_relay.proofs.passing.advance.Goals as goal

pub take_all-requires-clause-whole : goal.take_all-requires-clause-whole
take_all-requires-clause-whole c =
    let f = for_first c.args._horizon c.args.states.now c.in-Some.rest.now c.in-Some.first.now
    c.in-Some.ensures.cases.0 c.requires.follow in
    (fed_same c.in-Some.first.now c.feed.new.self c.args.item f.1.unbroken c.requires.whole
    c.in_ok-feed.ensures.ok).broken ∙ f.1.unbroken

pub take_all-requires-clause-going : goal.take_all-requires-clause-going
take_all-requires-clause-going c =
    let f = for_first c.args._horizon c.args.states.now c.in-Some.rest.now c.in-Some.first.now
    c.in-Some.ensures.cases.0 c.requires.follow in
    ap (λ (f : Stream). f.end) (fed_taken c.in-Some.first.now c.feed.new.self c.args.item c.in_ok-feed.ensures.ok) ∙ f.2

pub pass_on-requires-clause-before : goal.pass_on-requires-clause-before
pass_on-requires-clause-before c =
    (past_item c.args._horizon c.args.states.now c.in-Some.rest.now c.in-Some.first.now c.args.item c.feed.new.self
    c.take_all.new.state c.in-Some.ensures.cases.0 c.requires.follow c.requires.whole c.in_ok-feed.ensures.ok
    c.in_ok-take_all.ensures.same c.in_ok-take_all.ensures.fed c.in_ok-take_all.ensures.grows
    c.in_ok-take_all.ensures.waits c.stands.ensures.stands).rests.sound

pub pass_on-requires-clause-follow : goal.pass_on-requires-clause-follow
pass_on-requires-clause-follow c =
    let f = for_first c.args._horizon c.args.states.now c.in-Some.rest.now c.in-Some.first.now
    c.in-Some.ensures.cases.0 c.requires.follow in
    follow_on c.args._horizon c.in-Some.first.now.taken c.take_all.new.state.taken c.in-Some.rest.now
    (past_item c.args._horizon c.args.states.now c.in-Some.rest.now c.in-Some.first.now c.args.item c.feed.new.self
    c.take_all.new.state c.in-Some.ensures.cases.0 c.requires.follow c.requires.whole c.in_ok-feed.ensures.ok
    c.in_ok-take_all.ensures.same c.in_ok-take_all.ensures.fed c.in_ok-take_all.ensures.grows
    c.in_ok-take_all.ensures.waits c.stands.ensures.stands).grows
    f.3

pub returns-clause-meet : goal.returns-clause-meet
returns-clause-meet c = on_ok_weaker c.pass_on.result
    (λ meet. (
      (past_item c.args._horizon c.args.states.now c.in-Some.rest.now c.in-Some.first.now c.args.item c.feed.new.self
          c.take_all.new.state c.in-Some.ensures.cases.0 c.requires.follow c.requires.whole c.in_ok-feed.ensures.ok
          c.in_ok-take_all.ensures.same c.in_ok-take_all.ensures.fed c.in_ok-take_all.ensures.grows
          c.in_ok-take_all.ensures.waits c.stands.ensures.stands).fed
          ∙ ap (λ (f : Stream). after f c.args.item) (sym (ap fed_of c.in-Some.ensures.cases.0)),
      (past_item c.args._horizon c.args.states.now c.in-Some.rest.now c.in-Some.first.now c.args.item c.feed.new.self
          c.take_all.new.state c.in-Some.ensures.cases.0 c.requires.follow c.requires.whole c.in_ok-feed.ensures.ok
          c.in_ok-take_all.ensures.same c.in_ok-take_all.ensures.fed c.in_ok-take_all.ensures.grows
          c.in_ok-take_all.ensures.waits c.stands.ensures.stands).rests,
      meet,
    ))
    c.pass_on.ensures.meet

pub returns-clause-specs : goal.returns-clause-specs
returns-clause-specs c = on_ok_weaker c.pass_on.result
    (λ same. specs-cons c.args._horizon (after c.in-Some.first.now.fed c.args.item) c.in-Some.first.now
    c.take_all.new.state c.in-Some.rest.now c.pass_on.new.states
    (past_item c.args._horizon c.args.states.now c.in-Some.rest.now c.in-Some.first.now c.args.item c.feed.new.self
    c.take_all.new.state c.in-Some.ensures.cases.0 c.requires.follow c.requires.whole c.in_ok-feed.ensures.ok
    c.in_ok-take_all.ensures.same c.in_ok-take_all.ensures.fed c.in_ok-take_all.ensures.grows
    c.in_ok-take_all.ensures.waits c.stands.ensures.stands) same
    ∙ ap specs_of (sym c.in-Some.ensures.cases.0))
    c.pass_on.ensures.specs

pub returns-clause-departed : goal.returns-clause-departed
returns-clause-departed c = on_ok_weaker c.pass_on.result
    (λ on. subst (λ (l : List State). IsFront (last_taken (fed_of l).packets l)
    (last_taken c.take_all.new.state.taken.packets c.pass_on.new.states)) (sym c.in-Some.ensures.cases.0)
    (on c.in-Some.first.now.taken.packets (front_of c.in-Some.first.now.taken c.take_all.new.state.taken
    (past_item c.args._horizon c.args.states.now c.in-Some.rest.now c.in-Some.first.now c.args.item c.feed.new.self
    c.take_all.new.state c.in-Some.ensures.cases.0 c.requires.follow c.requires.whole c.in_ok-feed.ensures.ok
    c.in_ok-take_all.ensures.same c.in_ok-take_all.ensures.fed c.in_ok-take_all.ensures.grows
    c.in_ok-take_all.ensures.waits c.stands.ensures.stands).grows)))
    c.pass_on.ensures.departed
