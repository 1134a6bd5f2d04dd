use Rattle.std.proofs.Common.{◌≡◌, ◌∙◌, ◌<◌, ◌≤◌, ◌+◌, ◌++◌, length, length-append, take, sym, ap, subst, arith, Ok}
use Rattle.std.proofs.lemmas.List.{length-take}
use Rattle.std.specs.Option.{option_map}
use Rattle.http_frame.specs.Frames.{Frames}
use Rattle.mm_base.specs.Link.{after_read}
use Rattle.replay_server.specs.Sessions.{most}
use Rattle.record_proxy.specs.Links.{links}
use Rattle.record_proxy.specs.inside.Progress.{Progress, taken_of}
use Rattle.record_proxy.proofs.StandLemmas.{idle_stands, progress_idle, stored_cut, brought}
use Rattle.record_proxy.proofs.ClientLemmas.{client_fails, client_leaves, client_brings}
use Rattle.record_proxy.proofs.taking.read_client.Goals as goal

pub returns-in-Err-clause-goes_on : goal.returns-in-Err-clause-goes_on
returns-in-Err-clause-goes_on g c =
    let room : c.args.state.now.client_taken < most = omega (arith, c.requires.room, c.requires.few) in
    λ port start server before records p due none may.
    client_fails start _ server p.whole (taken_of c.args.state.now) (idle_stands p due) none port before records
    p.records_are may room _ c.in-Err.error c.in-Err.ensures.told c.refused.result c.refused.ensures

pub returns-in-Ok-eq0-clause-goes_on : goal.returns-in-Ok-eq0-clause-goes_on
returns-in-Ok-eq0-clause-goes_on g c =
    let room : c.args.state.now.client_taken < most = omega (arith, c.requires.room, c.requires.few) in
    let now = (g.L.Link.view c.args.client.now).told in
    λ port start server before records p due none may.
    client_leaves start _ server p.whole (taken_of c.args.state.now) (idle_stands p due) none port before records
    p.records_are may room _ (c.in-Ok-eq0.ensures.end c.in-Ok-eq0.field-0-test c.requires.room)
    (c.in-Ok-eq0.ensures.told ∙ ap (λ k. option_map (after_read (Ok k)) now) c.in-Ok-eq0.field-0-test)
    c.left.result (λ e. c.left.ensures.between (c.unread.ensures ∙ e))
    (λ some. c.left.ensures.within (subst (λ l. 0 < length l) (sym c.unread.ensures) some))

pub returns-in-Ok-feed-clause-goes_on : goal.returns-in-Ok-feed-clause-goes_on
returns-in-Ok-feed-clause-goes_on g c =
    let state = c.args.state.now in
    let n = c.in-Ok.count in
    let buf = c.read.new.buf in
    let long : length (take n buf) ≡ n = omega (arith, length-take n buf, c.in-Ok.ensures.within, c.read.auto.buf) in
    let room : state.client_taken < most = omega (arith, c.requires.room, c.requires.few) in
    let few : state.client_taken + n ≤ most = omega (arith, c.requires.few, c.in-Ok.ensures.within) in
    λ port start server before records p due none may.
    subst (λ (f : Frames). Progress port start (links (g.L.Link.view c.read.new.self).told server) before records
    (record state { requests = f; client_taken = state.client_taken + n })) (sym c.in-Ok-feed.ensures.ok)
    (progress_idle
    (record state {
      requests = record state.requests { unread = state.requests.unread ++ take n buf };
      client_taken = state.client_taken + n;
    })
    p.whole p.records_are due
    (client_brings start _ server p.whole (taken_of state) (idle_stands p due) none port before records p.records_are
    may room _ n few (take n buf) long (brought _ n buf c.in-Ok.ensures.front) c.in-Ok.ensures.told))

pub returns-in-Err-feed-clause-goes_on : goal.returns-in-Err-feed-clause-goes_on
returns-in-Err-feed-clause-goes_on g c =
    let state = c.args.state.now in
    let n = c.in-Ok.count in
    let buf = c.read.new.buf in
    let long : length (take n buf) ≡ n = omega (arith, length-take n buf, c.in-Ok.ensures.within, c.read.auto.buf) in
    let room : state.client_taken < most = omega (arith, c.requires.room, c.requires.few) in
    let few : state.client_taken + n ≤ most = omega (arith, c.requires.few, c.in-Ok.ensures.within) in
    λ port start server before records p due none may.
    stored_cut (client_brings start _ server p.whole (taken_of state) (idle_stands p due) none port before records
    p.records_are may room _ n few (take n buf) long (brought _ n buf c.in-Ok.ensures.front) c.in-Ok.ensures.told)
    port before records p.records_are c.in-Err-feed.error

pub returns-in-Ok-feed-clause-less : goal.returns-in-Ok-feed-clause-less
returns-in-Ok-feed-clause-less g c =
    let state = c.args.state.now in
    let n = c.in-Ok.count in
    let buf = c.read.new.buf in
    let long : length (take n buf) ≡ n = omega (arith, length-take n buf, c.in-Ok.ensures.within, c.read.auto.buf) in
    let few : state.client_taken + n ≤ most = omega (arith, c.requires.few, c.in-Ok.ensures.within) in
    let unread = ap (λ (f : Frames). length f.unread) c.in-Ok-feed.ensures.ok in
    omega (arith, few, long, unread, length-append state.requests.unread (take n buf))
