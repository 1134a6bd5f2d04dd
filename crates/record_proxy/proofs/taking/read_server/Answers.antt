use Rattle.std.proofs.Common.{◌≡◌, ◌∙◌, ◌<◌, ◌≤◌, ◌+◌, ◌++◌, length, length-append, take, true, sym, ap, subst, arith}
use Rattle.std.proofs.Common.{Ok}
use Rattle.std.proofs.lemmas.List.{length-take}
use Rattle.std.specs.Option.{option_map}
use Rattle.http_frame.specs.Frames.{Frames}
use Rattle.mm_base.specs.Link.{after_read}
use Rattle.replay_server.specs.Sessions.{most}
use Rattle.record_proxy.specs.Links.{links}
use Rattle.record_proxy.specs.inside.Progress.{Progress, taken_of}
use Rattle.record_proxy.proofs.TextLemmas.{begun}
use Rattle.record_proxy.proofs.StandLemmas.{due_stands, progress_due, stored_cut, brought}
use Rattle.record_proxy.proofs.ServerLemmas.{server_fails, server_ends, server_brings}
use Rattle.record_proxy.proofs.taking.read_server.Goals as goal

pub returns-in-Err-clause-goes_on : goal.returns-in-Err-clause-goes_on
returns-in-Err-clause-goes_on g c =
    let room : c.args.state.now.server_taken < most = omega (arith, c.requires.room, c.requires.few) in
    λ port start client before records m p due needs.
    server_fails start client _ p.whole (begun m p.interim) (taken_of c.args.state.now) (due_stands p m due) port before
    records p.records_are needs c.requires.running room _ c.in-Err.error c.in-Err.ensures.told c.refused.result
    c.refused.ensures

pub returns-in-Ok-eq0-clause-goes_on : goal.returns-in-Ok-eq0-clause-goes_on
returns-in-Ok-eq0-clause-goes_on g c =
    let state = c.args.state.now in
    let room : state.server_taken < most = omega (arith, c.requires.room, c.requires.few) in
    let now = (g.L.Link.view c.args.server.now).told in
    λ port start client before records m p due needs.
    subst (λ (f : Frames). Progress port start (links client (g.L.Link.view c.read.new.self).told) before records
    (record state { responses = f; server_ended = true })) (sym c.end.ensures)
    (progress_due (record state { responses = record state.responses { ended = true }; server_ended = true })
    p.whole p.records_are m p.interim due
    (server_ends start client _ p.whole (begun m p.interim) (taken_of state) (due_stands p m due) port before records
    p.records_are needs c.requires.running room _
    (c.in-Ok-eq0.ensures.end c.in-Ok-eq0.field-0-test c.requires.room)
    (c.in-Ok-eq0.ensures.told ∙ ap (λ k. option_map (after_read (Ok k)) now) c.in-Ok-eq0.field-0-test)))

pub returns-in-Ok-feed-clause-goes_on : goal.returns-in-Ok-feed-clause-goes_on
returns-in-Ok-feed-clause-goes_on g c =
    let state = c.args.state.now in
    let n = c.in-Ok.count in
    let buf = c.read.new.buf in
    let long : length (take n buf) ≡ n = omega (arith, length-take n buf, c.in-Ok.ensures.within, c.read.auto.buf) in
    let room : state.server_taken < most = omega (arith, c.requires.room, c.requires.few) in
    let few : state.server_taken + n ≤ most = omega (arith, c.requires.few, c.in-Ok.ensures.within) in
    λ port start client before records m p due needs.
    subst (λ (f : Frames). Progress port start (links client (g.L.Link.view c.read.new.self).told) before records
    (record state { responses = f; server_taken = state.server_taken + n })) (sym c.in-Ok-feed.ensures.ok)
    (progress_due
    (record state {
      responses = record state.responses { unread = state.responses.unread ++ take n buf };
      server_taken = state.server_taken + n;
    })
    p.whole p.records_are m p.interim due
    (server_brings start client _ p.whole (begun m p.interim) (taken_of state) (due_stands p m due) port before records
    p.records_are needs c.requires.running room _ n few (take n buf) long (brought _ n buf c.in-Ok.ensures.front)
    c.in-Ok.ensures.told))

pub returns-in-Err-feed-clause-goes_on : goal.returns-in-Err-feed-clause-goes_on
returns-in-Err-feed-clause-goes_on g c =
    let state = c.args.state.now in
    let n = c.in-Ok.count in
    let buf = c.read.new.buf in
    let long : length (take n buf) ≡ n = omega (arith, length-take n buf, c.in-Ok.ensures.within, c.read.auto.buf) in
    let room : state.server_taken < most = omega (arith, c.requires.room, c.requires.few) in
    let few : state.server_taken + n ≤ most = omega (arith, c.requires.few, c.in-Ok.ensures.within) in
    λ port start client before records m p due needs.
    stored_cut (server_brings start client _ p.whole (begun m p.interim) (taken_of state) (due_stands p m due) port
    before records p.records_are needs c.requires.running room _ n few (take n buf) long
    (brought _ n buf c.in-Ok.ensures.front) c.in-Ok.ensures.told)
    port before records p.records_are c.in-Err-feed.error

pub returns-in-Ok-feed-clause-less : goal.returns-in-Ok-feed-clause-less
returns-in-Ok-feed-clause-less g c =
    let state = c.args.state.now in
    let n = c.in-Ok.count in
    let buf = c.read.new.buf in
    let long : length (take n buf) ≡ n = omega (arith, length-take n buf, c.in-Ok.ensures.within, c.read.auto.buf) in
    let few : state.server_taken + n ≤ most = omega (arith, c.requires.few, c.in-Ok.ensures.within) in
    let unread = ap (λ (f : Frames). length f.unread) c.in-Ok-feed.ensures.ok in
    omega (arith, few, long, unread, length-append state.responses.unread (take n buf))
