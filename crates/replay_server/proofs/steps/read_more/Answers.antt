use Rattle.std.proofs.Common.{◌≡◌, ◌<◌, ◌≤◌, ◌+◌, length, length-append, take, sym, ap, subst, arith}
use Rattle.std.proofs.lemmas.List.{length-take}
use Rattle.http_frame.specs.Frames.{Frames}
use Rattle.replay_server.specs.inside.Progress.{Progress}
use Rattle.replay_server.specs.Links.{IsServed}
use Rattle.replay_server.specs.Sessions.{most}
use Rattle.replay_server.proofs.StepLemmas.{read_fails, read_ends, read_kept, read_lost}
use Rattle.replay_server.proofs.steps.read_more.Goals as goal

pub returns-in-Err-clause-goes_on : goal.returns-in-Err-clause-goes_on
returns-in-Err-clause-goes_on g c =
    let room : c.args.state.now.taken < most = omega (arith, c.requires.room, c.requires.few) in
    λ store site start p empty whole may. subst (IsServed store site start _) (sym c.refused.ensures)
    (read_fails start _ c.args.state.now p empty whole may room _ c.in-Err.error c.in-Err.ensures.told)

pub returns-in-Ok-eq0-clause-goes_on : goal.returns-in-Ok-eq0-clause-goes_on
returns-in-Ok-eq0-clause-goes_on g c =
    let few : c.args.state.now.taken < most = omega (arith, c.requires.room, c.requires.few) in
    λ store site start p empty whole may.
    read_ends start _ c.args.state.now p empty whole may few _ c.in-Ok-eq0.field-0 c.in-Ok-eq0.field-0-test
    (c.in-Ok-eq0.ensures.end c.in-Ok-eq0.field-0-test c.requires.room) c.in-Ok-eq0.ensures.told

pub returns-in-Ok-feed-clause-goes_on : goal.returns-in-Ok-feed-clause-goes_on
returns-in-Ok-feed-clause-goes_on g c =
    let state = c.args.state.now in
    let n = c.in-Ok.count in
    let buf = c.read.new.buf in
    let long : length (take n buf) ≡ n = omega (arith, length-take n buf, c.in-Ok.ensures.within, c.read.auto.buf) in
    let room : state.taken < most = omega (arith, c.requires.room, c.requires.few) in
    let few : state.taken + n ≤ most = omega (arith, c.requires.few, c.in-Ok.ensures.within) in
    λ store site start p empty whole may.
    subst (λ (f : Frames). Progress store site start (g.L.Link.view c.read.new.self).told
    (record state { frames = f; taken = state.taken + n })) (sym c.in-Ok-feed.ensures.ok)
    (read_kept start _ state p empty whole may room _ n few buf long c.in-Ok.ensures.front c.in-Ok.ensures.told)

pub returns-in-Err-feed-clause-goes_on : goal.returns-in-Err-feed-clause-goes_on
returns-in-Err-feed-clause-goes_on g c =
    let state = c.args.state.now in
    let n = c.in-Ok.count in
    let buf = c.read.new.buf in
    let long : length (take n buf) ≡ n = omega (arith, length-take n buf, c.in-Ok.ensures.within, c.read.auto.buf) in
    let room : state.taken < most = omega (arith, c.requires.room, c.requires.few) in
    let few : state.taken + n ≤ most = omega (arith, c.requires.few, c.in-Ok.ensures.within) in
    λ store site start p empty whole may.
    read_lost start _ state p empty whole may room _ n few buf long c.in-Ok.ensures.front c.in-Ok.ensures.told

pub returns-in-Ok-feed-clause-less : goal.returns-in-Ok-feed-clause-less
returns-in-Ok-feed-clause-less g c =
    let state = c.args.state.now in
    let n = c.in-Ok.count in
    let buf = c.read.new.buf in
    let long : length (take n buf) ≡ n = omega (arith, length-take n buf, c.in-Ok.ensures.within, c.read.auto.buf) in
    let few : state.taken + n ≤ most = omega (arith, c.requires.few, c.in-Ok.ensures.within) in
    let unread = ap (λ (f : Frames). length f.unread) c.in-Ok-feed.ensures.ok in
    omega (arith, few, long, unread, length-append state.frames.unread (take n buf))
