use Rattle.std.proofs.Common.{◌∙◌, ◌<◌, Ok, Err, length, sym, ap, subst, arith}
use Rattle.http_frame.specs.Frames.{Frames}
use Rattle.http_frame.specs.Forms.{request_form}
use Rattle.http_frame.specs.Runs.{BeginsWithNone}
use Rattle.replay_server.specs.Sessions.{MayGoOn}
use Rattle.replay_server.proofs.StepLemmas.{if_none}
use Rattle.record_proxy.specs.Links.{links}
use Rattle.record_proxy.specs.inside.Progress.{Progress, taken_of, to_do}
use Rattle.record_proxy.proofs.FrameSteps.{takes, waits, fails, is_request, request_shortens, none_waiting}
use Rattle.record_proxy.proofs.FrameSteps.{none_refused, may_follow, is_hopeless}
use Rattle.record_proxy.proofs.StandLemmas.{idle_stands, stored_cut, still_progress}
use Rattle.record_proxy.proofs.ClientLemmas.{refused_request}
use Rattle.record_proxy.proofs.exchange.ask.Goals as goal

pub returns-in-Ok-Message-clause-goes_on : goal.returns-in-Ok-Message-clause-goes_on
returns-in-Ok-Message-clause-goes_on g c =
    let state = c.args.state.now in
    let old = state.requests in
    let new = c.next.new.self in
    let m = c.in-Ok-Message.request in
    let is = c.in-Ok-Message.is ∙ ap Ok c.in-Ok-Message.field-0-is in
    let took = takes request_form old new c.next.result c.next.ensures.says m is in
    λ port start before records p due.
    c.pass_request.ensures.goes_on port start _ before records old.unread (is_request old new m took) due took.unread
    (still_progress state p new took.is took.ended)

pub returns-in-Ok-Message-clause-less : goal.returns-in-Ok-Message-clause-less
returns-in-Ok-Message-clause-less g c =
    let state = c.args.state.now in
    let old = state.requests in
    let new = c.next.new.self in
    let m = c.in-Ok-Message.request in
    let took = takes request_form old new c.next.result c.next.ensures.says m
    (c.in-Ok-Message.is ∙ ap Ok c.in-Ok-Message.field-0-is) in
    let same = ap to_do c.pass_request.ensures.same in
    let fewer : length new.unread < length old.unread = request_shortens old new m took in
    let less : to_do c.pass_request.new.state < to_do state = omega (arith, same, fewer) in
    if_none c.pass_request.result less

pub returns-in-Ok-More-clause-goes_on : goal.returns-in-Ok-More-clause-goes_on
returns-in-Ok-More-clause-goes_on g c =
    let state = c.args.state.now in
    let old = state.requests in
    let new = c.next.new.self in
    let result = c.next.result in
    let is = c.in-Ok-More.is ∙ ap Ok c.in-Ok-More.field-0-is in
    let more = waits request_form old new result c.next.ensures.says is in
    λ port start before records p due.
    let whole = none_waiting old new result p.stands.requests_run p.stands.requests_last c.next.ensures.first
    c.next.ensures.fails is in
    let may = may_follow old new result p.stands.requests_run p.stands.requests_last c.next.ensures.first
    c.next.ensures.fails more.1 is in
    c.take_of_client.ensures.goes_on port start _ before records
    (subst (λ (f : Frames). Progress port start (links (g.A.Link.view c.args.client.now).told
    (g.B.Link.view c.args.server.now).told) before records (record state { requests = f })) (sym more.0.same) p)
    due
    (subst (λ (f : Frames). BeginsWithNone f.unread) (sym more.0.same) whole)
    (subst (λ (f : Frames). MayGoOn f.unread) (sym more.0.same) may)

pub returns-in-Err-Frame-clause-goes_on : goal.returns-in-Err-Frame-clause-goes_on
returns-in-Err-Frame-clause-goes_on g c =
    let state = c.args.state.now in
    let old = state.requests in
    let new = c.next.new.self in
    let result = c.next.result in
    let is = c.in-Err-Frame.is ∙ ap Err c.in-Err-Frame.field-0-is in
    λ port start before records p due.
    let none = none_refused old new result p.stands.requests_run p.stands.requests_last c.next.ensures.first
    c.next.ensures.fails _ is in
    let hopeless = is_hopeless old new _ (fails request_form old new result c.next.ensures.says _ is)
    p.stands.requests_run p.stands.requests_last in
    refused_request start _ _ p.whole (taken_of state) (idle_stands p due) none port before records p.records_are
    hopeless

pub returns-in-Err-OutOfMemory-clause-goes_on : goal.returns-in-Err-OutOfMemory-clause-goes_on
returns-in-Err-OutOfMemory-clause-goes_on g c =
    λ port start before records p due. stored_cut (idle_stands p due) port before records p.records_are _
