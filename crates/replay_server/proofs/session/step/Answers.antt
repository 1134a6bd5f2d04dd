use Rattle.std.proofs.Common.{◌∙◌, ◌<◌, ◌≡◌, Ok, Err, length, sym, ap, subst, arith}
use Rattle.std.specs.Prelude.{IfNone}
use Rattle.http_frame.specs.Frames.{Frames}
use Rattle.http_frame.specs.Runs.{BeginsWithNone}
use Rattle.http_frame.specs.declared.messages.RequestHead.{RequestHead}
use Rattle.replay_server.specs.Answers.{Answer, IsAnswer}
use Rattle.replay_server.specs.inside.Progress.{Progress, to_do}
use Rattle.replay_server.specs.Sessions.{MayGoOn}
use Rattle.replay_server.proofs.FrameSteps.{given, waits, fails, is_request, none_there, has_head, lacks_memory}
use Rattle.replay_server.proofs.FrameSteps.{may_wait, is_hopeless, takes_bytes}
use Rattle.replay_server.proofs.StepLemmas.{still, if_none}
use Rattle.replay_server.proofs.session.step.Goals as goal

pub returns-in-Ok-Message-clause-goes_on : goal.returns-in-Ok-Message-clause-goes_on
returns-in-Ok-Message-clause-goes_on g c =
    let state = c.args.state.now in
    let old = state.frames in
    let new = c.next_head.new.self in
    let answer : Answer = record {
      bytes = c.answer_to-answer.result.bytes.now;
      closes = c.answer_to-answer.result.closes;
    } in
    let m = given old new c.next_head.result c.in-Ok-Message.head c.next_head.ensures.says (c.in-Ok-Message.is
    ∙ ap Ok c.in-Ok-Message.field-0-is) in
    λ start p.
    c.give_answer.ensures.goes_on _ _ start old.unread m.0 (is_request old new m.0 m.2)
    (subst (λ (h : RequestHead). IsAnswer c.args.server.now.source.store.now c.args.server.now.source.index.port h
    answer) (sym m.1) c.answer_to-answer.ensures)
    m.2.unread (still p new m.2.is m.2.ended)

pub returns-in-Ok-More-clause-goes_on : goal.returns-in-Ok-More-clause-goes_on
returns-in-Ok-More-clause-goes_on g c =
    let state = c.args.state.now in
    let old = state.frames in
    let new = c.next_head.new.self in
    let result = c.next_head.result in
    let is = c.in-Ok-More.is ∙ ap Ok c.in-Ok-More.field-0-is in
    let same = (waits old new result c.next_head.ensures.says is).0.same in
    λ start p.
    let whole = none_there old new result (ap has_head is) c.next_head.ensures.first (ap lacks_memory is) p.running in
    let may = may_wait old new result is c.next_head.ensures.says c.next_head.ensures.fails p.running p.not_ended in
    c.take_more.ensures.goes_on _ _ start
    (subst (λ (f : Frames). Progress c.args.server.now.source.store.now c.args.server.now.source.index.port start
    (g.L.Link.view c.args.link.now).told (record state { frames = f })) (sym same) p)
    (subst (λ (f : Frames). BeginsWithNone f.unread) (sym same) whole)
    (subst (λ (f : Frames). MayGoOn f.unread) (sym same) may)

pub returns-in-Err-Frame-clause-goes_on : goal.returns-in-Err-Frame-clause-goes_on
returns-in-Err-Frame-clause-goes_on g c =
    let state = c.args.state.now in
    let old = state.frames in
    let new = c.next_head.new.self in
    let result = c.next_head.result in
    let is = c.in-Err-Frame.is ∙ ap Err c.in-Err-Frame.field-0-is in
    λ start p.
    let whole = none_there old new result (ap has_head is) c.next_head.ensures.first (ap lacks_memory is) p.running in
    let hopeless = is_hopeless old new _ (fails old new result _ c.next_head.ensures.says is) p.running p.not_ended in
    c.refuse.ensures.ends _ _ start p.replies old.unread state.taken p.stand p.open_ones whole hopeless

pub returns-in-Ok-Message-clause-less : goal.returns-in-Ok-Message-clause-less
returns-in-Ok-Message-clause-less g c =
    let old = c.args.state.now.frames in
    let new = c.next_head.new.self in
    let m = given old new c.next_head.result c.in-Ok-Message.head c.next_head.ensures.says (c.in-Ok-Message.is
    ∙ ap Ok c.in-Ok-Message.field-0-is) in
    let left = c.give_answer.new.state in
    let unread : length left.frames.unread ≡ length new.unread
    = ap (λ (f : Frames). length f.unread) c.give_answer.ensures.same_frames in
    let taken : left.taken ≡ c.args.state.now.taken = c.give_answer.ensures.same_taken in
    let fewer : length new.unread < length old.unread = takes_bytes old new m.0 m.2 in
    let less : to_do left < to_do c.args.state.now = omega (arith, unread, taken, fewer) in
    if_none c.give_answer.result less

pub returns-in-Ok-More-clause-less : goal.returns-in-Ok-More-clause-less
returns-in-Ok-More-clause-less g c =
    let state = c.args.state.now in
    let is = c.in-Ok-More.is ∙ ap Ok c.in-Ok-More.field-0-is in
    let same = (waits state.frames c.next_head.new.self c.next_head.result c.next_head.ensures.says is).0.same in
    subst (λ (f : Frames).
    IfNone c.take_more.result (to_do c.take_more.new.state < to_do (record state { frames = f })))
    same c.take_more.ensures.less
