use Rattle.std.proofs.Common.{◌≡◌, ◌++◌, ◌∙◌, Ok, Err, ap, sym}
use Rattle.http_frame.specs.Frames.{Frames}
use Rattle.http_frame.specs.declared.errors.FrameFault.{FrameFault}
use Rattle.http_frame.specs.declared.errors.Step.{Step}
use Rattle.http_frame.specs.declared.messages.RequestHead.{RequestHead}
use Rattle.command_stores.proofs.RequestLemmas.{empty_list, faulty, more_needed, one_request, other_bytes, some_list}
use Rattle.command_stores.proofs.RequestLemmas.{started}
use Rattle.command_stores.proofs.request_file.only_head.Goals as goal

pub returns-then-is_empty-clause-whole : goal.returns-then-is_empty-clause-whole
returns-then-is_empty-clause-whole c =
    let began : c.feed.new.self ≡ started c.args.text.now =
    c.in_ok-feed.ensures.ok ∙ ap (λ (f : Frames). record f { unread = f.unread ++ c.args.text.now })
    c.requires in
    one_request c.args.text.now c.feed.new.self c.next_head.new.self c.next_head.result began c.next_head.ensures.says
    c.next_head.ensures.first c.in-Ok-Message.head
    (c.in-Ok-Message.is ∙ ap (λ (s : Step RequestHead). Ok s) c.in-Ok-Message.field-0-is)
    (sym c.unread.ensures ∙ empty_list c.unread.result.now (sym c.is_empty.ensures ∙ c.if-is_empty.true))

pub returns-else-is_empty-clause-refused : goal.returns-else-is_empty-clause-refused
returns-else-is_empty-clause-refused c =
    let began : c.feed.new.self ≡ started c.args.text.now =
    c.in_ok-feed.ensures.ok ∙ ap (λ (f : Frames). record f { unread = f.unread ++ c.args.text.now })
    c.requires in
    other_bytes c.args.text.now c.feed.new.self c.next_head.new.self c.next_head.result began c.next_head.ensures.says
    c.next_head.ensures.first c.in-Ok-Message.head
    (c.in-Ok-Message.is ∙ ap (λ (s : Step RequestHead). Ok s) c.in-Ok-Message.field-0-is)
    (λ none. some_list c.unread.result.now (sym c.is_empty.ensures ∙ c.if-is_empty.false) (c.unread.ensures ∙ none))

pub returns-in-Ok-More-clause-refused : goal.returns-in-Ok-More-clause-refused
returns-in-Ok-More-clause-refused c =
    let began : c.feed.new.self ≡ started c.args.text.now =
    c.in_ok-feed.ensures.ok ∙ ap (λ (f : Frames). record f { unread = f.unread ++ c.args.text.now })
    c.requires in
    more_needed c.args.text.now c.feed.new.self c.next_head.new.self c.next_head.result began c.next_head.ensures.says
    c.next_head.ensures.first (c.in-Ok-More.is ∙ ap (λ (s : Step RequestHead). Ok s) c.in-Ok-More.field-0-is)

pub returns-in-Err-Frame-clause-refused : goal.returns-in-Err-Frame-clause-refused
returns-in-Err-Frame-clause-refused c =
    let began : c.feed.new.self ≡ started c.args.text.now =
    c.in_ok-feed.ensures.ok ∙ ap (λ (f : Frames). record f { unread = f.unread ++ c.args.text.now })
    c.requires in
    faulty c.args.text.now c.feed.new.self c.next_head.new.self c.next_head.result began c.next_head.ensures.says
    c.next_head.ensures.first c.in-Err-Frame.error
    (c.in-Err-Frame.is ∙ ap (λ (e : FrameFault). Err e) c.in-Err-Frame.field-0-is)
