use Rattle.std.proofs.Common.{◌∙◌, Bool, Ok, Err, cond, ap, rules}
use Rattle.std.specs.Prelude.{codes}
use Rattle.http_header.specs.HeaderMap.{get_all}
use Rattle.http_frame.specs.declared.errors.FrameError.TheVariants.{BadCoding}
use Rattle.http_frame.specs.declared.framing.Framing.TheVariants.{Chunked}
use Rattle.http_frame.proofs.FramingLemmas.{has_field, status_passes, has_body, response_by_length, response_by_coding}
use Rattle.http_frame.proofs.framing.framing_of_response.Goals as goal

pub returns-then-to_head : goal.returns-then-to_head
returns-then-to_head c = search rules

pub returns-then-is_none : goal.returns-then-is_none
returns-then-is_none c =
    let codings = get_all c.args.fields.now (codes "transfer-encoding") in
    let lengths = get_all c.args.fields.now (codes "content-length") in
    c.framing_by_length.ensures ∙ response_by_length c.args.front.now c.args.to_head c.args.status
    (status_passes c.args.status c.if-status-lt100.false c.if-status-eq101.false)
    (has_body c.args.to_head c.args.status c.if-to_head.false c.if-status-lt200.false c.if-status-eq204.false
    c.if-status-eq304.false)
    codings lengths
    (has_field _ c.get.result codings _ c.get.ensures.value c.if-is_none.ensures)

pub returns-then-is_one_chunked : goal.returns-then-is_one_chunked
returns-then-is_one_chunked c =
    let codings = get_all c.args.fields.now (codes "transfer-encoding") in
    let lengths = get_all c.args.fields.now (codes "content-length") in
    ap (λ (b : Bool). cond b (Ok Chunked) (Err BadCoding)) c.if-is_one_chunked.ensures
    ∙ response_by_coding c.args.front.now c.args.to_head c.args.status
    (status_passes c.args.status c.if-status-lt100.false c.if-status-eq101.false)
    (has_body c.args.to_head c.args.status c.if-to_head.false c.if-status-lt200.false c.if-status-eq204.false
    c.if-status-eq304.false)
    codings lengths
    (has_field _ c.get.result codings _ c.get.ensures.value c.if-is_none.ensures)

pub returns-else-is_one_chunked : goal.returns-else-is_one_chunked
returns-else-is_one_chunked c =
    let codings = get_all c.args.fields.now (codes "transfer-encoding") in
    let lengths = get_all c.args.fields.now (codes "content-length") in
    ap (λ (b : Bool). cond b (Ok Chunked) (Err BadCoding)) c.if-is_one_chunked.ensures
    ∙ response_by_coding c.args.front.now c.args.to_head c.args.status
    (status_passes c.args.status c.if-status-lt100.false c.if-status-eq101.false)
    (has_body c.args.to_head c.args.status c.if-to_head.false c.if-status-lt200.false c.if-status-eq204.false
    c.if-status-eq304.false)
    codings lengths
    (has_field _ c.get.result codings _ c.get.ensures.value c.if-is_none.ensures)
