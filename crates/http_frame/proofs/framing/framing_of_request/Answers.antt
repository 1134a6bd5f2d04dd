use Rattle.std.proofs.Common.{◌∙◌, Bool, Ok, Err, cond, sym, ap, rules}
use Rattle.std.specs.Prelude.{codes}
use Rattle.http_header.specs.HeaderMap.{get_all}
use Rattle.http_frame.specs.declared.errors.FrameError.TheVariants.{BadCoding}
use Rattle.http_frame.specs.declared.framing.Framing.TheVariants.{Chunked}
use Rattle.http_frame.proofs.FramingLemmas.{connect_refused, has_field, request_by_length, request_by_both}
use Rattle.http_frame.proofs.FramingLemmas.{request_by_coding}
use Rattle.http_frame.proofs.framing.framing_of_request.Goals as goal

pub returns-then-eq : goal.returns-then-eq
returns-then-eq c = connect_refused c.args.method.now _ _ (search rules)

pub returns-then-is_none : goal.returns-then-is_none
returns-then-is_none c =
    let codings = get_all c.args.fields.now (codes "transfer-encoding") in
    let lengths = get_all c.args.fields.now (codes "content-length") in
    c.framing_by_length.ensures ∙ request_by_length c.args.front.now c.args.method.now (search rules)
    codings lengths
    (has_field _ c.get.result codings _ c.get.ensures.value c.if-is_none.ensures)

pub returns-then-is_some : goal.returns-then-is_some
returns-then-is_some c =
    let codings = get_all c.args.fields.now (codes "transfer-encoding") in
    let lengths = get_all c.args.fields.now (codes "content-length") in
    request_by_both c.args.front.now c.args.method.now (search rules)
    codings lengths
    (has_field _ c.get.result codings _ c.get.ensures.value c.if-is_none.ensures)
    (has_field _ c.get-2.result lengths _ c.get-2.ensures.value (sym c.if-is_some.ensures))

pub returns-then-is_one_chunked : goal.returns-then-is_one_chunked
returns-then-is_one_chunked c =
    let codings = get_all c.args.fields.now (codes "transfer-encoding") in
    let lengths = get_all c.args.fields.now (codes "content-length") in
    ap (λ (b : Bool). cond b (Ok Chunked) (Err BadCoding)) c.if-is_one_chunked.ensures
    ∙ request_by_coding c.args.front.now c.args.method.now (search rules)
    codings lengths
    (has_field _ c.get.result codings _ c.get.ensures.value c.if-is_none.ensures)
    (has_field _ c.get-2.result lengths _ c.get-2.ensures.value (sym c.if-is_some.ensures))

pub returns-else-is_one_chunked : goal.returns-else-is_one_chunked
returns-else-is_one_chunked c =
    let codings = get_all c.args.fields.now (codes "transfer-encoding") in
    let lengths = get_all c.args.fields.now (codes "content-length") in
    ap (λ (b : Bool). cond b (Ok Chunked) (Err BadCoding)) c.if-is_one_chunked.ensures
    ∙ request_by_coding c.args.front.now c.args.method.now (search rules)
    codings lengths
    (has_field _ c.get.result codings _ c.get.ensures.value c.if-is_none.ensures)
    (has_field _ c.get-2.result lengths _ c.get-2.ensures.value (sym c.if-is_some.ensures))
