use Rattle.std.proofs.Common.{◌∙◌, ◌<◌, ap, arith, sym, subst, length, take, drop, Err, rules}
use Rattle.std.proofs.lemmas.Result.{IfOk-weaker}
use Rattle.http_frame.specs.Forms.{response_form}
use Rattle.http_frame.specs.Heads.{BeginsWith}
use Rattle.http_frame.specs.inside.Heads.{HeadCause}
use Rattle.http_frame.proofs.HeadLemmas.{says_cause, limit_fault, response_form_gives}
use Rattle.httparse.specs.Grammar.{ResponseHead, IsResponseHead, print_response, HasNoResponse, NeverHasResponse}
use Rattle.httparse.specs.Grammar.{MayBecomeResponse}
use Rattle.httparse.specs.Spans.{IsResponseAt, IsResponseOf, ResponseOverflows, ResponseExceeds}
use Rattle.httparse.proofs.GrammarLemmas.{response_unique}
use Rattle.http_frame.specs.Window.{line_feeds}
use Rattle.http_frame.proofs.WindowLemmas.{exceeds_lines, from_front, heavy_lines, heavy_none, none_within}
use Rattle.http_frame.proofs.WindowLemmas.{overflow_none, response_lines, below_all}
use Rattle.http_frame.proofs.response_head.read_response.Goals as goal

heavy : (h : ResponseHead) → 100 < (λ (h : ResponseHead). length h.fields) h → 102 < line_feeds (print_response h)
heavy h many = omega (arith, many, response_lines h)

pub returns-then-line_feeds-gt-MOST_LINES : goal.returns-then-line_feeds-gt-MOST_LINES
returns-then-line_feeds-gt-MOST_LINES c =
    let bytes = c.args.bytes.now in
    let spans = c.in-Ok-Complete.spans in
    let there = rw c.in-Ok-Complete.field-0-is at c.in-Ok-Complete.ensures.complete in
    let of : IsResponseOf (take 65536 bytes) c.parse_response.new.headers spans =
    subst (λ ys. IsResponseOf ys c.parse_response.new.headers spans) c.front_of-front.ensures there in
    let all = from_front print_response IsResponseHead 102 bytes of.0 spans.len of.1.len of.1.reads in
    let same = ap (λ ys. line_feeds (take spans.len ys)) c.front_of-front.ensures ∙ ap line_feeds all.2 in
    let over : 102 < line_feeds (print_response of.0) =
    omega (arith, c.line_feeds.ensures, same, c.if-line_feeds-gt-MOST_LINES.true) in (
      heavy_lines print_response IsResponseHead 102 bytes of.0 _ of.1.reads over,
      heavy_none print_response IsResponseHead 102 bytes (λ buf h k r q x y. (response_unique buf h k r q x y).0) of.0
          _ of.1.reads over,
    )

pub returns-else-line_feeds-gt-MOST_LINES : goal.returns-else-line_feeds-gt-MOST_LINES
returns-else-line_feeds-gt-MOST_LINES c =
    let bytes = c.args.bytes.now in
    let spans = c.in-Ok-Complete.spans in
    let there = rw c.in-Ok-Complete.field-0-is at c.in-Ok-Complete.ensures.complete in
    let of : IsResponseOf (take 65536 bytes) c.parse_response.new.headers spans =
    subst (λ ys. IsResponseOf ys c.parse_response.new.headers spans) c.front_of-front.ensures there in
    let all = from_front print_response IsResponseHead 102 bytes of.0 spans.len of.1.len of.1.reads in
    let same = ap (λ ys. line_feeds (take spans.len ys)) c.front_of-front.ensures ∙ ap line_feeds all.2 in
    let begins : BeginsWith (response_form c.args.to_head) bytes of.0 (drop spans.len bytes) = record {
      reads = all.0;
      within = record {
        bytes = all.1;
        lines = omega (arith, c.line_feeds.ensures, same, c.if-line_feeds-gt-MOST_LINES.false);
      };
    } in
    let at : IsResponseAt c.front_of-front.result.now c.parse_response.new.headers spans of.0 =
    subst (λ ys. IsResponseAt ys c.parse_response.new.headers spans of.0) (sym c.front_of-front.ensures) of.1 in
    IfOk-weaker c.response_step.result _ (HeadCause (response_form c.args.to_head) bytes)
    (λ step says. says_cause (response_form c.args.to_head) (response_form_gives c.args.to_head) bytes of.0 spans.len
    step begins of.1.len (says of.0 at)) c.response_step.ensures

pub returns-in-Some : goal.returns-in-Some
returns-in-Some c =
    let bytes = c.args.bytes.now in
    let n = subst HasNoResponse c.front_of-front.ensures
    (rw c.in-Ok-Partial.field-0-is at c.in-Ok-Partial.ensures.partial) in
    limit_fault (response_form c.args.to_head) bytes c.in-Some.error (rw c.in-Some.is at c.limit_of.ensures)
    (none_within print_response IsResponseHead 102 bytes n)

pub returns-in-None : goal.returns-in-None
returns-in-None c =
    let bytes = c.args.bytes.now in
    let below = rw c.in-None.is at c.limit_of.ensures in
    let same = c.front_of-front.ensures ∙ below_all 102 bytes below in
    let n = subst HasNoResponse same (rw c.in-Ok-Partial.field-0-is at c.in-Ok-Partial.ensures.partial) in
    let m = subst MayBecomeResponse same (rw c.in-Ok-Partial.field-0-is at c.in-Ok-Partial.ensures.unfinished) in
    (below, n, m)

pub returns-in-Err-TooManyHeaders : goal.returns-in-Err-TooManyHeaders
returns-in-Err-TooManyHeaders c =
    let bytes = c.args.bytes.now in
    let e = c.in-Err-TooManyHeaders.ensures in
    let over = subst (ResponseOverflows 100) c.front_of-front.ensures e.no_room in
    let o = subst (ResponseExceeds 100) c.front_of-front.ensures
    (e.too_many (ap Err c.in-Err-TooManyHeaders.field-0-is)) in (
      exceeds_lines print_response IsResponseHead 102 bytes (λ (h : ResponseHead). length h.fields) 100 heavy o.0 o.1
          o.2 o.3 o.4 o.5,
      overflow_none print_response IsResponseHead 102 bytes (λ (h : ResponseHead). length h.fields) 100 heavy over,
    )

pub returns-in-Some-limit_of : goal.returns-in-Some-limit_of
returns-in-Some-limit_of c =
    let bytes = c.args.bytes.now in
    let over = subst (ResponseOverflows 100) c.front_of-front.ensures c.in-Err.ensures.no_room in
    limit_fault (response_form c.args.to_head) bytes c.in-Some-limit_of.error
    (rw c.in-Some-limit_of.is at c.limit_of-in-Err.ensures)
    (overflow_none print_response IsResponseHead 102 bytes (λ (h : ResponseHead). length h.fields) 100 heavy over)

pub returns-in-None-limit_of : goal.returns-in-None-limit_of
returns-in-None-limit_of c =
    let bytes = c.args.bytes.now in
    let below = rw c.in-None-limit_of.is at c.limit_of-in-Err.ensures in
    let never : NeverHasResponse c.front_of-front.result.now = search rules in
    (below, subst NeverHasResponse (c.front_of-front.ensures ∙ below_all 102 bytes below) never)
