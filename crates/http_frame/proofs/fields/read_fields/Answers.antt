use Rattle.std.proofs.Common.{◌≡◌, ◌+◌, [], ◌∷◌, ◌++◌, get_or, take, ap, subst, cond, sym, arith}
use Rattle.std.proofs.lemmas.List.{take_more}
use Rattle.httparse.specs.declared.spans.HeaderSpan.{HeaderSpan}
use Rattle.httparse.specs.Spans.{span_bytes}
use Rattle.http_header.specs.Token.{lowercase}
use Rattle.http_header.specs.HeaderMap.{append}
use Rattle.http_frame.specs.inside.Fields.{is_wanted, HasFields}
use Rattle.http_frame.proofs.FieldLemmas.{more_names, more_values, stay_within, has_more}
use Rattle.http_frame.proofs.fields.read_fields.Goals as goal

abbrev EMPTY : HeaderSpan
EMPTY = record { name = record { start = 0; end = 0 }; value = record { start = 0; end = 0 } }

pub loop-header-preserved : goal.loop-header-preserved
loop-header-preserved c =
    let buf = c.args.front.now in
    let at = c.loop-header.header-index in
    let old = c.loop-header.fields in
    let new = c.add_field.new.fields in
    let h : HeaderSpan = get_or c.args.headers.now at EMPTY in
    let done = take at c.args.headers.now in
    let later : take (at + 1) c.args.headers.now ≡ done ++ h ∷ [] =
    take_more c.args.headers.now at EMPTY c.loop-header-test.true in
    let key_is : lowercase c.of.result.now ≡ lowercase (span_bytes buf h.name) = ap lowercase c.of.ensures in
    let adds = subst (λ k. new ≡ cond (is_wanted k) (append old k h.value) old) key_is c.in_ok-add_field.ensures in
    record {
      names = omega (arith, more_names buf h old new adds, c.loop-header.invariant.names);
      count = omega (arith, more_values buf h old new adds, c.loop-header.invariant.count);
      within = stay_within buf h old new adds c.loop-header.invariant.within
          ((c.requires.inside at EMPTY c.loop-header-test.true).1);
      values = subst (λ hs. HasFields buf hs new) (sym later)
          (has_more buf h old new adds done c.loop-header.invariant.values);
    }
