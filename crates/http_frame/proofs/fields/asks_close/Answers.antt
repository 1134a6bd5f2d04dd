use Rattle.std.proofs.Common.{◌≡◌, false, ap, sym, ◌∙◌, length, rules}
use Rattle.http_frame.specs.Fields.{names_close}
use Rattle.http_frame.proofs.SpanLemmas.{passed_by, rest_within}
use Rattle.http_frame.proofs.fields.asks_close.Goals as goal

pub loop-span-preserved : goal.loop-span-preserved
loop-span-preserved c =
    let is : c.lists_close.result ≡ false = search rules in
    record {
      within = rest_within (length c.args.front.now) _ _ _ c.in-Some.ensures.steps c.loop-span.invariant.within;
      same = passed_by names_close c.args.front.now _ _ _ _ c.in-Some.ensures.steps
          (ap names_close (sym c.of.ensures) ∙ sym c.lists_close.ensures ∙ is) c.loop-span.invariant.same;
    }
