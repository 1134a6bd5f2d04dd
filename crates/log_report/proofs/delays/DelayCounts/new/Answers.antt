use Rattle.std.proofs.Common.{refl, ap, ◌∙◌, get_or}
use Rattle.std.proofs.lemmas.List.{get_or-replicate}
use Rattle.log_report.proofs.delays.DelayCounts.new.Goals as goal

pub returns : goal.returns
returns c = record {
  count = refl;
  short = λ d lt. ap (λ l. get_or l d 0) (c.in_ok-vec.ensures.items_if_clones_equal (λ y h. h))
      ∙ get_or-replicate 65536 d 0 0 lt;
  long = c.new.ensures.items;
}
