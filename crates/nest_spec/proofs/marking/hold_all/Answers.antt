use Rattle.std.proofs.Common.{◌≡◌, ◌≤◌, ◌-◌, ◌∙◌, suc, length, drop, ap, arith}
use Rattle.nest_spec.specs.Fates.{fated}
use Rattle.nest_spec.specs.Marks.{held_in}
use Rattle.nest_spec.specs.views.MarkedRows.{rows_in}
use Rattle.nest_spec.proofs.MarkLemmas.{holds_none_yet, holds_more}
use Rattle.nest_spec.proofs.marking.hold_all.Goals as goal

pub ids-init : goal.ids-init
ids-init c = record {
  left = omega arith;
  long = c.requires.length;
  fates = λ f e. e ∙ holds_none_yet c.args.ids.now c.args.shell f (rows_in c.args.rows);
}

pub ids-preserved : goal.ids-preserved
ids-preserved c =
    let a = c.args in
    let left = c.ids.left - 1 in
    let back : c.ids.left ≡ suc left = omega arith in
    let le : suc left ≤ length a.ids.now = omega arith in
    record {
      left = omega arith;
      long = c.put.ensures.length;
      fates = λ f e.
          c.put.ensures.fates (held_in (drop (suc left) a.ids.now) a.shell f)
          (c.ids.invariant.fates f e ∙ ap (λ n. fated (held_in (drop n a.ids.now) a.shell f) (rows_in a.rows)) back)
          ∙ holds_more a.ids.now left a.shell f (rows_in a.rows) le;
    }

pub returns-clause-fates : goal.returns-clause-fates
returns-clause-fates c = λ f e.
    let done : c.ids.left ≡ 0 = omega arith in
    c.ids.invariant.fates f e ∙ ap (λ n. fated (held_in (drop n c.args.ids.now) c.args.shell f) (rows_in c.args.rows)) done
