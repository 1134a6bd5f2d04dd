use Rattle.std.proofs.Common.{◌∙◌, ap}
use Rattle.nest_spec.specs.Marks.{marks}
use Rattle.nest_spec.specs.Nests.{run_lists}
use Rattle.nest_spec.proofs.OnceLemmas.{one_fate}
use Rattle.nest_spec.proofs.Results.{same_long, result_is}
use Rattle.nest_plain.specs.Unwritten.{unwritten}
use Rattle.nest_runner.proofs.gathering.gather.Goals as goal

pub in_nest_order-requires : goal.in_nest_order-requires
in_nest_order-requires c =
    same_long c.args.nest.now c.args.marking.rows (λ entries. entries) c.in_ok-up.up.items
    c.in_ok-down.down.items (c.in_ok-up.ensures.logs _ c.requires.up) (c.in_ok-down.ensures.logs _ c.requires.down)

pub returns-clause-value : goal.returns-clause-value
returns-clause-value c =
    let rows = c.args.marking.rows in
    let up = c.in_ok-up.ensures in
    let down = c.in_ok-down.ensures in
    c.new.ensures
    ∙ ap (λ f. run_lists f (unwritten c.in_ok-logs.logs.items)) c.into_fates.ensures
    ∙ result_is c.args.nest.now rows (λ entries. entries) c.args.marking
    c.gather_direction.new.marking c.gather_direction-2.new.marking c.in_ok-up.up.items c.in_ok-down.down.items
    c.in_ok-logs.logs.items c.requires.apart (ap (marks rows) c.requires.unsent)
    (record {
      same = up.rows;
      fates = up.fates _ c.requires.up;
      named = up.logs _ c.requires.up;
      built = up.built;
    })
    (record {
      same = down.rows;
      fates = down.fates _ c.requires.down;
      named = down.logs _ c.requires.down;
      built = down.built;
    }) c.in_ok-logs.ensures

pub returns-clause-once : goal.returns-clause-once
returns-clause-once c = one_fate c.args.nest.now c.args.marking.rows
    c.requires.apart c.in_ok-up.ensures.built c.in_ok-down.ensures.built
