use Rattle.std.proofs.Common.{map, ap, ◌∙◌}
use Rattle.nest_spec.specs.Nests.{run_lists}
use Rattle.nest_spec.specs.RunViews.{entries_in, named_by}
use Rattle.nest_spec.proofs.OnceLemmas.{one_fate}
use Rattle.nest_spec.proofs.Results.{same_long, result_is}
use Rattle.nest_spec.proofs.gathering.gather.Goals as goal

pub in_nest_order-requires : goal.in_nest_order-requires
in_nest_order-requires c = same_long c.args.nest.now c.args.rows.now entries_in c.in_ok-up.up.items
    c.in_ok-down.down.items c.in_ok-up.ensures.logs c.in_ok-down.ensures.logs

pub returns-clause-value : goal.returns-clause-value
returns-clause-value c =
    let up = c.in_ok-up.ensures in
    let down = c.in_ok-down.ensures in
    c.new-2.ensures
    ∙ ap (λ f. run_lists f (map (named_by entries_in) c.in_ok-logs.logs.items))
    (c.in_ok-unpack_fates.ensures ∙ c.as_slice.ensures.value ∙ c.into_fates-fates.ensures)
    ∙ result_is c.args.nest.now c.args.rows.now entries_in c.in_ok-marking.marking c.gather_direction.new.marking
    c.gather_direction-2.new.marking c.in_ok-up.up.items c.in_ok-down.down.items c.in_ok-logs.logs.items
    c.requires.apart c.in_ok-marking.ensures
    (record { same = up.rows; fates = up.fates; named = up.logs; built = up.built })
    (record { same = down.rows; fates = down.fates; named = down.logs; built = down.built }) c.in_ok-logs.ensures

pub returns-clause-once : goal.returns-clause-once
returns-clause-once c = one_fate c.args.nest.now c.args.rows.now c.requires.apart c.in_ok-up.ensures.built
    c.in_ok-down.ensures.built
