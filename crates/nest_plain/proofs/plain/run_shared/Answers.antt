use Rattle.std.proofs.Common.{◌∙◌, List, ap}
use Rattle.shell_log.specs.declared.entry.Entry.{Entry}
use Rattle.nest_spec.specs.declared.fate.Fate.TheVariants.{Unsent}
use Rattle.nest_spec.specs.Fates.{fated}
use Rattle.nest_spec.specs.Marks.{marks}
use Rattle.nest_spec.specs.Nests.{run_lists}
use Rattle.nest_spec.proofs.OnceLemmas.{one_fate}
use Rattle.nest_spec.proofs.Results.{same_long, result_is}
use Rattle.nest_spec.proofs.Scheduled.{apart}
use Rattle.nest_plain.specs.Unwritten.{unwritten}
use Rattle.nest_plain.proofs.plain.run_shared.Goals as goal

pub in_nest_order-requires : goal.in_nest_order-requires
in_nest_order-requires c =
    same_long c.args.nest.now c.args.schedule.now (λ (entries : List Entry). entries) c.in_ok-up.up.items
    c.in_ok-down.down.items c.in_ok-up.ensures.logs c.in_ok-down.ensures.logs

pub returns-clause-value : goal.returns-clause-value
returns-clause-value c =
    let nest = c.args.nest.now in
    let rows = c.args.schedule.now in
    let up = c.in_ok-up.ensures in
    let down = c.in_ok-down.ensures in
    c.new.ensures
    ∙ ap (λ f. run_lists f (unwritten c.in_ok-logs.logs.items)) c.into_fates.ensures
    ∙ result_is nest rows (λ (entries : List Entry). entries) c.in_ok-marking.marking c.run_direction.new.marking
    c.run_direction-2.new.marking c.in_ok-up.up.items c.in_ok-down.down.items c.in_ok-logs.logs.items
    (apart rows c.rows-rows.ensures.schedule.order)
    (c.in_ok-marking.ensures ∙ ap (λ l. marks l (fated (λ _. Unsent) l)) c.rows-rows.ensures.rows)
    (record { same = up.rows; fates = up.fates; named = up.logs; built = up.built })
    (record { same = down.rows; fates = down.fates; named = down.logs; built = down.built }) c.in_ok-logs.ensures

pub returns-clause-once : goal.returns-clause-once
returns-clause-once c =
    let nest = c.args.nest.now in
    let rows = c.args.schedule.now in
    one_fate nest rows (apart rows c.rows-rows.ensures.schedule.order) c.in_ok-up.ensures.built
    c.in_ok-down.ensures.built
