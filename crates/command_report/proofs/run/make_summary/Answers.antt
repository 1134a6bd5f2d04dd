use Rattle.std.proofs.Common.{◌≡◌, ℕ, ◌≤◌, List, length, IfOk, Result, Ok, Err, ap, sym, subst, ◌∙◌}
use Rattle.std.proofs.lemmas.List.{length-map}
use Rattle.packet_record.specs.declared.packet.Row.{Row}
use Rattle.nest_spec.specs.Fates.{fate_row}
use Rattle.nest_spec.specs.Nests.{NestParts, RunLists, fate_of, result_of}
use Rattle.command_report.specs.Made.{IsMadeNest, made_horizon}
use Rattle.command_report.specs.SummaryText.{IsSummary, summary_lines}
use Rattle.command_report.proofs.run.make_summary.Goals as goal

if_text : {E : Type 0} (P : List ℕ → Type 0) (text : List ℕ) (result : Result (List ℕ) E)
    → IfOk result (λ t. t ≡ text) → P text → IfOk result P
if_text P text (Ok t) e p = subst P (sym e) p
if_text P text (Err fault) e p = tt

-- each row has its fate
as_many_fates : (nest : NestParts) (rows : List Row) → length (result_of nest rows).fates ≡ length rows
as_many_fates nest rows = length-map rows (λ (row : Row). fate_row row (fate_of nest rows row))

pub print_summary-requires-clause-same : goal.print_summary-requires-clause-same
print_summary-requires-clause-same c =
    let fates : c.as_slice-2.result.now ≡ (result_of c.in_ok-nest.nest c.in_ok-schedule.schedule).fates =
    c.as_slice-2.ensures.value ∙ c.in_ok-fates.ensures ∙ c.as_slice.ensures.value ∙ c.into_parts-fates.ensures.fates
    ∙ ap (λ (r : RunLists). r.fates) c.in_ok-run_nest.ensures.value in
    ap length fates ∙ as_many_fates c.in_ok-nest.nest c.in_ok-schedule.schedule
    ∙ sym (ap length c.rows-rows.ensures.rows)

pub print_summary-requires-clause-few : goal.print_summary-requires-clause-few
print_summary-requires-clause-few c =
    subst (λ (rows : List Row). length rows ≤ 1000000) (sym c.rows-rows.ensures.rows) c.rows-rows.ensures.schedule.few

pub returns : goal.returns
returns c =
    let fates : c.as_slice-2.result.now ≡ (result_of c.in_ok-nest.nest c.in_ok-schedule.schedule).fates =
    c.as_slice-2.ensures.value ∙ c.in_ok-fates.ensures ∙ c.as_slice.ensures.value ∙ c.into_parts-fates.ensures.fates
    ∙ ap (λ (r : RunLists). r.fates) c.in_ok-run_nest.ensures.value in
    let summary : IsSummary c.args.number c.args.packets (summary_lines c.rows-rows.result.now c.as_slice-2.result.now)
    = record {
      rows = c.in_ok-schedule.schedule;
      nest = c.in_ok-nest.nest;
      load = record { say = c.in_ok-schedule.ensures; numbered = c.rows-rows.ensures.numbered };
      nest_is = subst (λ (h : ℕ). IsMadeNest c.args.number h c.in_ok-nest.nest) (c.horizon_of.ensures
          ∙ ap made_horizon c.rows-rows.ensures.rows) c.in_ok-nest.ensures;
      text_is =
          ap (λ (rows : List Row). summary_lines rows c.as_slice-2.result.now) c.rows-rows.ensures.rows
          ∙ ap (summary_lines c.in_ok-schedule.schedule) fates;
    } in
    if_text (IsSummary c.args.number c.args.packets) (summary_lines c.rows-rows.result.now c.as_slice-2.result.now)
    c.print_summary.result c.print_summary.ensures summary
