use Rattle.std.proofs.Common.{◌≡◌, ◌∙◌, ◌++◌, List, ℕ, map, ap, length, subst, sym, arith}
use Rattle.std.proofs.lemmas.List.{length-map}
use Rattle.std.proofs.lemmas.Result.{err_from_is_err_and}
use Rattle.text_base.specs.Lines.{lines_of}
use Rattle.sender_merge.specs.RowLists.{rows_in}
use Rattle.command_ends.specs.Stops.{RefusesText, StopsReading}
use Rattle.command_ends.specs.declared.cause.Cause.{Cause}
use Rattle.command_merge.specs.List.{list_refusal}
use Rattle.command_merge.specs.MergeReading.{sender_inputs}
use Rattle.command_merge.specs.inside.Values.{merge_values}
use Rattle.command_merge.proofs.MergeLemmas.{list_file_stop, list_text_stop, listed_schedules_stop, listed_stop}
use Rattle.command_merge.proofs.MergeLemmas.{senders_found}
use Rattle.command_merge.proofs.ScheduleLemmas.{rows_few, schedule_count}
use Rattle.command_merge.proofs.inputs.load_senders.Goals as goal

pub returns-in_err-list-clause-stopped : goal.returns-in_err-list-clause-stopped
returns-in_err-list-clause-stopped g c =
    let p = err_from_is_err_and c.from_residual.result c.from_residual.ensures.1 in
    let job = merge_values c.args.job.now in
    let old = g.D.Disk.view c.args.disk.now in
    let new = g.D.Disk.view c.read_input.new.disk in
    rw p.1 (λ traces. subst (λ (k : Cause). StopsReading (sender_inputs job c.args.nest.now traces) old new k) (sym p.2)
    (list_file_stop job c.args.nest.now old new _ c.in_err-list.ensures.stopped traces))

pub returns-in_err-names-clause-stopped : goal.returns-in_err-names-clause-stopped
returns-in_err-names-clause-stopped g c =
    let p = err_from_is_err_and c.from_residual-in_err-names.result c.from_residual-in_err-names.ensures.1 in
    let job = merge_values c.args.job.now in
    let old = g.D.Disk.view c.args.disk.now in
    let new = g.D.Disk.view c.read_input.new.disk in
    let refused = subst (λ (t : List ℕ). RefusesText (list_refusal job.senders t) c.in_err-names.field-0.0)
    c.as_slice.ensures c.in_err-names.ensures.refused in
    rw p.1 (λ traces. subst (λ (k : Cause). StopsReading (sender_inputs job c.args.nest.now traces) old new k) (sym p.2)
    (list_text_stop job c.args.nest.now c.in_ok-list.list old new _ c.in_ok-list.ensures.input refused traces))

pub returns-in_err-check_listed-clause-stopped : goal.returns-in_err-check_listed-clause-stopped
returns-in_err-check_listed-clause-stopped g c =
    let p = err_from_is_err_and c.from_residual-in_err-check_listed.result
    c.from_residual-in_err-check_listed.ensures.1 in
    let job = merge_values c.args.job.now in
    let list = c.in_ok-list.list in
    let old = g.D.Disk.view c.args.disk.now in
    let new = g.D.Disk.view c.read_input.new.disk in
    let names : map (λ name. name.now) c.as_slice-2.result.now ≡ lines_of list =
    ap (map (λ name. name.now)) c.as_slice-2.ensures.value ∙ c.in_ok-names.ensures.names
    ∙ ap lines_of c.as_slice.ensures
    in
    let accepted = ap (list_refusal job.senders) (sym c.as_slice.ensures) ∙ c.in_ok-names.ensures.refused in
    rw p.1 (λ traces. subst (λ (k : Cause). StopsReading (sender_inputs job c.args.nest.now traces) old new k) (sym p.2)
    (listed_stop job c.args.nest.now list old new _ c.in_ok-list.ensures.input accepted
    c.read_input.ensures.only_reads (c.in_err-check_listed.ensures list names) traces))

pub returns-in_err-load_schedules-clause-stopped : goal.returns-in_err-load_schedules-clause-stopped
returns-in_err-load_schedules-clause-stopped g c =
    let p = err_from_is_err_and c.from_residual-in_err-load_schedules.result
    c.from_residual-in_err-load_schedules.ensures.1 in
    let job = merge_values c.args.job.now in
    let list = c.in_ok-list.list in
    let old = g.D.Disk.view c.args.disk.now in
    let mid = g.D.Disk.view c.read_input.new.disk in
    let new = g.D.Disk.view c.load_schedules.new.disk in
    let checked : map (λ name. name.now) c.as_slice-2.result.now ≡ lines_of list =
    ap (map (λ name. name.now)) c.as_slice-2.ensures.value ∙ c.in_ok-names.ensures.names
    ∙ ap lines_of c.as_slice.ensures
    in
    let names : map (λ name. name.now) c.as_slice-3.result.now ≡ lines_of list =
    ap (map (λ name. name.now)) c.as_slice-3.ensures.value ∙ c.in_ok-names.ensures.names
    ∙ ap lines_of c.as_slice.ensures
    in
    let accepted = ap (list_refusal job.senders) (sym c.as_slice.ensures) ∙ c.in_ok-names.ensures.refused in
    rw p.1 (λ traces. subst (λ (k : Cause). StopsReading (sender_inputs job c.args.nest.now traces) old new k) (sym p.2)
    (listed_schedules_stop job c.args.nest.now list _ old mid new _ c.in_ok-list.ensures.input accepted
    (c.in_ok-check_listed.ensures list checked) c.read_input.ensures.only_reads names
    c.in_err-load_schedules.ensures.stopped traces))

pub returns-clause-found : goal.returns-clause-found
returns-clause-found g c =
    let job = merge_values c.args.job.now in
    let list = c.in_ok-list.list in
    let old = g.D.Disk.view c.args.disk.now in
    let mid = g.D.Disk.view c.read_input.new.disk in
    let checked : map (λ name. name.now) c.as_slice-2.result.now ≡ lines_of list =
    ap (map (λ name. name.now)) c.as_slice-2.ensures.value ∙ c.in_ok-names.ensures.names
    ∙ ap lines_of c.as_slice.ensures
    in
    let names : map (λ name. name.now) c.as_slice-3.result.now ≡ lines_of list =
    ap (map (λ name. name.now)) c.as_slice-3.ensures.value ∙ c.in_ok-names.ensures.names
    ∙ ap lines_of c.as_slice.ensures
    in
    let accepted = ap (list_refusal job.senders) (sym c.as_slice.ensures) ∙ c.in_ok-names.ensures.refused in
    senders_found job c.args.nest.now list _ _ _ old mid c.in_ok-list.ensures.input accepted
    (c.in_ok-check_listed.ensures list checked) c.read_input.ensures.only_reads names
    c.in_ok-schedules.ensures.items c.in_ok-load_schedules.ensures.found

pub returns-clause-some : goal.returns-clause-some
returns-clause-some g c =
    let adds = c.in_ok-load_schedules.ensures.found in
    let all = ap length (adds.added ∙ ap (λ l. l ++ adds.more) c.in_ok-schedules.ensures.items) in
    let count = schedule_count adds.have in
    let names : length (map (λ name. name.now) c.as_slice-3.result.now) ≡ length c.in_ok-names.names.items =
    length-map c.as_slice-3.result.now (λ name. name.now) ∙ ap length c.as_slice-3.ensures.value in
    omega (arith, all, count, names, c.in_ok-names.ensures.some)

pub returns-clause-few : goal.returns-clause-few
returns-clause-few g c =
    let adds = c.in_ok-load_schedules.ensures.found in
    let all = ap length (adds.added ∙ ap (λ l. l ++ adds.more) c.in_ok-schedules.ensures.items) in
    let count = schedule_count adds.have in
    let names : length (map (λ name. name.now) c.as_slice-3.result.now) ≡ length c.in_ok-names.names.items =
    length-map c.as_slice-3.result.now (λ name. name.now) ∙ ap length c.as_slice-3.ensures.value in
    omega (arith, all, count, names, c.in_ok-names.ensures.few)

pub returns-clause-lines : goal.returns-clause-lines
returns-clause-lines g c =
    let adds = c.in_ok-load_schedules.ensures.found in
    let all = ap rows_in (adds.added ∙ ap (λ l. l ++ adds.more) c.in_ok-schedules.ensures.items) in
    let few = rows_few _ 0 _ adds.texts adds.more adds.have (omega arith) in
    omega (arith, all, few)
