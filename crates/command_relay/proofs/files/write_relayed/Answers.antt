use Rattle.mm_base.proofs.Then.{OnlyWrites-then}
use Rattle.nest_spec.specs.RunViews.{all_named}
use Rattle.command_ends.specs.Stops.{StopsWriting}
use Rattle.command_relay.specs.Relaying.{relay_files}
use Rattle.command_relay.specs.inside.Values.{relay_values}
use Rattle.command_relay.proofs.FileLemmas.{handed, relay_written, stops_at_fates, stops_at_logs, stops_at_schedule}
use Rattle.command_relay.proofs.FileLemmas.{stops_at_table}
use Rattle.command_relay.proofs.files.write_relayed.Goals as goal

pub returns-in_err-write_whole_logs-clause-stopped : goal.returns-in_err-write_whole_logs-clause-stopped
returns-in_err-write_whole_logs-clause-stopped g c =
    let job = relay_values c.args.job.now in
    let r = c.args.relayed.now in
    let old = g.D.Disk.view c.args.disk.now in
    let new = g.D.Disk.view c.write_whole_logs.new.disk in
    handed (StopsWriting (relay_files job r) old new) _ c.from_residual.result c.from_residual.ensures.1
    (stops_at_logs job r (all_named c.logs.result.now) c.as_slice-rows.result.now c.fates-fates.result.now c.logs.ensures
    c.as_slice-rows.ensures c.fates-fates.ensures old new _ c.in_err-write_whole_logs.ensures.stopped)

pub returns-in_err-write_table-clause-stopped : goal.returns-in_err-write_table-clause-stopped
returns-in_err-write_table-clause-stopped g c =
    let job = relay_values c.args.job.now in
    let r = c.args.relayed.now in
    let old = g.D.Disk.view c.args.disk.now in
    let one = g.D.Disk.view c.write_whole_logs.new.disk in
    let new = g.D.Disk.view c.write_table.new.disk in
    handed (StopsWriting (relay_files job r) old new) _ c.from_residual-in_err-write_table.result
    c.from_residual-in_err-write_table.ensures.1
    (stops_at_table job r (all_named c.logs.result.now) c.as_slice-rows.result.now c.fates-fates.result.now c.logs.ensures
    c.as_slice-rows.ensures c.fates-fates.ensures old one new _ c.in_ok-write_whole_logs.ensures.ok
    c.write_whole_logs.ensures.only_writes c.in_err-write_table.ensures.stopped)

pub returns-in_err-write_schedule-clause-stopped : goal.returns-in_err-write_schedule-clause-stopped
returns-in_err-write_schedule-clause-stopped g c =
    let job = relay_values c.args.job.now in
    let r = c.args.relayed.now in
    let old = g.D.Disk.view c.args.disk.now in
    let one = g.D.Disk.view c.write_whole_logs.new.disk in
    let two = g.D.Disk.view c.write_table.new.disk in
    let new = g.D.Disk.view c.write_schedule.new.disk in
    handed (StopsWriting (relay_files job r) old new) _ c.from_residual-in_err-write_schedule.result
    c.from_residual-in_err-write_schedule.ensures.1
    (stops_at_schedule job r (all_named c.logs.result.now) c.as_slice-rows.result.now c.fates-fates.result.now c.logs.ensures
    c.as_slice-rows.ensures c.fates-fates.ensures old one two new _ c.in_ok-write_whole_logs.ensures.ok
    c.in_ok-write_table.ensures.ok
    (OnlyWrites-then c.write_whole_logs.ensures.only_writes c.write_table.ensures.only_writes)
    c.in_err-write_schedule.ensures.stopped)

pub returns-clause-stopped : goal.returns-clause-stopped
returns-clause-stopped g c =
    let job = relay_values c.args.job.now in
    let r = c.args.relayed.now in
    let old = g.D.Disk.view c.args.disk.now in
    let one = g.D.Disk.view c.write_whole_logs.new.disk in
    let two = g.D.Disk.view c.write_table.new.disk in
    let three = g.D.Disk.view c.write_schedule.new.disk in
    let new = g.D.Disk.view c.write_fates.new.disk in
    stops_at_fates job r (all_named c.logs.result.now) c.as_slice-rows.result.now c.fates-fates.result.now c.logs.ensures
    c.as_slice-rows.ensures c.fates-fates.ensures c.write_fates.result old one two three new
    c.in_ok-write_whole_logs.ensures.ok c.in_ok-write_table.ensures.ok c.in_ok-write_schedule.ensures.ok
    (OnlyWrites-then (OnlyWrites-then c.write_whole_logs.ensures.only_writes c.write_table.ensures.only_writes)
    c.write_schedule.ensures.only_writes)
    c.write_fates.ensures.partly c.write_fates.ensures.stopped

pub returns-clause-ok : goal.returns-clause-ok
returns-clause-ok g c =
    relay_written (relay_values c.args.job.now) c.args.relayed.now (all_named c.logs.result.now) c.as_slice-rows.result.now
    c.fates-fates.result.now c.logs.ensures c.as_slice-rows.ensures c.fates-fates.ensures c.write_fates.result _ _ _ _ _
    c.in_ok-write_whole_logs.ensures.ok c.in_ok-write_table.ensures.ok c.in_ok-write_schedule.ensures.ok
    c.write_fates.ensures.ok
