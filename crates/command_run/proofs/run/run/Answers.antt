use Rattle.std.proofs.Common.{Some, subst, sym}
use Rattle.std.proofs.lemmas.Result.{err_from_is_err_and}
use Rattle.command_ends.specs.Ends.{Ends, offline}
use Rattle.command_ends.specs.Works.{only}
use Rattle.command_ends.specs.declared.cause.Cause.{Cause}
use Rattle.command_ends.proofs.EndLemmas.{ends_stopped, ends_written, finishes_later, keeps, keeps_all}
use Rattle.command_ends.proofs.CountLemmas.{reads_none}
use Rattle.command_ends.proofs.ReadingLemmas.{stops_later}
use Rattle.command_run.specs.inside.Passed.{passed_lists, passed_rows}
use Rattle.nest_command.specs.RunFiles.{run_files}
use Rattle.command_run.specs.Run.{GivesRun}
use Rattle.command_run.specs.RunReading.{run_inputs, run_reading}
use Rattle.command_run.specs.inside.Values.{run_values}
use Rattle.command_ends.proofs.AloneLemmas.{accepted_alone}
use Rattle.command_run.proofs.run.run.Goals as goal

pub returns-in_err-words-clause-ends : goal.returns-in_err-words-clause-ends
returns-in_err-words-clause-ends g c = λ out.
    let p = err_from_is_err_and c.from_residual.result c.from_residual.ensures.1 in
    let reading = run_reading (run_values c.args.job.now) in
    let old = g.D.Disk.view c.args.disk.now in
    rw p.1 (subst (λ (k : Cause). Ends (only GivesRun) reading (offline old out) (offline old out) (Some k)) (sym p.2)
    (ends_stopped (only GivesRun) reading old old out tt _ (keeps_all old) (c.in_err-words.ensures.read old)))

pub returns-in_err-run-clause-ends : goal.returns-in_err-run-clause-ends
returns-in_err-run-clause-ends g c = λ out.
    let p = err_from_is_err_and c.from_residual-in_err-run.result c.from_residual-in_err-run.ensures.1 in
    let job = run_values c.args.job.now in
    let old = g.D.Disk.view c.args.disk.now in
    let new = g.D.Disk.view c.run_packets.new.disk in
    rw p.1 (subst (λ (k : Cause). Ends (only GivesRun) (run_reading job) (offline old out) (offline new out) (Some k))
    (sym p.2)
    (ends_stopped (only GivesRun) (run_reading job) old new out tt _ (keeps c.run_packets.ensures.only_reads)
    (stops_later (run_reading job) (run_inputs job c.in_ok-words.words) old old new _ (c.in_ok-words.ensures.read old)
    (reads_none old) c.in_err-run.ensures.stopped)))

pub returns-clause-ends : goal.returns-clause-ends
returns-clause-ends g c = λ out.
    let job = run_values c.args.job.now in
    let old = g.D.Disk.view c.args.disk.now in
    let mid = g.D.Disk.view c.run_packets.new.disk in
    let new = g.D.Disk.view c.write_files.new.disk in
    ends_written (only GivesRun) (run_reading job) old mid new out tt tt
    (run_files job.table job.out (passed_rows c.in_ok-run.run') (passed_lists c.in_ok-run.run')) c.write_files.result
    (finishes_later (c.in_ok-words.ensures.read old) c.in_ok-run.ensures.found) c.run_packets.ensures.only_reads
    c.write_files.ensures.ok c.write_files.ensures.stopped

pub returns-in_err-run-clause-alone : goal.returns-in_err-run-clause-alone
returns-in_err-run-clause-alone g c = accepted_alone (run_reading (run_values c.args.job.now)) _ _ c.in_ok-words.ensures.accepts

pub returns-clause-alone : goal.returns-clause-alone
returns-clause-alone g c = accepted_alone (run_reading (run_values c.args.job.now)) _ _ c.in_ok-words.ensures.accepts
