use Rattle.command_ends.specs.Works.{only}
use Rattle.command_ends.proofs.AloneLemmas.{accepted_alone}
use Rattle.command_ends.proofs.CountLemmas.{reads_none}
use Rattle.command_ends.proofs.EndLemmas.{ends_written, finishes_later, handed_stopped, keeps, keeps_all}
use Rattle.command_ends.proofs.ReadingLemmas.{stops_later}
use Rattle.command_stores.specs.Recording.{GivesRecord, record_inputs, record_reading}
use Rattle.command_stores.specs.inside.Values.{record_values}
use Rattle.store_files.specs.Written.{store_file}
use Rattle.command_stores.proofs.recording.make_store.Goals as goal

pub returns-in_err-check_record-clause-ends : goal.returns-in_err-check_record-clause-ends
returns-in_err-check_record-clause-ends g c = λ out.
    handed_stopped (only GivesRecord) (record_reading (record_values c.args.job.now)) _ _ out tt _ c.from_residual.result
    c.from_residual.ensures.1 (keeps_all _) (c.in_err-check_record.ensures.read _)

pub returns-in_err-store-clause-ends : goal.returns-in_err-store-clause-ends
returns-in_err-store-clause-ends g c = λ out.
    let job = record_values c.args.job.now in
    let old = g.D.Disk.view c.args.disk.now in
    handed_stopped (only GivesRecord) (record_reading job) _ _ out tt _ c.from_residual-in_err-store.result
    c.from_residual-in_err-store.ensures.1 (keeps c.load_pairs.ensures.only_reads)
    (stops_later (record_reading job) (record_inputs job) _ _ _ _ (c.in_ok-check_record.ensures.read old) (reads_none old)
    c.in_err-store.ensures.stopped)

pub returns-clause-ends : goal.returns-clause-ends
returns-clause-ends g c = λ out.
    let job = record_values c.args.job.now in
    let old = g.D.Disk.view c.args.disk.now in
    ends_written (only GivesRecord) (record_reading job) old (g.D.Disk.view c.load_pairs.new.disk)
    (g.D.Disk.view c.write_store.new.disk) out tt tt
    (store_file job.out c.in_ok-store.store) c.write_store.result
    (finishes_later (c.in_ok-check_record.ensures.read old) c.in_ok-store.ensures.found)
    c.load_pairs.ensures.only_reads c.write_store.ensures.ok c.write_store.ensures.stopped

pub returns-in_err-store-clause-alone : goal.returns-in_err-store-clause-alone
returns-in_err-store-clause-alone g c =
    accepted_alone (record_reading (record_values c.args.job.now)) _ _ c.in_ok-check_record.ensures.accepts

pub returns-clause-alone : goal.returns-clause-alone
returns-clause-alone g c =
    accepted_alone (record_reading (record_values c.args.job.now)) _ _ c.in_ok-check_record.ensures.accepts
