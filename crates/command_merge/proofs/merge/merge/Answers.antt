use Rattle.std.proofs.Common.{Some, subst, sym}
use Rattle.std.proofs.lemmas.Result.{err_from_is_err_and}
use Rattle.command_ends.specs.Ends.{Ends, offline}
use Rattle.command_ends.specs.Works.{only}
use Rattle.command_ends.specs.declared.cause.Cause.{Cause}
use Rattle.command_ends.proofs.EndLemmas.{ends_stopped, ends_written, finishes_later, keeps, keeps_all}
use Rattle.command_ends.proofs.CountLemmas.{reads_none}
use Rattle.command_ends.proofs.ReadingLemmas.{stops_later}
use Rattle.command_merge.specs.Merge.{GivesMerge, merge_files}
use Rattle.command_merge.specs.inside.Merged.{merged_in}
use Rattle.command_merge.specs.MergeReading.{merge_inputs, merge_reading}
use Rattle.command_merge.specs.inside.Values.{merge_values}
use Rattle.command_ends.proofs.AloneLemmas.{accepted_alone}
use Rattle.command_merge.proofs.merge.merge.Goals as goal

pub returns-in_err-words-clause-ends : goal.returns-in_err-words-clause-ends
returns-in_err-words-clause-ends g c = λ out.
    let p = err_from_is_err_and c.from_residual.result c.from_residual.ensures.1 in
    let reading = merge_reading (merge_values c.args.job.now) in
    let old = g.D.Disk.view c.args.disk.now in
    rw p.1 (subst (λ (k : Cause). Ends (only GivesMerge) reading (offline old out) (offline old out) (Some k)) (sym p.2)
    (ends_stopped (only GivesMerge) reading old old out tt _ (keeps_all old) (c.in_err-words.ensures.read old)))

pub returns-in_err-merged-clause-ends : goal.returns-in_err-merged-clause-ends
returns-in_err-merged-clause-ends g c = λ out.
    let p = err_from_is_err_and c.from_residual-in_err-merged.result c.from_residual-in_err-merged.ensures.1 in
    let job = merge_values c.args.job.now in
    let old = g.D.Disk.view c.args.disk.now in
    let new = g.D.Disk.view c.merge_packets.new.disk in
    rw p.1 (subst (λ (k : Cause). Ends (only GivesMerge) (merge_reading job) (offline old out) (offline new out)
    (Some k))
    (sym p.2)
    (ends_stopped (only GivesMerge) (merge_reading job) old new out tt _ (keeps c.merge_packets.ensures.only_reads)
    (stops_later (merge_reading job) (merge_inputs job c.in_ok-words.words) old old new _
    (c.in_ok-words.ensures.read old)
    (reads_none old) c.in_err-merged.ensures.stopped)))

pub returns-clause-ends : goal.returns-clause-ends
returns-clause-ends g c = λ out.
    let job = merge_values c.args.job.now in
    let old = g.D.Disk.view c.args.disk.now in
    let mid = g.D.Disk.view c.merge_packets.new.disk in
    let new = g.D.Disk.view c.write_files.new.disk in
    ends_written (only GivesMerge) (merge_reading job) old mid new out tt tt
    (merge_files job.table job.out (merged_in c.in_ok-merged.merged.senders) c.in_ok-merged.merged.run) c.write_files.result
    (finishes_later (c.in_ok-words.ensures.read old) c.in_ok-merged.ensures.found) c.merge_packets.ensures.only_reads
    c.write_files.ensures.ok c.write_files.ensures.stopped

pub returns-in_err-merged-clause-alone : goal.returns-in_err-merged-clause-alone
returns-in_err-merged-clause-alone g c = accepted_alone (merge_reading (merge_values c.args.job.now)) _ _ c.in_ok-words.ensures.accepts

pub returns-clause-alone : goal.returns-clause-alone
returns-clause-alone g c = accepted_alone (merge_reading (merge_values c.args.job.now)) _ _ c.in_ok-words.ensures.accepts
