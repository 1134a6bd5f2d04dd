-- What the values of the code mean.
use Rattle.std.specs.Prelude.{map, option_map, string_bytes}
use Rattle.command_merge.specs.Merge as merge
use Rattle.command_merge.specs.declared.job.MergeJob.{MergeJob}

-- the job as contracts see it
abbrev pub merge_values : MergeJob → merge.MergeJob
merge_values job = record {
  horizon = job.horizon;
  senders = job.senders.now;
  out = job.out.now;
  table = option_map (λ s. s.now) job.table;
  seed = job.seed;
  shells = map string_bytes job.shells.now;
}
