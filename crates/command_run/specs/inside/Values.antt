-- What the values of the code mean.
use Rattle.std.specs.Prelude.{map, option_map, string_bytes}
use Rattle.command_run.specs.Run as run
use Rattle.command_run.specs.declared.run_job.RunJob.{RunJob}

-- the job as contracts see it
abbrev pub run_values : RunJob → run.RunJob
run_values job = record {
  horizon = job.horizon;
  schedule = job.schedule.now;
  out = job.out.now;
  table = option_map (λ s. s.now) job.table;
  seed = job.seed;
  plain = job.plain;
  order = option_map (λ s. s.now) job.order;
  shells = map string_bytes job.shells.now;
}
