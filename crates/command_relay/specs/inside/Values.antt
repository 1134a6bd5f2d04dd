-- What the values of the code stand for.
use Rattle.std.specs.Prelude.{map, option_map, string_bytes}
use Rattle.command_relay.specs.Jobs as jobs
use Rattle.command_relay.specs.declared.job.RelayJob.{RelayJob}

abbrev pub relay_values : RelayJob → jobs.RelayJob
relay_values job = record {
  horizon = job.horizon;
  listen = job.listen;
  to = job.to;
  turns = job.turns;
  out = job.out.now;
  table = option_map (λ s. s.now) job.table;
  schedule_out = option_map (λ s. s.now) job.schedule_out;
  seed = job.seed;
  shells = map string_bytes job.shells.now;
}
