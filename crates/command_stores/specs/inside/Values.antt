-- What the values of the code mean.
use Rattle.command_stores.specs.Matching as matching
use Rattle.command_stores.specs.Migrating as migrating
use Rattle.command_stores.specs.Recording as recording
use Rattle.command_stores.specs.Replaying as replaying
use Rattle.command_stores.specs.declared.matching.MatchJob.{MatchJob}
use Rattle.command_stores.specs.declared.migrating.MigrateJob.{MigrateJob}
use Rattle.command_stores.specs.declared.recording.RecordJob.{RecordJob}
use Rattle.command_stores.specs.declared.replay_job.ReplayJob.{ReplayJob}

-- the job of `record` as contracts see it
abbrev pub record_values : RecordJob → recording.RecordJob
record_values job = record { client = job.client.now; server = job.server.now; out = job.out.now; port = job.port }

-- the job of `match` as contracts see it
abbrev pub match_values : MatchJob → matching.MatchJob
match_values job = record { store = job.store.now; request = job.request.now; port = job.port }

-- the job of `migrate` as contracts see it
abbrev pub migrate_values : MigrateJob → migrating.MigrateJob
migrate_values job = record { store = job.store.now; out = job.out.now; cut = job.cut }

-- the job of `replay` as contracts see it
abbrev pub replay_values : ReplayJob → replaying.ReplayJob
replay_values job =
    record {
      store = job.store.now;
      port = job.port;
      connections = job.connections;
      site_port = job.site_port;
      until_ended = job.until_ended;
    }
