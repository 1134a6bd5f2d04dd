use Rattle.std.proofs.Common.{subst, sym}
use Rattle.nest_runner.specs.Streaming.{HasStreamCause}
use Rattle.command_ends.specs.Readings.{Done}
use Rattle.command_ends.specs.Stops.{StopsReading}
use Rattle.nest_command.specs.Inputs.{reading_schedule}
use Rattle.command_run.proofs.StreamLemmas.{streamed_run}
use Rattle.command_run.proofs.passing.stream_packets.Goals as goal

pub returns-in-Ok-clause-found : goal.returns-in-Ok-clause-found
returns-in-Ok-clause-found g c =
    streamed_run (g.D.Disk.view c.args.disk.now).files c.args.name.now c.args.nest.now c.in-Ok.schedule c.in-Ok.run'
    c.in-Ok.ensures.schedule c.in-Ok.ensures.value c.in-Ok.ensures.once

pub returns-in_ok-from_text-in-Err-clause-stopped : goal.returns-in_ok-from_text-in-Err-clause-stopped
returns-in_ok-from_text-in-Err-clause-stopped g c =
    let old = g.D.Disk.view c.args.disk.now in
    let new = g.D.Disk.view c.run_stream_keeping.new.disk in
    let error = c.in-Err.error in
    let named = c.in_ok-from_text-in-Err.ensures in
    subst (λ name. StopsReading (reading_schedule name Done) old new c.stream_cause.result) named
    (c.stream_cause.ensures old new (subst (λ name. HasStreamCause old new name error) (sym named)
    c.in-Err.ensures.stopped))
