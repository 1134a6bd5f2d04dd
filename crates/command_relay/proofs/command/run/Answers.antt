use Rattle.std.proofs.Common.{◌∙◌, ap}
use Rattle.command_ends.specs.Ends.{outside}
use Rattle.command_ends.specs.Outputs.{Output, holding_all}
use Rattle.command_ends.proofs.CountLemmas.{reads_none}
use Rattle.command_ends.proofs.EndLemmas.{ends_handed, ends_unwritten, ends_whole, handed_stopped, keeps, keeps_all}
use Rattle.command_ends.proofs.ReadingLemmas.{stops_later}
use Rattle.live_relay.specs.declared.outcome.RelayResult.{RelayResult}
use Rattle.command_relay.specs.Jobs.{RelayJob}
use Rattle.command_relay.specs.Lines.{relay_line}
use Rattle.command_relay.specs.Relaying.{net, relay_files, relay_inputs, relay_reading, relay_work}
use Rattle.command_relay.specs.inside.Values.{relay_values}
use Rattle.command_relay.proofs.RelayLemmas.{ends_relaying, relay_finishes, some_relay_files}
use Rattle.command_ends.proofs.AloneLemmas.{accepted_alone}
use Rattle.command_relay.proofs.command.run.Goals as goal

abbrev output_of : RelayJob → RelayResult → Output
output_of job r = record { files = relay_files job r; printed = relay_line r }

pub returns-in_err-words-clause-ends : goal.returns-in_err-words-clause-ends
returns-in_err-words-clause-ends g c =
    handed_stopped relay_work (relay_reading (relay_values c.args.job.now)) _ _ _ _ _ c.from_residual.result
    c.from_residual.ensures.1 (keeps_all _) (c.in_err-words.ensures.read _)

pub returns-in_err-nest-clause-ends : goal.returns-in_err-nest-clause-ends
returns-in_err-nest-clause-ends g c =
    let job = relay_values c.args.job.now in
    let disk = g.D.Disk.view c.args.disk.now in
    handed_stopped relay_work (relay_reading job) _ _ _ _ _ c.from_residual-in_err-nest.result
    c.from_residual-in_err-nest.ensures.1 (keeps c.load_nest.ensures.only_reads)
    (stops_later (relay_reading job) (relay_inputs job c.in_ok-words.words) disk disk _ _
    (c.in_ok-words.ensures.read disk) (reads_none disk) c.in_err-nest.ensures.stopped)

pub returns-in_err-relayed-clause-ends : goal.returns-in_err-relayed-clause-ends
returns-in_err-relayed-clause-ends g c =
    let job = relay_values c.args.job.now in
    let disk = g.D.Disk.view c.args.disk.now in
    let mid = g.D.Disk.view c.load_nest.new.disk in
    let out = g.O.Sink.view c.args.out.now in
    let before = net (g.C.Clock.view c.args.clock.now) (g.W.Wire.view c.args.wire.now) in
    let after = net (g.C.Clock.view c.relay_job.new.clock) (g.W.Wire.view c.relay_job.new.wire) in
    ends_handed relay_work (relay_reading job) (outside disk out before) (outside mid out after) _
    c.from_residual-in_err-relayed.result c.from_residual-in_err-relayed.ensures.1
    (ends_relaying job c.in_ok-words.words c.in_ok-nest.nest disk mid out before after _
    (c.in_ok-words.ensures.read disk) c.in_ok-nest.ensures.found c.load_nest.ensures.only_reads
    c.in_err-relayed.ensures.stopped)

pub returns-in_err-write_relayed-clause-ends : goal.returns-in_err-write_relayed-clause-ends
returns-in_err-write_relayed-clause-ends g c =
    let job = relay_values c.args.job.now in
    let disk = g.D.Disk.view c.args.disk.now in
    let mid = g.D.Disk.view c.load_nest.new.disk in
    let new = g.D.Disk.view c.write_relayed.new.disk in
    let out = g.O.Sink.view c.args.out.now in
    let before = net (g.C.Clock.view c.args.clock.now) (g.W.Wire.view c.args.wire.now) in
    let after = net (g.C.Clock.view c.relay_job.new.clock) (g.W.Wire.view c.relay_job.new.wire) in
    let r = c.in_ok-relayed.relayed in
    ends_handed relay_work (relay_reading job) (outside disk out before) (outside new out after) _
    c.from_residual-in_err-write_relayed.result c.from_residual-in_err-write_relayed.ensures.1
    (ends_unwritten relay_work (relay_reading job) disk mid new out before after (output_of job r) _
    (relay_finishes job c.in_ok-words.words c.in_ok-nest.nest disk.files (c.in_ok-words.ensures.read disk)
    c.in_ok-nest.ensures.found before after r c.args.job.now.few c.in_ok-words.ensures.small
    c.in_ok-relayed.ensures.relayed)
    c.load_nest.ensures.only_reads c.in_err-write_relayed.ensures.stopped)

pub returns-clause-ends : goal.returns-clause-ends
returns-clause-ends g c =
    let job = relay_values c.args.job.now in
    let disk = g.D.Disk.view c.args.disk.now in
    let new = g.D.Disk.view c.write_relayed.new.disk in
    let before = net (g.C.Clock.view c.args.clock.now) (g.W.Wire.view c.args.wire.now) in
    let after = net (g.C.Clock.view c.relay_job.new.clock) (g.W.Wire.view c.relay_job.new.wire) in
    let r = c.in_ok-relayed.relayed in
    ends_whole relay_work (relay_reading job) (outside disk (g.O.Sink.view c.args.out.now) before)
    (outside new (g.O.Sink.view c.print_relayed.new.out) after) (output_of job r) c.print_relayed.result
    (relay_finishes job c.in_ok-words.words c.in_ok-nest.nest disk.files (c.in_ok-words.ensures.read disk)
    c.in_ok-nest.ensures.found before after r c.args.job.now.few c.in_ok-words.ensures.small
    c.in_ok-relayed.ensures.relayed)
    (c.in_ok-write_relayed.ensures.ok
    ∙ ap (holding_all (relay_files job r)) c.load_nest.ensures.only_reads.same_files)
    (λ none. absurd (some_relay_files job r none)) c.print_relayed.ensures.ok c.print_relayed.ensures.stopped

pub returns-in_err-nest-clause-alone : goal.returns-in_err-nest-clause-alone
returns-in_err-nest-clause-alone g c =
    accepted_alone (relay_reading (relay_values c.args.job.now)) _ _ c.in_ok-words.ensures.accepts

pub returns-in_err-relayed-clause-alone : goal.returns-in_err-relayed-clause-alone
returns-in_err-relayed-clause-alone g c =
    accepted_alone (relay_reading (relay_values c.args.job.now)) _ _ c.in_ok-words.ensures.accepts

pub returns-in_err-write_relayed-clause-alone : goal.returns-in_err-write_relayed-clause-alone
returns-in_err-write_relayed-clause-alone g c =
    accepted_alone (relay_reading (relay_values c.args.job.now)) _ _ c.in_ok-words.ensures.accepts

pub returns-clause-alone : goal.returns-clause-alone
returns-clause-alone g c =
    accepted_alone (relay_reading (relay_values c.args.job.now)) _ _ c.in_ok-words.ensures.accepts
