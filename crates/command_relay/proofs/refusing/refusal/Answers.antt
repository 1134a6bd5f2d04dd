use Rattle.std.proofs.Common.{ap, inl, map, string_bytes}
use Rattle.std.specs.Result.{result_ok}
use Rattle.command_ends.proofs.CountLemmas.{reads_none}
use Rattle.command_ends.proofs.ReadingLemmas.{stops_later}
use Rattle.command_relay.specs.Relaying.{relay_inputs, relay_reading}
use Rattle.command_relay.specs.inside.Values.{relay_values}
use Rattle.command_relay.proofs.RefusingLemmas.{refused_handed, refused_output, stops_words, words_read}
use Rattle.command_relay.proofs.RefusingLemmas.{words_refused}
use Rattle.command_relay.proofs.RelayLemmas.{task_of, task_reached}
use Rattle.command_relay.proofs.refusing.refusal.Goals as goal

pub returns-in_err-nest-in-Ok-clause-refused : goal.returns-in_err-nest-in-Ok-clause-refused
returns-in_err-nest-in-Ok-clause-refused g c =
    let words = map string_bytes c.args.words.now in
    let disk = g.D.Disk.view c.args.disk.now in
    refused_handed words c.args.name.now disk disk _ c.from_residual-in_err-nest-in-Ok.result
    c.from_residual-in_err-nest-in-Ok.ensures.1
    (stops_words words disk disk _ _
    (words_read words _ _ (ap result_ok c.in-Ok.is) c.in_ok-job.ensures)
    (c.in_err-nest-in-Ok.ensures.read disk))

pub returns-in_err-load_nest-in-Ok-clause-refused : goal.returns-in_err-load_nest-in-Ok-clause-refused
returns-in_err-load_nest-in-Ok-clause-refused g c =
    let words = map string_bytes c.args.words.now in
    let job = relay_values c.in-Ok.job in
    let disk = g.D.Disk.view c.args.disk.now in
    let new = g.D.Disk.view c.load_nest.new.disk in
    refused_handed words c.args.name.now disk new _ c.from_residual-in_err-load_nest-in-Ok.result
    c.from_residual-in_err-load_nest-in-Ok.ensures.1
    (stops_words words disk new _ _
    (words_read words _ _ (ap result_ok c.in-Ok.is) c.in_ok-job.ensures)
    (stops_later (relay_reading job) (relay_inputs job c.in_ok-nest-in-Ok.nest) disk disk new _
    (c.in_ok-nest-in-Ok.ensures.read disk) (reads_none disk) c.in_err-load_nest-in-Ok.ensures.stopped))

pub returns-in_ok-from_text-in-Ok-clause-refused : goal.returns-in_ok-from_text-in-Ok-clause-refused
returns-in_ok-from_text-in-Ok-clause-refused g c =
    let words = map string_bytes c.args.words.now in
    let job = relay_values c.in-Ok.job in
    let disk = g.D.Disk.view c.args.disk.now in
    let has = c.in_ok-load_nest-in-Ok.ensures.found in
    refused_output words c.args.name.now _ disk _ _ (task_of job c.in_ok-nest-in-Ok.nest has.texts)
    c.in_ok-from_text-in-Ok.ensures (words_read words _ _ (ap result_ok c.in-Ok.is) c.in_ok-job.ensures)
    (task_reached job c.in_ok-nest-in-Ok.nest c.in_ok-load_nest-in-Ok.field-0 disk.files
    (c.in_ok-nest-in-Ok.ensures.read disk) has)

pub returns-in-Err-clause-refused : goal.returns-in-Err-clause-refused
returns-in-Err-clause-refused g c =
    inl (words_refused (map string_bytes c.args.words.now) _ (g.D.Disk.view c.args.disk.now) _
    (ap result_ok c.in-Err.is) c.in_ok-job.ensures c.usage.ensures)
