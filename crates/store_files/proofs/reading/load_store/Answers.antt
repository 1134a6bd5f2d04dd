use Rattle.std.proofs.Common.{false, subst, sym}
use Rattle.std.proofs.lemmas.Result.{err_from_is_err_and}
use Rattle.command_ends.specs.Causes.{Text}
use Rattle.command_ends.specs.Readings.{Done}
use Rattle.command_ends.specs.Stops.{StopsReading}
use Rattle.command_ends.specs.inside.Stops.{RefusesBy}
use Rattle.command_ends.specs.declared.cause.Cause.{Cause}
use Rattle.store_files.specs.Stores.{StoreVerdict, reading_store}
use Rattle.store_files.proofs.StoreLemmas.{store_at_file, store_judged}
use Rattle.store_files.proofs.reading.load_store.Goals as goal

pub returns-in_err-reader-clause-stopped : goal.returns-in_err-reader-clause-stopped
returns-in_err-reader-clause-stopped g c =
    let p = err_from_is_err_and c.from_residual.result c.from_residual.ensures.1 in
    let name = c.args.name.now in
    let old = g.D.Disk.view c.args.disk.now in
    let new = g.D.Disk.view c.read_store_file.new.disk in
    rw p.1 (subst (λ (k : Cause). StopsReading (reading_store name Done) old new k) (sym p.2)
    (store_at_file false name old new _ c.in_err-reader.ensures.stopped))

pub returns-in-Ok-clause-found : goal.returns-in-Ok-clause-found
returns-in-Ok-clause-found g c =
    let read = c.in_ok-reader.ensures.read in
    (read.0, read.1, c.in-Ok.ensures.says read.0 read.2)

pub returns-in_ok-from_text-in-Err-clause-stopped : goal.returns-in_ok-from_text-in-Err-clause-stopped
returns-in_ok-from_text-in-Err-clause-stopped g c =
    let name = c.args.name.now in
    let read = c.in_ok-reader.ensures.read in
    store_judged false name (g.D.Disk.view c.args.disk.now) (g.D.Disk.view c.read_store_file.new.disk) read.0
    c.store_cause.result read.1
    (subst (λ (n : Text). RefusesBy (StoreVerdict false n read.0) c.store_cause.result) c.in_ok-from_text-in-Err.ensures
    (c.store_cause.ensures false read.0 (c.in-Err.ensures.says read.0 read.2)))
