use Rattle.std.proofs.Common.{true, ℕ, List, Ok, Err, subst, sym}
use Rattle.std.proofs.lemmas.Result.{err_from_is_err_and}
use Rattle.record_store.specs.CutText.{CutSays}
use Rattle.command_ends.specs.Causes.{Text}
use Rattle.command_ends.specs.Readings.{Done}
use Rattle.command_ends.specs.Stops.{StopsReading}
use Rattle.command_ends.specs.inside.Stops.{RefusesBy}
use Rattle.command_ends.specs.declared.cause.Cause.{Cause}
use Rattle.store_files.specs.Stores.{StoreVerdict, reading_store_as}
use Rattle.store_files.proofs.StoreLemmas.{store_at_file, store_judged}
use Rattle.store_files.proofs.reading.load_uncut.Goals as goal

pub returns-in_err-text-clause-stopped : goal.returns-in_err-text-clause-stopped
returns-in_err-text-clause-stopped g c =
    let p = err_from_is_err_and c.from_residual.result c.from_residual.ensures.1 in
    let name = c.args.name.now in
    let old = g.D.Disk.view c.args.disk.now in
    let new = g.D.Disk.view c.read_input.new.disk in
    rw p.1 (subst (λ (k : Cause). StopsReading (reading_store_as true name Done) old new k) (sym p.2)
    (store_at_file true name old new _ c.in_err-text.ensures.stopped))

pub returns-in-Ok-clause-found : goal.returns-in-Ok-clause-found
returns-in-Ok-clause-found g c = (
  c.in_ok-text.text,
  c.in_ok-text.ensures.input,
  subst (λ (l : List ℕ). CutSays l (Ok c.in-Ok.store)) c.as_slice.ensures c.in-Ok.ensures.says,
)

pub returns-clause-stopped : goal.returns-clause-stopped
returns-clause-stopped g c =
    let name = c.args.name.now in
    let text : List ℕ = c.in_ok-text.text in
    store_judged true name (g.D.Disk.view c.args.disk.now) (g.D.Disk.view c.read_input.new.disk) text
    c.store_cause.result c.in_ok-text.ensures.input
    (subst (λ (n : Text). RefusesBy (StoreVerdict true n text) c.store_cause.result) c.in_ok-from_text-in-Err.ensures
    (c.store_cause.ensures true text
    (subst (λ (l : List ℕ). CutSays l (Err c.in-Err.error)) c.as_slice.ensures c.in-Err.ensures.says)))
