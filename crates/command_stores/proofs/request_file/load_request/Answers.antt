use Rattle.std.proofs.Common.{List, ℕ, subst, sym}
use Rattle.std.proofs.lemmas.Result.{err_from_is_err_and}
use Rattle.command_ends.specs.Causes.{Text}
use Rattle.command_ends.specs.Readings.{Done}
use Rattle.command_ends.specs.Stops.{StopsReading}
use Rattle.command_ends.specs.inside.Stops.{RefusesBy}
use Rattle.command_ends.specs.declared.cause.Cause.{Cause}
use Rattle.command_stores.specs.Requests.{IsOneRequest, RefusesRequest, RequestVerdict, reading_request}
use Rattle.command_stores.proofs.RequestLemmas.{request_at_file, request_judged}
use Rattle.command_stores.proofs.request_file.load_request.Goals as goal

pub returns-in_err-text-clause-stopped : goal.returns-in_err-text-clause-stopped
returns-in_err-text-clause-stopped g c =
    let p = err_from_is_err_and c.from_residual.result c.from_residual.ensures.1 in
    let name = c.args.name.now in
    let old = g.D.Disk.view c.args.disk.now in
    let new = g.D.Disk.view c.read_input.new.disk in
    rw p.1 (subst (λ (k : Cause). StopsReading (reading_request name Done) old new k) (sym p.2)
    (request_at_file name old new _ c.in_err-text.ensures.stopped))

pub returns-in-Ok-clause-found : goal.returns-in-Ok-clause-found
returns-in-Ok-clause-found g c = (
  c.in_ok-text.text,
  c.in_ok-text.ensures.input,
  subst (λ (t : List ℕ). IsOneRequest t c.in-Ok.head) c.as_slice.ensures c.in-Ok.ensures.whole,
)

pub returns-clause-stopped : goal.returns-clause-stopped
returns-clause-stopped g c =
    let name = c.args.name.now in
    let text = c.in_ok-text.text in
    let refused = subst (λ (t : List ℕ). RefusesRequest t c.in-Err.error) c.as_slice.ensures c.in-Err.ensures.refused in
    request_judged name (g.D.Disk.view c.args.disk.now) (g.D.Disk.view c.read_input.new.disk) text
    c.request_cause.result c.in_ok-text.ensures.input
    (subst (λ (n : Text). RefusesBy (RequestVerdict n text) c.request_cause.result) c.in_ok-from_text-in-Err.ensures
    (c.request_cause.ensures text refused))
