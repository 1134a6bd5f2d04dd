use Rattle.std.proofs.Common.{subst, sym}
use Rattle.std.proofs.lemmas.Result.{err_from_is_err_and}
use Rattle.command_ends.specs.Stops.{StopsReading}
use Rattle.command_ends.specs.declared.cause.Cause.{Cause}
use Rattle.command_stores.specs.Matching.{match_reading}
use Rattle.command_stores.specs.inside.Values.{match_values}
use Rattle.command_stores.proofs.MatchLemmas.{best_found, request_stop, store_stop}
use Rattle.command_stores.proofs.matching.find_best.Goals as goal

pub returns-in_err-store-clause-stopped : goal.returns-in_err-store-clause-stopped
returns-in_err-store-clause-stopped g c =
    let p = err_from_is_err_and c.from_residual.result c.from_residual.ensures.1 in
    let job = match_values c.args.job.now in
    let old = g.D.Disk.view c.args.disk.now in
    let new = g.D.Disk.view c.load_store.new.disk in
    rw p.1 (subst (λ (k : Cause). StopsReading (match_reading job) old new k) (sym p.2)
    (store_stop job old new _ c.in_err-store.ensures.stopped))

pub returns-in_err-request-clause-stopped : goal.returns-in_err-request-clause-stopped
returns-in_err-request-clause-stopped g c =
    let p = err_from_is_err_and c.from_residual-in_err-request.result c.from_residual-in_err-request.ensures.1 in
    let job = match_values c.args.job.now in
    let old = g.D.Disk.view c.args.disk.now in
    let mid = g.D.Disk.view c.load_store.new.disk in
    let new = g.D.Disk.view c.load_request.new.disk in
    let found = c.in_ok-store.ensures.found in
    rw p.1 (subst (λ (k : Cause). StopsReading (match_reading job) old new k) (sym p.2)
    (request_stop job old mid new found.0 c.in_ok-store.store _ found.1 found.2 c.load_store.ensures.only_reads
    c.in_err-request.ensures.stopped))

pub returns-clause-found : goal.returns-clause-found
returns-clause-found g c =
    let job = match_values c.args.job.now in
    let found = c.in_ok-store.ensures.found in
    let asked = c.in_ok-request.ensures.found in
    best_found job (g.D.Disk.view c.args.disk.now) (g.D.Disk.view c.load_store.new.disk) found.0 asked.0
    c.in_ok-store.store c.in_ok-request.request c.best_number.result found.1 found.2
    c.load_store.ensures.only_reads asked.1 asked.2 c.best_number.ensures
