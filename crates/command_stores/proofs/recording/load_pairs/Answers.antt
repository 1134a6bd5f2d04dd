use Rattle.std.proofs.Common.{List, ℕ, Ok, Err, subst, sym}
use Rattle.std.proofs.lemmas.Result.{err_from_is_err_and}
use Rattle.record_store.specs.Pairs.{Pairs}
use Rattle.command_ends.specs.Stops.{StopsReading}
use Rattle.command_ends.specs.declared.cause.Cause.{Cause}
use Rattle.command_stores.specs.Recording.{record_inputs}
use Rattle.command_stores.specs.inside.Values.{record_values}
use Rattle.command_stores.proofs.RecordLemmas.{client_stops, pairs_found, pairs_stop, server_stops}
use Rattle.command_stores.proofs.recording.load_pairs.Goals as goal

pub returns-in_err-client-clause-stopped : goal.returns-in_err-client-clause-stopped
returns-in_err-client-clause-stopped g c =
    let p = err_from_is_err_and c.from_residual.result c.from_residual.ensures.1 in
    let job = record_values c.args.job.now in
    let old = g.D.Disk.view c.args.disk.now in
    let new = g.D.Disk.view c.read_input.new.disk in
    rw p.1 (subst (λ (k : Cause). StopsReading (record_inputs job) old new k) (sym p.2)
    (client_stops job old new _ c.in_err-client.ensures.stopped))

pub returns-in_err-server-clause-stopped : goal.returns-in_err-server-clause-stopped
returns-in_err-server-clause-stopped g c =
    let p = err_from_is_err_and c.from_residual-in_err-server.result c.from_residual-in_err-server.ensures.1 in
    let job = record_values c.args.job.now in
    let old = g.D.Disk.view c.args.disk.now in
    let mid = g.D.Disk.view c.read_input.new.disk in
    let new = g.D.Disk.view c.read_input-2.new.disk in
    rw p.1 (subst (λ (k : Cause). StopsReading (record_inputs job) old new k) (sym p.2)
    (server_stops job old mid new c.in_ok-client.client _ c.in_ok-client.ensures.input
    c.read_input.ensures.only_reads c.in_err-server.ensures.stopped))

pub returns-in-Ok-clause-found : goal.returns-in-Ok-clause-found
returns-in-Ok-clause-found g c =
    let job = record_values c.args.job.now in
    let pairs = subst (λ (t : List ℕ). Pairs c.in_ok-client.client t job.port (Ok c.in-Ok.store)) c.as_slice-2.ensures
    (subst (λ (t : List ℕ). Pairs t c.as_slice-2.result.now job.port (Ok c.in-Ok.store)) c.as_slice.ensures
    c.in-Ok.ensures.pairs) in
    pairs_found job (g.D.Disk.view c.args.disk.now) (g.D.Disk.view c.read_input.new.disk) c.in_ok-client.client
    c.in_ok-server.server c.in-Ok.store c.in_ok-client.ensures.input c.read_input.ensures.only_reads
    c.in_ok-server.ensures.input pairs

pub returns-clause-stopped : goal.returns-clause-stopped
returns-clause-stopped g c =
    let job = record_values c.args.job.now in
    let pairs = subst (λ (t : List ℕ). Pairs c.in_ok-client.client t job.port (Err c.in-Err.error)) c.as_slice-2.ensures
    (subst (λ (t : List ℕ). Pairs t c.as_slice-2.result.now job.port (Err c.in-Err.error)) c.as_slice.ensures
    c.in-Err.ensures.pairs) in
    pairs_stop job (g.D.Disk.view c.args.disk.now) (g.D.Disk.view c.read_input.new.disk)
    (g.D.Disk.view c.read_input-2.new.disk) c.in_ok-client.client c.in_ok-server.server c.pair_cause.result
    c.in_ok-client.ensures.input c.read_input.ensures.only_reads c.in_ok-server.ensures.input
    (c.pair_cause.ensures c.in_ok-client.client c.in_ok-server.server pairs)
