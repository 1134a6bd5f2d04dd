use Rattle.command_ends.specs.Ends.{outside}
use Rattle.command_ends.specs.Readings.{Done}
use Rattle.command_ends.proofs.EndLemmas.{ends_handed, ends_printed, handed_stopped, keeps}
use Rattle.store_files.proofs.StoreLemmas.{store_stops}
use Rattle.store_files.specs.ServedLine.{served_line}
use Rattle.command_stores.specs.Replaying.{replay_reading, serve_work}
use Rattle.command_stores.specs.inside.Values.{replay_values}
use Rattle.command_stores.proofs.ReplayLemmas.{ends_serving, finishes}
use Rattle.command_stores.proofs.replaying.replay.Goals as goal

pub returns-in_err-store-clause-ends : goal.returns-in_err-store-clause-ends
returns-in_err-store-clause-ends g c =
    let job = replay_values c.args.job.now in
    handed_stopped (serve_work g.P.Conn.Link.view) (replay_reading job) _ _ _ _ _ c.from_residual.result
    c.from_residual.ensures.1 (keeps c.load_store.ensures.only_reads)
    (store_stops _ _ job.store _ (λ store. Done (record { job = job; store = store })) c.in_err-store.ensures.stopped)

pub returns-in_err-served-clause-ends : goal.returns-in_err-served-clause-ends
returns-in_err-served-clause-ends g c =
    let job = replay_values c.args.job.now in
    let out = g.O.Sink.view c.args.out.now in
    let old = g.D.Disk.view c.args.disk.now in
    let new = g.D.Disk.view c.load_store.new.disk in
    let before = g.P.Port.view c.args.port.now in
    let after = g.P.Port.view c.serve_job.new.port in
    let found = c.in_ok-store.ensures.found in
    ends_handed (serve_work g.P.Conn.Link.view) (replay_reading job) (outside old out before) (outside new out after)
    _ c.from_residual-in_err-served.result c.from_residual-in_err-served.ensures.1
    (ends_serving g.P.Conn.Link.view job old new out before after found.0 _ found.1 found.2
    c.load_store.ensures.only_reads _ c.in_err-served.ensures.stopped)

pub returns-clause-ends : goal.returns-clause-ends
returns-clause-ends g c =
    let job = replay_values c.args.job.now in
    let out = g.O.Sink.view c.args.out.now in
    let old = g.D.Disk.view c.args.disk.now in
    let new = g.D.Disk.view c.load_store.new.disk in
    let before = g.P.Port.view c.args.port.now in
    let after = g.P.Port.view c.serve_job.new.port in
    let found = c.in_ok-store.ensures.found in
    ends_printed (serve_work g.P.Conn.Link.view) (replay_reading job) (outside old out before)
    (outside new (g.O.Sink.view c.print_served.new.out) after) (served_line c.in_ok-served.served)
    c.print_served.result
    (finishes g.P.Conn.Link.view job old new out before after found.0 _ found.1 found.2
    c.load_store.ensures.only_reads c.in_ok-served.served c.in_ok-served.ensures.served
    c.in_ok-served.ensures.listened)
    (keeps c.load_store.ensures.only_reads) c.print_served.ensures.ok c.print_served.ensures.stopped
