use Rattle.command_ends.specs.Ends.{outside}
use Rattle.command_ends.proofs.EndLemmas.{ends_handed, ends_unwritten, ends_whole}
use Rattle.record_proxy.specs.Proxying.{proxy_output, proxy_reading, proxy_work}
use Rattle.record_proxy.specs.Servings.{net}
use Rattle.record_proxy.specs.inside.Values.{proxy_values}
use Rattle.record_proxy.proofs.CommandLemmas.{ends_serving, finishes, reads_nothing}
use Rattle.record_proxy.proofs.command.record.Goals as goal

pub returns-in_err-served-clause-ends : goal.returns-in_err-served-clause-ends
returns-in_err-served-clause-ends g c =
    let job = proxy_values c.args.job.now in
    let out = g.O.Sink.view c.args.out.now in
    let disk = g.D.Disk.view c.args.disk.now in
    let before = net (g.P.Port.view c.args.port.now) (g.X.Dialer.view c.args.dialer.now) in
    let after = net (g.P.Port.view c.serve_job.new.port) (g.X.Dialer.view c.serve_job.new.dialer) in
    ends_handed (proxy_work g.P.Conn.Link.view g.X.Conn.Link.view) (proxy_reading job) (outside disk out before)
    (outside disk out after) _ c.from_residual.result c.from_residual.ensures.1
    (ends_serving g.P.Conn.Link.view g.X.Conn.Link.view job disk out before after _ c.in_err-served.ensures.stopped)

pub returns-in_err-write_recorded-clause-ends : goal.returns-in_err-write_recorded-clause-ends
returns-in_err-write_recorded-clause-ends g c =
    let job = proxy_values c.args.job.now in
    let out = g.O.Sink.view c.args.out.now in
    let disk = g.D.Disk.view c.args.disk.now in
    let written = g.D.Disk.view c.write_recorded.new.disk in
    let before = net (g.P.Port.view c.args.port.now) (g.X.Dialer.view c.args.dialer.now) in
    let after = net (g.P.Port.view c.serve_job.new.port) (g.X.Dialer.view c.serve_job.new.dialer) in
    let work = proxy_work g.P.Conn.Link.view g.X.Conn.Link.view in
    let records = c.serve_job.new.store in
    ends_handed work (proxy_reading job) (outside disk out before) (outside written out after) _
    c.from_residual-in_err-write_recorded.result c.from_residual-in_err-write_recorded.ensures.1
    (ends_unwritten work (proxy_reading job) disk disk written out before after
    (proxy_output job records c.in_ok-served.served) _
    (finishes g.P.Conn.Link.view g.X.Conn.Link.view job disk.files before after records c.in_ok-served.served
    c.in_ok-served.ensures.served c.in_ok-served.ensures.asks)
    (reads_nothing disk) c.in_err-write_recorded.ensures.stopped)

pub returns-clause-ends : goal.returns-clause-ends
returns-clause-ends g c =
    let job = proxy_values c.args.job.now in
    let out = g.O.Sink.view c.args.out.now in
    let disk = g.D.Disk.view c.args.disk.now in
    let before = net (g.P.Port.view c.args.port.now) (g.X.Dialer.view c.args.dialer.now) in
    let after = net (g.P.Port.view c.serve_job.new.port) (g.X.Dialer.view c.serve_job.new.dialer) in
    let records = c.serve_job.new.store in
    ends_whole (proxy_work g.P.Conn.Link.view g.X.Conn.Link.view) (proxy_reading job) (outside disk out before)
    (outside (g.D.Disk.view c.write_recorded.new.disk) (g.O.Sink.view c.print_served.new.out) after)
    (proxy_output job records c.in_ok-served.served) c.print_served.result
    (finishes g.P.Conn.Link.view g.X.Conn.Link.view job disk.files before after records c.in_ok-served.served
    c.in_ok-served.ensures.served c.in_ok-served.ensures.asks)
    c.in_ok-write_recorded.ensures.ok c.in_ok-write_recorded.ensures.unwritten c.print_served.ensures.ok
    c.print_served.ensures.stopped
