use Rattle.std.proofs.Common.{◌≡◌, ◌++◌, ◌<◌, ◌∷◌, ℕ, List, [], Option, Some, None, length, refl, ap, sym, subst, ◌∙◌}
use Rattle.std.proofs.Common.{arith, append-nil, OnOk, IfErr}
use Rattle.std.specs.List.{flat_map}
use Rattle.std.proofs.lemmas.Result.{err_from_is_err_and}
use Rattle.mm_base.specs.Sink.{SinkView, CountsSinkFaults, sending}
use Rattle.mm_base.proofs.SinkLemmas.{sent_more}
use Rattle.mm_base.proofs.Then.{CountsFaults-then}
use Rattle.log_report.specs.declared.bins.Bin.{Bin}
use Rattle.log_report.specs.Series.{still_of}
use Rattle.log_report.specs.SeriesText.{bin_line, series_text}
use Rattle.command_ends.specs.Stops.{StopsPrinting}
use Rattle.command_ends.specs.declared.cause.Cause.{Cause}
use Rattle.command_report.proofs.SeriesLemmas.{some_lines, some_next, next_of, none_of, one_line, part_sent}
use Rattle.command_report.proofs.SeriesLemmas.{last_piece, all_sent, piece_stops, stops_making, stops_piece}
use Rattle.command_report.proofs.series.print_series.Goals as goal

pub returns-in_err-bin-clause-stopped : goal.returns-in_err-bin-clause-stopped
returns-in_err-bin-clause-stopped g c =
    let p = err_from_is_err_and c.from_residual-in_err-bin.result c.from_residual-in_err-bin.ensures.1 in
    let inv = c.bins.invariant.so_far in
    let err = c.in_err-bin.ensures.err in
    rw p.1 (stops_making (series_text c.args.every c.args.log.now.entries) inv.0
    (c.bins.text ++ flat_map bin_line (still_of c.bins.series)) (g.O.Sink.view c.args.out.now)
    (g.O.Sink.view c.bins.out) p.0 inv.1 (some_lines (still_of c.bins.series) c.bins.text err.1) inv.2
    p.2)

pub returns-in_err-print_bin-clause-stopped : goal.returns-in_err-print_bin-clause-stopped
returns-in_err-print_bin-clause-stopped g c =
    let p = err_from_is_err_and c.from_residual-in_err-print_bin.result c.from_residual-in_err-print_bin.ensures.1 in
    let inv = c.bins.invariant.so_far in
    let still = still_of c.bins.series in
    let next = next_of c.in_ok-bin.field-0 c.in-Some.bin still (still_of c.next.new.self) c.in-Some.is
    c.in_ok-bin.ensures.ok in
    rw p.1 (stops_making (series_text c.args.every c.args.log.now.entries) inv.0
    (c.bins.text ++ flat_map bin_line still) (g.O.Sink.view c.args.out.now) (g.O.Sink.view c.bins.out) p.0 inv.1
    (some_lines still c.bins.text (some_next c.in-Some.bin still (still_of c.next.new.self) next)) inv.2 p.2)

pub bins-preserved : goal.bins-preserved
bins-preserved g c =
    let inv = c.bins.invariant.so_far in
    let still = still_of c.bins.series in
    let after = still_of c.next.new.self in
    let next = next_of c.in_ok-bin.field-0 c.in-Some.bin still after c.in-Some.is c.in_ok-bin.ensures.ok in
    let sent = c.in_ok-print_if_long.ensures.ok in
    let whole = series_text c.args.every c.args.log.now.entries in
    record {
      so_far = (
        inv.0 ++ sent.0,
        part_sent whole inv.0 c.print_bin.new.out sent.0 c.print_if_long.new.text (flat_map bin_line after)
            (one_line whole inv.0 c.bins.text c.print_bin.new.out c.in-Some.bin still after inv.1 next
            c.in_ok-print_bin.ensures) sent.1,
        sent_more (g.O.Sink.view c.args.out.now).written (g.O.Sink.view c.bins.out).written
            (g.O.Sink.view c.print_if_long.new.out).written inv.0 sent.0 inv.2 sent.2,
      );
      counts = CountsFaults-then c.bins.invariant.counts c.print_if_long.ensures.counts;
    }

pub returns-in_err-print_if_long-clause-stopped : goal.returns-in_err-print_if_long-clause-stopped
returns-in_err-print_if_long-clause-stopped g c =
    let p = err_from_is_err_and c.from_residual-in_err-print_if_long.result
    c.from_residual-in_err-print_if_long.ensures.1 in
    let inv = c.bins.invariant.so_far in
    let still = still_of c.bins.series in
    let after = still_of c.next.new.self in
    let next = next_of c.in_ok-bin.field-0 c.in-Some.bin still after c.in-Some.is c.in_ok-bin.ensures.ok in
    let whole = series_text c.args.every c.args.log.now.entries in
    let old = g.O.Sink.view c.args.out.now in
    let mid = g.O.Sink.view c.bins.out in
    let new = g.O.Sink.view c.print_if_long.new.out in
    rw p.1 (subst (λ (k : Cause). StopsPrinting whole old new k) (sym p.2)
    (stops_piece whole inv.0 c.print_bin.new.out (flat_map bin_line after) old mid new c.in_err-print_if_long.field-0.0
    (one_line whole inv.0 c.bins.text c.print_bin.new.out c.in-Some.bin still after inv.1 next
    c.in_ok-print_bin.ensures) inv.2 c.bins.invariant.counts c.in_err-print_if_long.ensures.stopped))

pub returns-clause-ok : goal.returns-clause-ok
returns-clause-ok g c =
    let inv = c.bins.invariant.so_far in
    let still = still_of c.bins.series in
    let whole = series_text c.args.every c.args.log.now.entries in
    all_sent c.print.result whole inv.0 c.as_slice.result.now c.bins.text (g.O.Sink.view c.args.out.now)
    (g.O.Sink.view c.bins.out) (g.O.Sink.view c.print.new.out)
    (last_piece whole inv.0 c.bins.text still inv.1
    (none_of c.in_ok-bin.field-0 still (still_of c.next.new.self) c.in_default.is c.in_ok-bin.ensures.ok))
    c.as_slice.ensures inv.2 c.print.ensures.ok

pub returns-clause-stopped : goal.returns-clause-stopped
returns-clause-stopped g c =
    let inv = c.bins.invariant.so_far in
    let still = still_of c.bins.series in
    let whole = series_text c.args.every c.args.log.now.entries in
    piece_stops c.print.result whole inv.0 c.as_slice.result.now c.bins.text (g.O.Sink.view c.args.out.now)
    (g.O.Sink.view c.bins.out) (g.O.Sink.view c.print.new.out)
    (last_piece whole inv.0 c.bins.text still inv.1
    (none_of c.in_ok-bin.field-0 still (still_of c.next.new.self) c.in_default.is c.in_ok-bin.ensures.ok))
    c.as_slice.ensures inv.2 c.bins.invariant.counts c.print.ensures.stopped
