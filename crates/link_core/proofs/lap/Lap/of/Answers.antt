use Rattle.std.proofs.Common.{◌/◌}
use Rattle.trace_reader.specs.Opps.{last_moment}
use Rattle.link_core.proofs.LapLemmas.{is_lap, start_fits}
use Rattle.link_core.proofs.lap.Lap.of.Goals as goal

pub overflow_mul-result-2 : goal.overflow_mul-result-2
overflow_mul-result-2 c =
    let trace = c.args.trace.now.opportunities in
    let last = c.last_moment.ensures.last in
    rw (c.from.ensures, last) (start_fits c.args.j c.len-count.result (last_moment trace) c.requires
    c.len-count.ensures.trace.last_most)

pub returns-clause-lap : goal.returns-clause-lap
returns-clause-lap c =
    let trace = c.args.trace.now.opportunities in
    let is = c.len-count.ensures.trace in
    rw c.from.ensures (is_lap trace (c.args.j / c.len-count.result) c.len-count.result _ is.some
    c.len-count.ensures.len c.last_moment.ensures.last)
