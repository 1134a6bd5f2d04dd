use Rattle.std.proofs.Common.{rules}
use Rattle.trace_reader.proofs.Counts.{moment_fits, at_value}
use Rattle.trace_reader.proofs.trace.Trace.opportunity.Goals as goal
use Rattle.trace_reader.proofs.trace.Trace.opportunity.Goals.{else-once-via-then-once+else-j-count}
use Rattle.trace_reader.proofs.trace.Trace.opportunity.Goals.{else-once-via-else-once}

pub overflow_add-result : goal.overflow_add-result
overflow_add-result c =
    let is = c.at-first.ensures.trace in
    moment_fits c.args.self.now.opportunities c.args.j c.len-count.result c.last_moment.result c.at-first.result
    c.requires is.rising is.last_most
    c.last_moment.ensures.last c.at-first.ensures.at

pub returns-clause-value : goal.returns-clause-value
returns-clause-value c =
    at_value c.args.self.now.opportunities c.args.once c.args.j c.len-count.result c.last_moment.result
    c.at-first.result _ _
    (elim c.else-once.branch [
      | else-once-via-then-once+else-j-count w ↦ λ t. search rules
      | else-once-via-else-once w ↦ λ t. search rules
    ])
    c.len-count.ensures.len c.last_moment.ensures.last c.at-first.ensures.at
