use Rattle.std.proofs.Common.{◌*◌, ◌/◌, ◌+◌, ◌%◌, List, IsTrue, length, ap, ◌∙◌, rules}
use Rattle.trace_reader.specs.declared.opportunity.Opportunity.{Opportunity}
use Rattle.trace_reader.specs.Opps.{up_to}
use Rattle.trace_reader.proofs.Counts.{count_once, count_laps}
use Rattle.trace_reader.proofs.CountLaws.{which_counted}
use Rattle.trace_reader.proofs.trace.Trace.count_to.Goals as goal

pub returns-then-once-clause-which : goal.returns-then-once-clause-which
returns-then-once-clause-which c =
    which_counted c.args.self.now c.args.once c.args.h c.count_up_to.result c.list-list.ensures.trace
    (count_once c.args.self.now.opportunities c.args.once c.args.h c.count_up_to.result c.if-once.true
    (c.count_up_to.ensures.count ∙ ap (λ (l : List Opportunity). length (up_to c.args.h l)) c.list-list.ensures.list))

pub returns-clause-which : goal.returns-clause-which
returns-clause-which c =
    let is = c.list-list.ensures.trace in
    let list = c.list-list.ensures.list in
    let lap = c.last_moment-lap.result in
    let count = length c.list-list.result.now in
    let not_once : IsTrue c.args.once → ⊥ = λ t. search rules in
    which_counted c.args.self.now c.args.once c.args.h (c.args.h / lap * count + c.count_up_to-2.result) is
    (count_laps c.args.self.now.opportunities c.args.once c.args.h c.count_up_to-2.result count lap not_once is.rising
    c.last_moment-lap.ensures.last (ap length list)
    (c.count_up_to-2.ensures.count ∙ ap (λ (l : List Opportunity). length (up_to (c.args.h % lap) l)) list))
