use Rattle.std.proofs.Common.{◌≤◌, List, length, ap, ◌∙◌, rules}
use Rattle.std.proofs.lemmas.List.{take_all}
use Rattle.trace_reader.specs.declared.opportunity.Opportunity.{Opportunity}
use Rattle.trace_reader.specs.TraceText.{trace_text}
use Rattle.trace_reader.proofs.TextLaws.{printed_text}
use Rattle.trace_reader.proofs.printing.print_trace.Goals as goal

pub returns-clause-read : goal.returns-clause-read
returns-clause-read c =
    let list = c.args.trace.now.opportunities in
    let past : length c.args.trace.now.opportunities ≤ c.loop-packed.packed-index = search rules in
    let all = c.loop-packed.invariant
    ∙ ap (λ (l : List Opportunity). trace_text (record c.args.trace.now { opportunities = l }))
    (take_all c.loop-packed.packed-index list past) in
    printed_text c.loop-packed.out c.args.trace.now c.form-form.ensures.trace all
