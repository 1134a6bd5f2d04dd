use Rattle.std.proofs.Common.{◌∙◌, ap, set}
use Rattle.nest_spec.specs.declared.fate.FateRow.{FateRow}
use Rattle.nest_spec.specs.views.MarkedRows.{rows_in}
use Rattle.nest_spec.proofs.MarkLemmas.{puts_here, puts_none}
use Rattle.nest_spec.proofs.marking.put.Goals as goal

pub returns-in-Some-clause-fates : goal.returns-in-Some-clause-fates
returns-in-Some-clause-fates c = λ f e.
    ap (set c.args.list.now.items c.in-Some.place)
    (c.new.ensures ∙ ap (λ (r : FateRow). record r { fate = c.args.fate }) c.row-row.ensures)
    ∙ puts_here c.args.id c.args.fate f (rows_in c.args.rows) c.in-Some.place c.index.result.now
    c.args.list.now.items c.in-Some.ensures c.index.ensures e

pub returns-in_default-clause-fates : goal.returns-in_default-clause-fates
returns-in_default-clause-fates c = λ f e. puts_none c.args.id c.args.fate f (rows_in c.args.rows) c.args.list.now.items
    c.in_default.ensures e
