use Rattle.std.proofs.Common.{ℕ, Bool, List, Ok, IfOk, subst, sym}
use Rattle.record_store.specs.CutText.{SaysAs}
use Rattle.command_ends.specs.Stops.{IsInput}
use Rattle.store_files.proofs.reading.load_store_as.Goals as goal

pub returns-then-may_end_cut-clause-found : goal.returns-then-may_end_cut-clause-found
returns-then-may_end_cut-clause-found g c = subst (λ (may : Bool). IfOk c.load_uncut.result (λ store. ((text : List ℕ)
    × IsInput (g.D.Disk.view c.args.disk.now).files c.args.name.now text × SaysAs may text (Ok store))))
    (sym c.if-may_end_cut.true) c.load_uncut.ensures.found

pub returns-else-may_end_cut-clause-found : goal.returns-else-may_end_cut-clause-found
returns-else-may_end_cut-clause-found g c = subst (λ (may : Bool). IfOk c.load_store.result (λ store. ((text : List ℕ)
    × IsInput (g.D.Disk.view c.args.disk.now).files c.args.name.now text × SaysAs may text (Ok store))))
    (sym c.if-may_end_cut.false) c.load_store.ensures.found
