use Rattle.std.proofs.Common.{[], subst, sym, ◌∙◌}
use Rattle.std.proofs.lemmas.List.{append-nil}
use Rattle.packet_record.specs.Gathered.{Awaits}
use Rattle.packet_record.specs.Schedules.{AreRows}
use Rattle.packet_record.proofs.gathering.ScheduleRows.finish.Goals as goal

pub returns-in-None-clause-found : goal.returns-in-None-clause-found
returns-in-None-clause-found c = λ all awaits.
    let rows = c.self.inside.rows.items in
    let inside = subst (Awaits all []) (sym c.self.view_is) awaits in
    subst (AreRows 1 0 all) (append-nil rows ∙ sym c.from_rows.ensures) (inside.rows_are c.in-None.is [] tt)
