use Rattle.std.proofs.Common.{◌≡◌, List, OnOk, rules, subst}
use Rattle.std.specs.Vec.Iter.{into_iter_items}
use Rattle.packet_record.specs.declared.packet.Row.{Row}
use Rattle.packet_record.specs.declared.packet.Timed.{Timed}
use Rattle.nest_spec.specs.declared.fate.Fate.{Fate}
use Rattle.nest_spec.specs.Fates.{fated}
use Rattle.nest_spec.specs.inside.Marks.{marked_through}
use Rattle.nest_plain.proofs.Passing.{departed_rise, departed_within}
use Rattle.nest_plain.proofs.shell.run_from_first.Goals as goal

pub run_shells-requires-2-clause-rises : goal.run_shells-requires-2-clause-rises
run_shells-requires-2-clause-rises c =
    let went = c.in_ok-departed.ensures in
    departed_rise c.in-Some.shell.spec c.args.arrivals.now.horizon c.in_ok-arrived.arrived.items
    c.in_ok-departed.departed.items went.built went.departed c.in_ok-arrived.ensures.rise

pub run_shells-requires-2-clause-within : goal.run_shells-requires-2-clause-within
run_shells-requires-2-clause-within c =
    let went = c.in_ok-departed.ensures in
    departed_within c.in-Some.shell.spec c.args.arrivals.now.horizon c.in_ok-arrived.arrived.items
    c.in_ok-departed.departed.items went.built went.departed c.in_ok-arrived.ensures.within

pub returns-clause-fates : goal.returns-clause-fates
returns-clause-fates c =
    let old = c.args.marking.now in
    subst
    (λ (packets : List Timed). OnOk c.run_shells-2.result ((f : Row → Fate) → old.fates ≡ fated f old.rows
    → c.run_shells-2.new.marking.fates
    ≡ fated (marked_through c.args.arrivals.now.horizon (into_iter_items c.args.shells) packets f) old.rows))
    c.in_ok-arrived.ensures.packets (search rules)
