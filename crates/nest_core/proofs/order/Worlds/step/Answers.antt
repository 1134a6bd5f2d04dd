use Rattle.std.proofs.Common.{◌≡◌, ◌≤◌, ◌<◌, ◌-◌, arith}
use Rattle.nest_core.specs.WorldSteps.{actors_of}
use Rattle.nest_core.specs.views.Worlds.{worlds_view}
use Rattle.nest_core.proofs.Ordering.{stepped_up, stepped_down}
use Rattle.nest_core.proofs.order.Worlds.step.Goals as goal

pub returns-then-number-first-clause-ok : goal.returns-then-number-first-clause-ok
returns-then-number-first-clause-ok c =
    let count = c.actors-first.ensures.count in
    let lt = c.if-number-first.true in
    let under : c.args.number < actors_of c.self.inside.up = omega arith in
    stepped_up (worlds_view c.self.inside) c.args.self.now c.args.number c.step.new.self c.step.result c.self.view_is
    under c.step.ensures.ok

pub returns-else-number-first-clause-ok : goal.returns-else-number-first-clause-ok
returns-else-number-first-clause-ok c =
    let count = c.actors-first.ensures.count in
    let le = c.if-number-first.false in
    let past : actors_of c.self.inside.up ≤ c.args.number = omega arith in
    stepped_down (worlds_view c.self.inside) c.args.self.now c.args.number _ c.step-else-number-first.new.self
    c.step-else-number-first.result c.self.view_is past
    (let same : c.args.number - c.actors-first.result ≡ c.args.number - actors_of c.self.inside.up = omega arith
    in same) c.step-else-number-first.ensures.ok
