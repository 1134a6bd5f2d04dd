use Rattle.std.proofs.Common.{◌≡◌, ◌++◌}
use Rattle.std.specs.Vec.Iter.{into_iter_items}
use Rattle.nest_spec.specs.Passed.{HavePassed}
use Rattle.shell_workers.specs.Stages.{AllDone}
use Rattle.nest_runner.specs.Lanes.{AllOwn, Linked, specs_of}
use Rattle.nest_runner.proofs.Carrying.{does, passed_on}
use Rattle.nest_runner.proofs.lane.close_stages.Given as goal

abbrev pub invariant-loop-stage : goal.invariant-loop-stage
invariant-loop-stage l = AllDone (into_iter_items l.stage-iterator)
    × Linked l.to.channel (into_iter_items l.stage-iterator) l.fn.last.channel
    × AllOwn l.fn.head.horizon (into_iter_items l.stage-iterator)
    × HavePassed l.fn.head.horizon (does l.states.items) l.fn.head.flow.packets l.states.items
    × (l.to.flow.packets ≡ passed_on l.fn.head.flow.packets l.states.items)
    × (does l.states.items ++ specs_of (into_iter_items l.stage-iterator) ≡ specs_of l.fn.stages.items)
