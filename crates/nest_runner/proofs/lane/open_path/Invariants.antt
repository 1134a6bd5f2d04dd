use Rattle.std.proofs.Common.{◌≡◌, ◌++◌}
use Rattle.std.specs.Vec.Iter.{into_iter_items}
use Rattle.packet_record.specs.Streams.{no_items}
use Rattle.nest_spec.specs.Nests.{AllFit}
use Rattle.shell_workers.specs.Stages.{AllFresh}
use Rattle.nest_runner.specs.Lanes.{AllOwn, Linked, specs_of}
use Rattle.nest_runner.proofs.lane.open_path.Given as goal

abbrev pub invariant-loop-spec : goal.invariant-loop-spec
invariant-loop-spec l = AllFresh l.stages.items × (l.last.flow ≡ no_items) × (l.last.horizon ≡ l.horizon)
    × Linked l.fn.first.channel l.stages.items l.last.channel × AllOwn l.horizon l.stages.items
    × AllFit l.horizon (into_iter_items l.spec-iterator)
    × (specs_of l.stages.items ++ into_iter_items l.spec-iterator ≡ l.fn.specs.items)
