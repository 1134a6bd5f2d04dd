use Rattle.std.proofs.Common.{◌≡◌}
use Rattle.std.specs.Vec.Iter.{into_iter_items}
use Rattle.packet_record.specs.Streams.{no_items}
use Rattle.nest_spec.specs.Nests.{AllFit}
use Rattle.shell_workers.specs.Stages.{AllFresh}
use Rattle.thread_tests.proofs.runner.parts.open_path.Given as goal

abbrev pub invariant-loop-spec : goal.invariant-loop-spec
invariant-loop-spec l = AllFresh l.list.items × (l.last.flow ≡ no_items) × (l.last.horizon ≡ l.horizon)
    × AllFit l.horizon (into_iter_items l.spec-iterator)
