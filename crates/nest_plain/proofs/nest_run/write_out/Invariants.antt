use Rattle.std.proofs.Common.{◌≡◌}
use Rattle.nest_spec.specs.RunViews.{all_named}
use Rattle.nest_plain.specs.Unwritten.{unwritten}
use Rattle.nest_plain.proofs.nest_run.write_out.Given as goal

abbrev pub invariant-loop-name : goal.invariant-loop-name
invariant-loop-name l = all_named l.list.items ≡ unwritten l.yielded
