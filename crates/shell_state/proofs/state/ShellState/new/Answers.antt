use Rattle.shell_state.proofs.Answering.{whole_new}
use Rattle.shell_state.proofs.state.ShellState.new.Goals as goal

pub invariant_of-result : goal.invariant_of-result
invariant_of-result c = record {
  whole = whole_new c.args.spec c.args.horizon _ _ _ c.in_ok-core.ensures.built
      c.in_ok-core.ensures.is c.new-2.ensures c.new-3.ensures;
}
