use Rattle.std.proofs.Common.{subst, ◌≡◌}
use Rattle.packet_record.specs.declared.item.FlowEnd.TheVariants.{Ended}
use Rattle.shell_state.specs.States.{State}
use Rattle.shell_state.specs.Promises.{KeepsUp, ForetellsMore, GoesOn, IsFinished}
use Rattle.shell_state.proofs.Foretelling.{foretells_more, finished}
use Rattle.shell_state.proofs.GoingOn.{keeps_up, goes_on}
use Rattle.shell_state.proofs.state.ShellState.promises.Goals as goal

pub returns-clause-keeps_up : goal.returns-clause-keeps_up
returns-clause-keeps_up c = subst KeepsUp c.self.view_is (keeps_up _ c.self.invariant.whole.stands)

pub returns-clause-foretells : goal.returns-clause-foretells
returns-clause-foretells c = subst ForetellsMore c.self.view_is (foretells_more _ c.self.invariant.whole.stands)

pub returns-clause-goes_on : goal.returns-clause-goes_on
returns-clause-goes_on c = subst GoesOn c.self.view_is (goes_on _ c.self.invariant.whole.stands)

pub returns-clause-finished : goal.returns-clause-finished
returns-clause-finished c =
    let Ends : State → Type 0 = λ v. v.taken.end ≡ Ended → IsFinished v in
    subst Ends c.self.view_is (finished _ c.self.invariant.whole.stands)
