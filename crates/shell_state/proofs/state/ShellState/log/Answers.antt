use Rattle.std.proofs.Common.{◌≡◌, List, subst}
use Rattle.std.specs.Prelude.{IfOk}
use Rattle.packet_record.specs.declared.item.FlowEnd.TheVariants.{Ended}
use Rattle.shell_log.specs.declared.entry.Entry.{Entry}
use Rattle.shell_state.specs.Shells.{whole_log}
use Rattle.shell_state.specs.Wholes.{if_link}
use Rattle.shell_state.specs.States.{State}
use Rattle.shell_state.proofs.Foretelling.{finished}
use Rattle.shell_state.proofs.state.ShellState.log.Goals as goal

pub returns-clause-whole : goal.returns-clause-whole
returns-clause-whole c =
    let Whole : State → Type 0 = λ s. s.taken.end ≡ Ended → IfOk c.log.result
    (λ log. log ≡ if_link s.spec (whole_log s.spec s.horizon s.fed.packets))
    in
    let So : List Entry → Type 0 = λ es. IfOk c.log.result (λ log. log ≡ if_link c.self.inside.core.spec es) in
    subst Whole c.self.view_is (λ ended. subst So (finished _ c.self.invariant.whole.stands ended).log c.log.ensures)
