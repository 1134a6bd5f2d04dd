use Rattle.std.proofs.Common.{false, rules}
use Rattle.shell_state.specs.inside.Fronts.{no_front}
use Rattle.shell_state.specs.views.Whole.{state_of}
use Rattle.shell_state.proofs.Answering.{licence_ended}
use Rattle.shell_state.proofs.parts.licence.Goals as goal

pub returns-in-Ended : goal.returns-in-Ended
returns-in-Ended c = licence_ended (state_of c.args.core.now c.args.fed no_front false) c.horizon.result c.in-Ended.is
    c.horizon.ensures.is

pub returns-in-Open : goal.returns-in-Open
returns-in-Open c = search rules
