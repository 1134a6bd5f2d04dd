use Rattle.std.proofs.Common.{◌∙◌, sym}
use Rattle.std.proofs.lemmas.Result.{IfOk-weaker}
use Rattle.nest_core.proofs.Changing.{receives_behind}
use Rattle.nest_core.proofs.line.+receive.Goals as goal

pub returns-clause-did : goal.returns-clause-did
returns-clause-did t c =
    IfOk-weaker c.receive-2.result _ _ (λ did e. e
    ∙ sym (receives_behind c.args.shell c.args.channel.now c.args.stations.now c.in-Some.station.now
    c.in-Some.rest.now c.in-Some.ensures.cases.0 c.if-shell-eq0-2.false))
    c.receive-2.ensures.did
