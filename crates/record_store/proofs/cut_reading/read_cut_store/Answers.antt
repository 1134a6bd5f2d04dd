use Rattle.std.proofs.Common.{true}
use Rattle.record_store.proofs.CutTextLaws.{outcome_as}
use Rattle.record_store.proofs.cut_reading.read_cut_store.Goals as goal

pub returns-clause-exact : goal.returns-clause-exact
returns-clause-exact c = λ other says some some'. outcome_as true c.args.text.now c.read_uncut.result other
    c.read_uncut.ensures says some some'
