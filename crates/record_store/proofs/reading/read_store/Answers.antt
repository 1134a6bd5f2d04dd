use Rattle.record_store.proofs.StoreLaws.{one_outcome, read_back}
use Rattle.record_store.proofs.reading.read_store.Goals as goal

pub returns-clause-exact : goal.returns-clause-exact
returns-clause-exact c = λ other says some some'. one_outcome c.args.text.now c.read_text.result other
    c.read_text.ensures says some some'

pub returns-clause-back : goal.returns-clause-back
returns-clause-back c = λ rs is e. read_back c.args.text.now c.read_text.result c.read_text.ensures rs is e
