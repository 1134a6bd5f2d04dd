use Rattle.record_store.proofs.PairLaws.{one_pairing}
use Rattle.record_store.proofs.pairing.pair.Goals as goal

pub returns-clause-exact : goal.returns-clause-exact
returns-clause-exact c = λ other says some some'. one_pairing c.args.client.now c.args.server.now c.args.port
    c.pair_streams.result other c.pair_streams.ensures says some some'
