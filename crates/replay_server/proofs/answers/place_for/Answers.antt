use Rattle.std.proofs.Common.{List, subst}
use Rattle.record_store.specs.declared.record.Record.{Record}
use Rattle.request_match.specs.Match.{BestCause}
use Rattle.replay_server.proofs.answers.place_for.Goals as goal

pub returns : goal.returns
returns c =
    subst (λ (rs : List Record). BestCause c.args.head.now c.args.source.now.index.port rs c.best.result)
    c.args.source.now.same c.best.ensures
