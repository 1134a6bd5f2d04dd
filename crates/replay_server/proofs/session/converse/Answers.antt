use Rattle.std.proofs.Common.{sym, subst}
use Rattle.mm_base.specs.Link.{LinkView}
use Rattle.mm_base.proofs.Then.{CountsFaults-none}
use Rattle.replay_server.specs.inside.Progress.{Progress}
use Rattle.replay_server.specs.declared.session_state.SessionState.{SessionState}
use Rattle.replay_server.proofs.StepLemmas.{progress_first}
use Rattle.replay_server.proofs.session.converse.Goals as goal

pub steps-init : goal.steps-init
steps-init g c =
    let told = (g.L.Link.view c.args.link.now).told in
    record {
      progress = subst (λ (t : SessionState). Progress c.args.server.now.source.store.now
          c.args.server.now.source.index.port told told t)
          (sym c.new-state.ensures) (progress_first told);
      counts = CountsFaults-none (λ (l : LinkView). l.faults) (λ (l : LinkView). l.never_fails) _;
      room = c.requires;
    }
