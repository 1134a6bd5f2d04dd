use Rattle.std.proofs.Common.{ℕ, ◌++◌, Bool, subst, sym}
use Rattle.link_core.specs.inside.Sound.{Sound}
use Rattle.link_core.specs.views.Span.{span_opps}
use Rattle.link_core.proofs.IdleBurns.{idle_burns}
use Rattle.link_core.proofs.parts.Parts.skip_to.Goals as goal

pub returns-clause-sound : goal.returns-clause-sound
returns-clause-sound g c =
    let now = c.args.self.now in
    let At : Bool → ℕ → Type 0 = λ k b. Sound now.buffer.queue.spec (span_opps now.opportunities) b
    (g.gone.come ++ now.arrived.come)
    now.buffer.packet now.buffer.used now.buffer.queue.packets
    (g.gone.departed ++ now.departed.items) now.buffer.queue.lost k (g.gone.log ++ now.log.entries)
    in
    let kept = c.requires.1.0 in
    subst (λ k. At k c.args.end) (sym kept)
    (idle_burns _ _ now.burnt c.args.end _ _ _ _ _ _ _ (subst (λ k. At k now.burnt) kept c.requires.0)
    c.requires.1.1.0 c.requires.1.1.1.1 c.requires.1.1.1.0)
