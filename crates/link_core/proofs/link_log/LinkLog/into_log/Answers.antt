use Rattle.std.proofs.Common.{take, ap, ◌∙◌}
use Rattle.link_core.specs.Links.{link_log}
use Rattle.link_core.specs.inside.Written.{written}
use Rattle.link_core.specs.views.Span.{span_opps}
use Rattle.link_core.proofs.WholeLemmas.{whole_log}
use Rattle.link_core.proofs.link_log.LinkLog.into_log.Goals as goal

pub returns : goal.returns
returns c =
    let l = c.self.inside in
    let is = c.in_ok-parts.ensures in
    c.into_log.ensures
    ∙ whole_log l.burnt c.in_ok-parts.parts is.sound is.played l.queue (span_opps l.opportunities) l.arrivals.items
    is.spec
    (ap span_opps is.opportunities) is.arrivals
    ∙ ap (λ k. written k (link_log l.queue (take l.burnt (span_opps l.opportunities)) l.arrivals.items)) is.logged
    ∙ c.self.view_is
