use Rattle.std.proofs.Common.{◌≡◌, ◌++◌, ◌∷◌, [], List, Ok, drop, length, ap, sym, subst, rules, arith, ◌∙◌}
use Rattle.packet_record.specs.declared.packet.Timed.{Timed}
use Rattle.packet_record.specs.Moments.{AreUpTo}
use Rattle.trace_reader.specs.Opps.{up_to}
use Rattle.link_core.specs.views.Arriving.{Arriving}
use Rattle.link_core.specs.views.Span.{Span, span_opps}
use Rattle.link_core.proofs.CountLemmas.{counted}
use Rattle.link_core.proofs.CoverLemmas.{within_after}
use Rattle.link_core.proofs.parts.Parts.arrive.Goals as goal

pub enter-requires : goal.enter-requires
enter-requires c =
    let t = c.args.t in
    let m = t.moment in
    let os = span_opps c.args.self.now.opportunities in
    let same : span_opps c.burn_to.new.self.opportunities ≡ os = ap span_opps (c.burn_to.ensures.link.opportunities
    ∙ c.reserve-2.ensures.link.opportunities ∙ c.count_from-end.ensures.same) in
    let end : c.burn_to.new.self.burnt ≡ length (up_to m os) = c.burn_to.ensures.burnt
    ∙ c.count_from-end.ensures.count in
    let arrived = c.burn_to.ensures.arrived ∙ c.reserve-2.ensures.arrived in
    let come : c.push.new.self.come ≡ c.args.self.now.arrived.come = c.push.ensures.come
    ∙ ap (λ (a : Arriving). a.come) arrived ∙ c.reserve.ensures.come in
    let coming : c.push.new.self.coming ≡ t ∷ [] =
    c.push.ensures.coming
    ∙ ap (λ (ts : List Timed). ts ++ t ∷ []) (ap (λ (a : Arriving). a.coming) arrived ∙ c.reserve.ensures.coming
    ∙ c.requires.settled.1)
    in (
      rw c.push.ensures.come c.burn_to.ensures.sound,
      (
        record {
          next = coming ∙ ap (λ (ts : List Timed). t ∷ drop 1 ts) (sym coming);
          short = search rules;
          order = subst (AreUpTo m) (sym come) c.requires.order;
          burnt = rw (end, same) (counted m os c.requires.settled.0.order).0;
          later = rw (end, same) (counted m os c.requires.settled.0.order).1;
        },
        record {
          queue = c.burn_to.ensures.room.queue;
          departures = c.burn_to.ensures.room.departures;
          entries = omega (arith, c.burn_to.ensures.room.entries);
        },
      ),
    )

pub returns-clause-settled : goal.returns-clause-settled
returns-clause-settled c =
    let t = c.args.t in
    let old = c.args.self.now in
    let new = c.enter.new.self in
    let arrived = c.burn_to.ensures.arrived ∙ c.reserve-2.ensures.arrived in
    let come : c.push.new.self.come ≡ old.arrived.come = c.push.ensures.come
    ∙ ap (λ (a : Arriving). a.come) arrived ∙ c.reserve.ensures.come in
    let coming : c.push.new.self.coming ≡ t ∷ [] =
    c.push.ensures.coming
    ∙ ap (λ (ts : List Timed). ts ++ t ∷ []) (ap (λ (a : Arriving). a.coming) arrived ∙ c.reserve.ensures.coming
    ∙ c.requires.settled.1)
    in
    let opportunities : new.opportunities ≡ old.opportunities = c.enter.ensures.link.opportunities
    ∙ c.burn_to.ensures.link.opportunities ∙ c.reserve-2.ensures.link.opportunities ∙ c.count_from-end.ensures.same in
    let come_is : new.arrived.come ≡ old.arrived.come ++ t ∷ [] =
    c.enter.ensures.come ∙ ap (λ (ts : List Timed). ts ++ t ∷ []) come in
    let up = within_after old.opportunities.horizon old.arrived.come new.arrived.come t (Ok tt) (Unit {0})
    c.requires.settled.2 c.requires.within come_is tt in (
      c.enter.ensures.sound,
      c.enter.ensures.coming ∙ ap (λ (ts : List Timed). drop 1 ts) coming,
      subst (λ (v : Span). AreUpTo v.horizon new.arrived.come) (sym opportunities) up,
    )
