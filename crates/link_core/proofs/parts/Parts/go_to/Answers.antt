use Rattle.std.proofs.Common.{◌≡◌, ◌++◌, ◌∷◌, drop, length, ap, sym, subst, arith, ◌∙◌}
use Rattle.trace_reader.specs.Opps.{up_to}
use Rattle.link_core.specs.Promises.{count_to}
use Rattle.link_core.specs.views.Arriving.{Arriving}
use Rattle.link_core.specs.views.Span.{span_opps}
use Rattle.link_core.proofs.CountLemmas.{counted}
use Rattle.link_core.proofs.PlayLemmas.{next_order, next_in_time, next_within, playable_entered}
use Rattle.link_core.proofs.SoundLemmas.{behind}
use Rattle.link_core.proofs.parts.Parts.go_to.Goals as goal

pub enter-requires : goal.enter-requires
enter-requires g c =
    let now = c.burning.self in
    let t = c.args.t in
    let m = t.moment in
    let os = span_opps now.opportunities in
    let h = now.opportunities.horizon in
    let last = c.args._last in
    let come = g.gone.come ++ now.arrived.come in
    let coming = now.arrived.coming in
    let was = c.burning.invariant in
    let next = subst (λ (a : Arriving). a.coming ≡ t ∷ drop 1 a.coming) (sym was.arrived) c.requires.1.1.0 in
    let room = was.room in
    let none = c.in_default.ensures.due in
    let most = c.due.ensures.horizon in
    let in_time = next_in_time os h last now.burnt come coming was.playable t next in
    let within = next_within os h last now.burnt come coming was.playable t next in
    let end : now.burnt ≡ length (up_to m os) = omega arith in
    let same : span_opps c.due.new.self ≡ os = ap span_opps c.due.ensures.same in
    let some = ap length next in
    let here = counted m os was.well.order in (
      rw same was.well,
      (
        record {
          next = next;
          short = omega arith;
          order = next_order os h last now.burnt come coming was.playable t next;
          burnt = rw (end, same) here.0;
          later = rw (end, same) here.1;
        },
        record {
          queue = omega (arith, room.queue);
          departures = omega (arith, room.departures);
          entries = omega (arith, room.entries);
        },
      ),
    )

pub returns-in_default-clause-playable : goal.returns-in_default-clause-playable
returns-in_default-clause-playable g c =
    let now = c.burning.self in
    let t = c.args.t in
    let os = span_opps now.opportunities in
    let h = now.opportunities.horizon in
    let last = c.args._last in
    let come = g.gone.come ++ now.arrived.come in
    let coming = now.arrived.coming in
    let was = c.burning.invariant in
    let next = subst (λ (a : Arriving). a.coming ≡ t ∷ drop 1 a.coming) (sym was.arrived) c.requires.1.1.0 in
    let none = c.in_default.ensures.due in
    let in_time = next_in_time os h last now.burnt come coming was.playable t next in
    let end : now.burnt ≡ count_to os t.moment = omega arith in
    let opps_e : c.enter.new.self.opportunities ≡ now.opportunities = c.enter.ensures.link.opportunities
    ∙ c.due.ensures.same in
    let burnt_e : c.enter.new.self.burnt ≡ count_to os t.moment = c.enter.ensures.burnt ∙ end in
    rw (opps_e, burnt_e)
    (playable_entered os h last now.burnt come coming was.playable t next _ _
    (behind g.gone.come _ _ _ c.enter.ensures.come) c.enter.ensures.coming)
