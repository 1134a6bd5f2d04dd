use Rattle.std.proofs.Common.{◌≡◌, ◌∙◌, ℕ, List, Some, None, true, if◌then◌else◌, length, map, ap, sym, subst, arith, rules}
use Rattle.std.specs.Prelude.{IfOk}
use Rattle.packet_record.specs.declared.packet.Timed.{Timed}
use Rattle.packet_record.specs.Moments.{AreUpTo}
use Rattle.shell_log.specs.declared.entry.Entry.{Entry}
use Rattle.trace_reader.specs.Opps.{opps}
use Rattle.link_core.specs.declared.passage.Passage.{Passage}
use Rattle.link_core.specs.Links.{link_out, link_lost, link_log, link_inside}
use Rattle.link_core.specs.views.Span.{Span, span_opps}
use Rattle.link_core.proofs.CoverLemmas.{all_cover}
use Rattle.link_core.proofs.WholeLemmas.{come_is, throughout}
use Rattle.link_core.proofs.whole.run_link.Goals as goal

pub played-requires : goal.played-requires
played-requires c =
    let os = opps c.args.trace.opportunities c.args.once c.args.horizon in
    let span = c.new-opportunities.ensures in
    let all : c.len-last.result ≡ length os = c.len-last.ensures ∙ ap (λ (s : Span). length (span_opps s)) span in
    record {
      rises = c.requires.rises;
      within = subst (λ (h : ℕ). AreUpTo h c.args.arrivals.items) (sym (ap (λ (s : Span). s.horizon) span))
          c.requires.within;
      covered = rw (all, span) (all_cover os c.args.arrivals.items);
      few = rw (all, span) (omega arith);
    }

pub played_in_place-requires-clause-covered : goal.played_in_place-requires-clause-covered
played_in_place-requires-clause-covered c =
    let os = opps c.args.trace.opportunities c.args.once c.args.horizon in
    let span = c.new-opportunities.ensures in
    let all : c.len-last.result ≡ length os = c.len-last.ensures ∙ ap (λ (s : Span). length (span_opps s)) span in
    rw (all, span) (all_cover os c.args.arrivals.items)

pub into_passage-requires : goal.into_passage-requires
into_passage-requires c =
    let parts = c.in_ok-parts.parts in
    let is = c.in_ok-parts.ensures in
    let ts = c.args.arrivals.items in
    let span = is.opportunities ∙ c.new-opportunities.ensures in
    let come = sym (come_is c.len-last.result parts is.sound is.played c.args.queue _ ts is.spec (ap span_opps span)
    is.arrivals) in (
      is.sound,
      is.played.all_in,
      subst (λ (h : ℕ). AreUpTo h parts.arrived.come) (sym (ap (λ (s : Span). s.horizon) span))
          (subst (AreUpTo c.args.horizon) come c.requires.within),
    )

pub returns : goal.returns
returns c =
    let parts = c.in_ok-parts.parts in
    let is = c.in_ok-parts.ensures in
    let q = c.args.queue in
    let os = opps c.args.trace.opportunities c.args.once c.args.horizon in
    let ts = c.args.arrivals.items in
    let last = c.len-last.result in
    let span = c.new-opportunities.ensures in
    let all : span_opps parts.opportunities ≡ os = ap span_opps (is.opportunities ∙ span) in
    let number : last ≡ length os = c.len-last.ensures ∙ ap (λ (s : Span). length (span_opps s)) span in
    let result = c.into_passage.result in
    let logged : c.args.logged ≡ true = search rules in
    let gives = c.into_passage.ensures in
    record {
      departed = subst (λ (xs : List Timed). IfOk result (λ (p : Passage). p.departed.items ≡ xs))
          (throughout last parts is.sound is.played q os ts is.spec all is.arrivals link_out (omega arith))
          gives.departed;
      lost = subst (λ (xs : List Timed). IfOk result (λ (p : Passage). p.lost.items ≡ xs))
          (throughout last parts is.sound is.played q os ts is.spec all is.arrivals link_lost (omega arith)) gives.lost;
      held = subst
          (λ (xs : List Timed). IfOk result (λ (p : Passage). p.held.items ≡ map (λ (t : Timed). t.packet.id) xs))
          (throughout last parts is.sound is.played q os ts is.spec all is.arrivals link_inside (omega arith))
          gives.held;
      log = subst (λ b. IfOk result (λ (p : Passage). p.log ≡ (if b then Some (link_log q os ts) else None)))
          (sym logged)
          (subst (λ (es : List Entry). IfOk result (λ (p : Passage). p.log ≡ Some es))
          (throughout last parts is.sound is.played q os ts is.spec all is.arrivals link_log (omega arith)) gives.log);
    }
