use Rattle.std.proofs.Common.{◌≡◌, ◌∙◌, ℕ, length, ap, sym, subst, arith}
use Rattle.packet_record.specs.Moments.{AreUpTo}
use Rattle.trace_reader.specs.Opps.{opps}
use Rattle.link_core.specs.views.Span.{Span, span_opps}
use Rattle.link_core.proofs.CoverLemmas.{all_cover}
use Rattle.link_core.proofs.link_log.LinkLog.whole.Goals as goal

pub of-requires : goal.of-requires
of-requires c =
    let os = opps c.args.trace.opportunities c.args.once c.args.horizon in
    let span = c.new-opportunities.ensures in
    let all : c.len-burnt.result ≡ length os = c.len-burnt.ensures ∙ ap (λ (s : Span). length (span_opps s)) span in
    record {
      rises = c.requires.rises;
      within = subst (λ (h : ℕ). AreUpTo h c.args.arrivals.items) (sym (ap (λ (s : Span). s.horizon) span))
          c.requires.within;
      covered = rw (all, span) (all_cover os c.args.arrivals.items);
      few = rw (all, span) (omega arith);
    }
