use Rattle.std.proofs.Common.{◌++◌, List, map, ap, sym, subst, ◌∙◌}
use Rattle.std.proofs.lemmas.List.{append-nil}
use Rattle.packet_record.specs.declared.packet.Timed.{Timed}
use Rattle.packet_record.specs.Moments.{AreUpTo, Rise}
use Rattle.link_core.specs.Promises.{AreCovered}
use Rattle.link_core.specs.views.Span.{span_opps}
use Rattle.link_core.proofs.CoverLemmas.{sound_rises, sound_covered}
use Rattle.link_core.proofs.SeenLemmas.{seen_out, seen_lost, seen_inside}
use Rattle.link_core.proofs.parts.Parts.into_passage.Goals as goal

pub of-log-requires : goal.of-log-requires
of-log-requires c =
    let come = c.args.self.arrived.come in
    let list = c.into_list.ensures ∙ ap (λ (ts : List Timed). come ++ ts) c.requires.1 ∙ append-nil come in
    record {
      rises = subst Rise (sym list) (sound_rises _ _ _ _ _ _ _ _ _ _ _ c.requires.0);
      within = subst (AreUpTo c.args.self.opportunities.horizon) (sym list) c.requires.2;
      covered = subst (AreCovered (span_opps c.args.self.opportunities) c.args.self.burnt) (sym list)
          (sound_covered _ _ _ _ _ _ _ _ _ _ _ c.requires.0);
      few = c.requires.0.few;
    }

pub returns-clause-departed : goal.returns-clause-departed
returns-clause-departed c = seen_out _ _ _ _ _ _ _ _ _ _ _ c.requires.0

pub returns-clause-lost : goal.returns-clause-lost
returns-clause-lost c = c.into_lost.ensures ∙ seen_lost _ _ _ _ _ _ _ _ _ _ _ c.requires.0

pub returns-clause-held : goal.returns-clause-held
returns-clause-held c = c.in_ok-held.ensures ∙ ap (λ (ts : List Timed). map (λ (t : Timed). t.packet.id) ts)
    (seen_inside _ _ _ _ _ _ _ _ _ _ _ c.requires.0)
