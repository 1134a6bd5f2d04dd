use Rattle.std.proofs.Common.{◌∙◌, ap, sym, subst}
use Rattle.live_relay.specs.Lines.{LineParts, number_all}
use Rattle.live_relay.specs.declared.kept.Kept.{Kept}
use Rattle.live_relay.specs.declared.way.Way.{Way}
use Rattle.live_relay.specs.inside.Pieces.{Keeps, has_number, kept_at}
use Rattle.live_relay.proofs.Forgetting.{none_lost}
use Rattle.live_relay.proofs.way.Way.forget_lost.Goals.{then-before-lost, else-before-lost}
use Rattle.live_relay.proofs.way.Way.forget_lost.Goals as goal

pub loop-shell-preserved : goal.loop-shell-preserved
loop-shell-preserved c =
    let before = c.loop-shell.invariant in
    elim c.if-before-lost.branch [
      | then-before-lost w ↦ record {
        line = ap (λ (w : Way). w.line) w.self-is ∙ before.line;
        sent = ap (λ (w : Way). w.sent) w.self-is ∙ before.sent;
        kept = λ all keeps. subst (Keeps all) (sym w.kept-is) (w.forget.ensures.kept all (before.kept all keeps));
        rest = λ n none. ap (λ (k : Kept). kept_at k n) w.kept-is
            ∙ w.forget.ensures.rest n
            (none_lost (has_number n) c.loop-shell.self.line.lost c.loop-shell.shell c.index-before.result.now _
            c.lost-lost.result.now c.lost-lost.ensures
            (ap (λ (l : LineParts). number_all (has_number n) l.lost) before.line ∙ none))
            ∙ before.rest n none;
      }
      | else-before-lost w ↦ record {
        line = ap (λ (w : Way). w.line) w.self-is ∙ before.line;
        sent = ap (λ (w : Way). w.sent) w.self-is ∙ before.sent;
        kept = λ all keeps. subst (Keeps all) (sym w.kept-is) (before.kept all keeps);
        rest = λ n none. ap (λ (k : Kept). kept_at k n) w.kept-is ∙ before.rest n none;
      }
    ]
