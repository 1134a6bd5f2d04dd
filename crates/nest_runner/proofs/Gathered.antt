-- What is marked, and which logs are added, from one shell to the next.
use Rattle.std.proofs.Common.{◌≡◌, ◌∙◌, ◌∷◌, ℕ, List, refl, ap, sym}
use Rattle.packet_record.specs.declared.packet.Row.{Row}
use Rattle.packet_record.specs.declared.packet.Timed.{Timed}
use Rattle.shell_state.specs.declared.spec.DirSpec.{DirSpec}
use Rattle.shell_state.specs.Shells.{whole_inside, whole_lost, whole_out}
use Rattle.nest_spec.specs.declared.fate.Fate.{Fate}
use Rattle.nest_spec.specs.declared.shell.ShellDirection.{ShellDirection}
use Rattle.nest_spec.specs.Marks.{passed}
use Rattle.nest_spec.specs.inside.Marks.{ids_of, marked_through}
use Rattle.nest_spec.specs.Walk.{step, walk}
use Rattle.nest_spec.proofs.Natural.{one_step}

-- marking goes on with the shells behind the first one, where what departed from that one arrives
pub marked_on : (h next : ℕ) (s : ShellDirection) (shells rest : List ShellDirection) (c : DirSpec)
    (fed departed : List Timed) (f : Row → Fate) → next ≡ h → shells ≡ rest → c ≡ s.spec → departed ≡ whole_out c h fed
    → marked_through next rest departed (passed s.number (whole_lost c h fed) (ids_of (whole_inside c h fed)) f)
    ≡ marked_through h (s ∷ shells) fed f
marked_on h next s shells rest c fed departed f same are is out =
    ap (λ n. marked_through n rest departed (passed s.number (whole_lost c h fed) (ids_of (whole_inside c h fed)) f))
    same
    ∙ ap (λ l. marked_through h l departed (passed s.number (whole_lost c h fed) (ids_of (whole_inside c h fed)) f))
    (sym are)
    ∙ one_step h s.number (s ∷ shells) shells s fed departed (whole_lost c h fed) (ids_of (whole_inside c h fed)) f refl
    refl (out ∙ ap (λ k. whole_out k h fed) is) (ap (λ k. whole_lost k h fed) is)
    (ap (λ k. ids_of (whole_inside k h fed)) is)

pub walked_on : (h next : ℕ) (s : ShellDirection) (shells rest : List ShellDirection) (c : DirSpec)
    (fed departed : List Timed) → next ≡ h → shells ≡ rest → c ≡ s.spec → departed ≡ whole_out c h fed
    → step h s fed ∷ walk next rest departed ≡ walk h (s ∷ shells) fed
walked_on h next s shells rest c fed departed same are is out =
    ap (λ n. step h s fed ∷ walk n rest departed) same
    ∙ ap (λ l. step h s fed ∷ walk h l departed) (sym are)
    ∙ ap (λ l. step h s fed ∷ walk h shells l) (out ∙ ap (λ k. whole_out k h fed) is)
