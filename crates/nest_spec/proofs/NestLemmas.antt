-- The shells of a nest in a direction.
use Rattle.std.proofs.Common.{◌≡◌, ℕ, suc, ◌+◌, List, [], ◌∷◌, ◌++◌, length, reverse, refl, ap, sym, subst, ◌∙◌}
use Rattle.std.proofs.Common.{arith}
use Rattle.std.proofs.lemmas.List.{reverse-append, length-reverse}
use Rattle.packet_record.specs.declared.packet.Direction.{Direction}
use Rattle.packet_record.specs.declared.packet.Direction.TheVariants.{Up, Down}
use Rattle.packet_record.specs.declared.packet.Timed.{Timed}
use Rattle.nest_spec.specs.declared.shell.Shell.{Shell}
use Rattle.nest_spec.specs.declared.shell.LinkDirection.{LinkDirection}
use Rattle.nest_spec.specs.declared.shell.ShellDirection.{ShellDirection}
use Rattle.nest_spec.specs.Links.{AreNestShells, specs_in}
use Rattle.nest_spec.specs.Nests.{NestParts, IsNest, AllFit, all_in_direction, in_passing_order, shells_in}
use Rattle.nest_spec.specs.Walk.{walk}
use Rattle.nest_spec.proofs.ShellLemmas.{AreFit, all_fit}

fit-append : (h : ℕ) (list more : List ShellDirection) → AreFit h list → AreFit h more → AreFit h (list ++ more)
fit-append h [] more fit fits = fits
fit-append h (c ∷ list) more fit fits = (fit.0, fit-append h list more fit.1 fits)

fit-reverse : (h : ℕ) (list : List ShellDirection) → AreFit h list → AreFit h (reverse list)
fit-reverse h [] fit = tt
fit-reverse h (c ∷ list) fit = subst (AreFit h) (sym (reverse-append (c ∷ []) list))
    (fit-append h (reverse list) (c ∷ []) (fit-reverse h list fit.1) (fit.0, tt))

in_order_fit : (d : Direction) (h : ℕ) (list : List ShellDirection) → AreFit h list → AreFit h (in_passing_order d list)
in_order_fit Up h list fit = fit-reverse h list fit
in_order_fit Down h list fit = fit

pub shells_fit : (d : Direction) (nest : NestParts) → IsNest nest → AreFit nest.horizon (shells_in d nest)
shells_fit d nest is = in_order_fit d nest.horizon (all_in_direction d nest.seed 1 nest.shells)
    (all_fit d nest.seed 1 nest.horizon nest.shells (let few = is.few in omega arith) is.shells is.opportunities)

pub specs_fit : (h : ℕ) (list : List ShellDirection) → AreFit h list → AllFit h (specs_in list)
specs_fit h [] fit = tt
specs_fit h (s ∷ list) fit = (fit.0.range, fit.0.few, specs_fit h list fit.1)

pub nest_shells : (h : ℕ) (list : List ShellDirection) → AreFit h list → AreNestShells list
nest_shells h [] fit = tt
nest_shells h (s ∷ list) fit = (fit.0.shell, nest_shells h list fit.1)

all_long : (d : Direction) (seed n : ℕ) (shells : List (Shell LinkDirection))
    → length (all_in_direction d seed n shells) ≡ length shells
all_long d seed n [] = refl
all_long d seed n (shell ∷ shells) = ap suc (all_long d seed (n + 1) shells)

in_order_long : {A : Type 0} (d : Direction) (list : List A) → length (in_passing_order d list) ≡ length list
in_order_long Up list = length-reverse list
in_order_long Down list = refl

pub shells_long : (d : Direction) (nest : NestParts) → length (shells_in d nest) ≡ length nest.shells
shells_long d nest = in_order_long d (all_in_direction d nest.seed 1 nest.shells) ∙ all_long d nest.seed 1 nest.shells

-- as many steps as shells
pub walk_long : (h : ℕ) (shells : List ShellDirection) (arrived : List Timed)
    → length (walk h shells arrived) ≡ length shells
walk_long h [] arrived = refl
walk_long h (s ∷ shells) arrived = ap suc (walk_long h shells _)
