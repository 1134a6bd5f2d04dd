-- The lists of a state that has run are those of the shell over what arrived.
use Rattle.std.proofs.Common.{◌≡◌, ℕ, suc, ◌<◌, ◌≤◌, List, [], ◌∷◌, length, get_or, refl, ap, subst, ◌∙◌, arith}
use Rattle.std.proofs.lemmas.List.{length-map}
use Rattle.packet_record.specs.declared.packet.Timed.{Timed}
use Rattle.packet_record.specs.declared.item.FlowEnd.TheVariants.{Ended}
use Rattle.shell_state.specs.declared.spec.DirSpec.{DirSpec}
use Rattle.shell_state.specs.Shells.{lost, inside, shell_log, whole_out, whole_lost, whole_log}
use Rattle.shell_state.specs.Shells.{whole_inside}
use Rattle.shell_state.specs.States.{State}
use Rattle.shell_state.specs.Standing.{Stands}
use Rattle.shell_state.proofs.Foretelling.{taken_whole}
use Rattle.packet_record.specs.Streams.{Stream}
use Rattle.nest_spec.specs.declared.shell.ShellDirection.{ShellDirection}
use Rattle.nest_spec.specs.Links.{specs_in}
use Rattle.nest_spec.specs.Passed.{HavePassed}

pub record HasRun (c : DirSpec) (h : ℕ) (arrived : List Timed) (s : State) : Type 0 where
  pub departed : s.taken.packets ≡ whole_out c h arrived
  pub dropped : lost s.spec s.horizon s.burnt s.fed.packets ≡ whole_lost c h arrived
  pub held : inside s.spec s.horizon s.burnt s.fed.packets ≡ whole_inside c h arrived
  pub log : shell_log s.spec s.horizon s.burnt s.fed.packets ≡ whole_log c h arrived

pub has_run : (c : DirSpec) (h : ℕ) (arrived : List Timed) (s : State) → Stands s → s.spec ≡ c → s.horizon ≡ h
    → s.fed.packets ≡ arrived → s.taken.end ≡ Ended → HasRun c h arrived s
has_run c h arrived s stands es eh ef ended =
    let burnt = (stands.ended ended).1 in record {
      departed = (taken_whole s stands ended).1 ∙ same whole_out;
      dropped = ap (λ b. lost s.spec s.horizon b s.fed.packets) burnt ∙ same whole_lost;
      held = ap (λ b. inside s.spec s.horizon b s.fed.packets) burnt ∙ same whole_inside;
      log = ap (λ b. shell_log s.spec s.horizon b s.fed.packets) burnt ∙ same whole_log;
    }
  where
    same : {A : Type 0} → (f : DirSpec → ℕ → List Timed → A) → f s.spec s.horizon s.fed.packets ≡ f c h arrived
    same f = ap (λ x. f x s.horizon s.fed.packets) es ∙ ap (λ x. f c x s.fed.packets) eh ∙ ap (f c h) ef

-- as many states as shells, the first of which was fed what arrived
passed_long : (h : ℕ) (specs : List DirSpec) (arrived : List Timed) (states : List State)
    → HavePassed h specs arrived states → length states ≡ length specs
passed_long h [] arrived [] have = refl
passed_long h [] arrived (s ∷ states) have = absurd have
passed_long h (c ∷ specs) arrived [] have = absurd have
passed_long h (c ∷ specs) arrived (s ∷ states) have = ap suc (passed_long h specs s.taken.packets states have.4)

first_fed : (h : ℕ) (specs : List DirSpec) (arrived : List Timed) (states : List State) (d : State)
    → HavePassed h specs arrived states → 0 < length states
    → (get_or states 0 d).fed.packets ≡ arrived
first_fed h specs arrived [] d have some = absurd (omega arith)
first_fed h [] arrived (s ∷ states) d have some = absurd have
first_fed h (c ∷ specs) arrived (s ∷ states) d have some = have.2

pub some_states : (h : ℕ) (shells : List ShellDirection) (list : List ShellDirection) (arrived : List Timed)
    (states : List State) → list ≡ shells → HavePassed h (specs_in shells) arrived states
    → 1 ≤ length list → 0 < length states
some_states h shells list arrived states is have some =
    let long = passed_long h (specs_in shells) arrived states have
    in omega (arith, long, length-map shells (λ (s : ShellDirection). s.spec), ap length is)

pub first_arrivals : (h : ℕ) (specs : List DirSpec) (arrived packets : List Timed) (states : List State) (s : State)
    (fed : Stream) → HavePassed h specs arrived states → 0 < length states
    → packets ≡ fed.packets → fed ≡ s.fed → s ≡ get_or states 0 s → packets ≡ arrived
first_arrivals h specs arrived packets states s fed have some ep ef es =
    ep ∙ ap (λ (f : Stream). f.packets) ef ∙ ap (λ (x : State). x.fed.packets) es
    ∙ first_fed h specs arrived states s have some

-- the first of states that have passed has run
pub first_has_run : (h : ℕ) (specs more : List DirSpec) (c : DirSpec) (arrived : List Timed)
    (states rest : List State) (s : State) → specs ≡ c ∷ more → states ≡ s ∷ rest
    → HavePassed h specs arrived states → Stands s → HasRun c h arrived s
first_has_run h specs more c arrived states rest s specs_are states_are have stands =
    let first = subst (λ l. HavePassed h (c ∷ more) arrived l) states_are
    (subst (λ l. HavePassed h l arrived states) specs_are have) in
    has_run c h arrived s stands first.0 first.1 first.2 first.3

-- and has the horizon of the nest
pub first_horizon : (h : ℕ) (specs more : List DirSpec) (c : DirSpec) (arrived : List Timed)
    (states rest : List State) (s : State) → specs ≡ c ∷ more → states ≡ s ∷ rest
    → HavePassed h specs arrived states → s.horizon ≡ h
first_horizon h specs more c arrived states rest s specs_are states_are have =
    (subst (λ l. HavePassed h (c ∷ more) arrived l) states_are
    (subst (λ l. HavePassed h l arrived states) specs_are have)).1

-- and the others have passed what it took
pub rest_have_passed : (h : ℕ) (specs more : List DirSpec) (c : DirSpec) (arrived : List Timed)
    (states rest : List State) (s : State) → specs ≡ c ∷ more → states ≡ s ∷ rest
    → HavePassed h specs arrived states → HavePassed h more s.taken.packets rest
rest_have_passed h specs more c arrived states rest s specs_are states_are have =
    (subst (λ l. HavePassed h (c ∷ more) arrived l) states_are
    (subst (λ l. HavePassed h l arrived states) specs_are have)).4
