-- A line by the states of its shells.
use Rattle.std.proofs.Common.{◌≡◌, ℕ, ◌≤◌, List, [], ◌∷◌, length, ap, arith}
use Rattle.std.proofs.lemmas.List.{length-map}
use Rattle.packet_record.specs.declared.packet.Direction.{Direction}
use Rattle.packet_record.specs.declared.item.FlowEnd.TheVariants.{Ended, Broken as Cut}
use Rattle.packet_record.specs.Moments.{Rise}
use Rattle.shell_state.specs.States.{State}
use Rattle.nest_spec.specs.declared.shell.ShellDirection.{ShellDirection}
use Rattle.nest_spec.specs.Nests.{NestParts, directions_of, shells_in}
use Rattle.nest_spec.specs.Passed.{HavePassed}
use Rattle.nest_spec.proofs.NestLemmas.{shells_long}
use Rattle.live_relay.specs.Lines.{IsSettled}
use Rattle.live_relay.specs.inside.LineViews.{IsLine}
use Rattle.live_relay.specs.views.Line.{line_view}
use Rattle.live_relay.specs.inside.Meeting.{Meet}
use Rattle.live_relay.specs.views.Meeting.{fed_of, last_taken, specs_of}
use Rattle.live_relay.specs.declared.line.Line.TheInside.{Inside}
use Rattle.live_relay.proofs.Settling.{last_rises, line_ended, line_entered, line_front, line_once}
use Rattle.live_relay.proofs.Settling.{line_passed, not_cut}
use Rattle.live_relay.proofs.Settling.{settled_at}

rises_all : (h : ℕ) (states : List State) → 1 ≤ length states → Meet h (fed_of states) states
    → Rise (last_taken (fed_of states).packets states)
rises_all h [] some meet = absurd (omega arith)
rises_all h (s ∷ states) some meet =
    last_rises h s.taken states meet.2 meet.1.sound.stands.honest_taken.rises

never_cut : (h : ℕ) (states : List State) → 1 ≤ length states → Meet h (fed_of states) states
    → (fed_of states).end ≡ Cut → ⊥
never_cut h [] some meet cut = absurd (omega arith)
never_cut h (s ∷ states) some meet cut = not_cut h s.fed s states meet cut

pub line_settles : (l : Inside) → IsLine l → IsSettled (line_view l)
line_settles l is = record {
  rises = rises_all l.horizon l.states.items is.some is.meet;
  settled = λ m le within. settled_at l.horizon m (fed_of l.states.items) l.states.items is.meet
      (never_cut l.horizon l.states.items is.some is.meet) le within;
  ended = λ e. line_ended l.horizon (fed_of l.states.items) l.states.items is.meet e;
  foretells = λ coming come. line_front l.horizon (fed_of l.states.items) l.states.items coming is.meet come;
  once = λ p. line_once p l.horizon (fed_of l.states.items) l.states.items is.meet;
  entered = λ p none. line_entered p l.horizon (fed_of l.states.items) l.states.items is.meet none;
}

pub line_passes : (l : Inside) → IsLine l → (line_view l).fed.end ≡ Ended
    → HavePassed (line_view l).horizon (line_view l).specs (line_view l).fed.packets l.states.items
line_passes l is ended = line_passed l.horizon (fed_of l.states.items) l.states.items is.meet ended

-- a nest has a shell in each direction
pub some_states : (d : Direction) (nest : NestParts) (states : List State) → specs_of states ≡ directions_of d nest
    → 1 ≤ length nest.shells → 1 ≤ length states
some_states d nest states specs some =
    let same : length (specs_of states) ≡ length (directions_of d nest) = ap length specs in
    let one = length-map states (λ (s : State). s.spec) in
    let all = length-map (shells_in d nest) (λ (s : ShellDirection). s.spec) in
    let long = shells_long d nest in
    omega arith
