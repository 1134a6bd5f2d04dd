-- What the cell needs of the state's definitions.
use Rattle.std.proofs.Common.{◌≡◌, ℕ, ◌≤◌, Bool, true, false, cond, List, [], ◌∷◌, ◌++◌, refl, ap}
use Rattle.packet_record.specs.declared.packet.Timed.{Timed}
use Rattle.packet_record.specs.declared.item.Item.TheVariants.{Packet, Mark, End, Broken}
use Rattle.packet_record.specs.declared.item.FlowEnd.TheVariants.{Open}
use Rattle.packet_record.specs.Moments.{AreUpTo}
use Rattle.shell_state.specs.declared.taken.Taken.{Taken}
use Rattle.shell_state.specs.declared.taken.Taken.TheVariants.{Item as Gives, Again, NotYet}
use Rattle.shell_state.specs.States.{State}
use Rattle.shell_state.specs.Steps.{after_break, answer_of, answer_after, burns, with_burnt, with_answer}
use Rattle.shell_state.specs.Standing.{Stands}
use Rattle.shell_state.specs.inside.Fed.{AnswerFollows}
use Rattle.shell_state.proofs.Keeping.{burnt_keeps, answer_keeps, burns-le}
use Rattle.shell_state.proofs.Answering.{answer_follows}
use Rattle.shell_cell.specs.inside.Seats.{MayGive}
pub use Rattle.shell_state.proofs.Equations.{feed_fed, feed_taken, feed_horizon, feed_spec, feed_breaks, take_fed}
pub use Rattle.shell_state.proofs.Equations.{take_taken, take_horizon, take_spec, take_broken, break_fed, break_taken}
pub use Rattle.shell_state.proofs.Equations.{break_horizon, break_broken}

pub break_spec : (s : State) → (after_break s).spec ≡ s.spec
unfolding after_break
break_spec s = refl

-- a broken state gives Broken
pub answer_broken : (s : State) (most : ℕ) → s.broken ≡ true → answer_of s most ≡ Gives Broken
unfolding answer_of
answer_broken s most e = ap (λ b. cond b (Gives Broken)
    (answer_after (with_burnt s (burns s most)) (burns s most) most)) e

last_up_to : (h : ℕ) (ts : List Timed) (t : Timed) → AreUpTo h (ts ++ t ∷ []) → t.moment ≤ h
last_up_to h [] t all = all.0
last_up_to h (u ∷ us) t all = last_up_to h us t all.1

-- an item that is given may follow what was taken and is within the horizon, since the state stands before and after
gives : (s : State) (a : Taken) → s.taken.end ≡ Open → AnswerFollows s.taken.bound a → Stands (with_answer s a)
    → MayGive s.taken s.horizon a
gives s (Gives (Packet t)) open' from st =
    ((open', from), last_up_to s.horizon s.taken.packets t st.honest_taken.within)
gives s (Gives (Mark m)) open' from st = ((open', from), st.honest_taken.bound)
gives s (Gives End) open' from st = ((open', tt), tt)
gives s (Gives Broken) open' from st = ((open', tt), tt)
gives s (Again n) open' from st = tt
gives s (NotYet m) open' from st = tt

pub answer_may : (s : State) (most : ℕ) → Stands s → s.taken.end ≡ Open → MayGive s.taken s.horizon (answer_of s most)
unfolding answer_of
answer_may s most st open' = by s.broken
  where
    burnt : State
    burnt = with_burnt s (burns s most)

    stands : Stands burnt
    stands = burnt_keeps s (burns s most) st open' (burns-le s most)

    by : (b : Bool) → MayGive s.taken s.horizon (cond b (Gives Broken) (answer_after burnt (burns s most) most))
    by true = ((open', tt), tt)
    by false = gives burnt (answer_after burnt (burns s most) most) open'
        (answer_follows burnt (burns s most) most stands) (answer_keeps burnt (burns s most) most stands open')
