-- When a take gives which answer, in terms of the state that it found.
use Rattle.std.specs.Prelude.{◌≡◌, ◌≤◌, ◌<◌, ◌+◌, ◌↔◌, ℕ, true, false, [], length}
use Rattle.packet_record.specs.declared.item.Item.TheVariants.{Broken}
use Rattle.packet_record.specs.declared.item.FlowEnd.TheVariants.{Ended}
use Rattle.shell_state.specs.declared.taken.Taken.{Taken}
use Rattle.shell_state.specs.declared.taken.Taken.TheVariants.{Item as Gives, Again, NotYet}
use Rattle.shell_state.specs.States.{State, opps_of, ready, floor_of}
use Rattle.shell_state.specs.Steps.{licensed, burns, with_burnt}

-- Nothing is ready, every licensed opportunity is burnt, the floor isn't above what was taken, and more may be fed.
pub record Waits (s : State) : Type 0 where
  pub whole : s.broken ≡ false
  pub ready : ready s ≡ []
  pub spent : licensed s ≤ s.burnt
  pub floor : floor_of s ≤ s.taken.bound
  pub open' : s.fed.end ≡ Ended → ⊥

-- The take burnt as many as it may, and then there is nothing to give: no departure, not the end, and no mark.
pub record BurnsAll (s : State) (most : ℕ) : Type 0 where
  pub whole : s.broken ≡ false
  pub burns : burns s most ≡ most
  pub ready : ready (with_burnt s most) ≡ []
  pub goes_on : s.fed.end ≡ Ended → s.burnt + most < length (opps_of s)
  pub floor : floor_of (with_burnt s most) ≤ s.taken.bound

pub record HasCauses (s : State) (most : ℕ) (answer : Taken) (new : State) : Type 0 where
  pub broken : (answer ≡ Gives Broken) ↔ (s.broken ≡ true)
  pub not_yet : (bound : ℕ) → (answer ≡ NotYet bound) ↔ (Waits s × (bound ≡ s.fed.bound))
  pub unchanged : (bound : ℕ) → answer ≡ NotYet bound → new ≡ s
  pub again : (burnt : ℕ) → (answer ≡ Again burnt) ↔ (BurnsAll s most × (burnt ≡ most))
