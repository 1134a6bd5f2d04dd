-- How far a pool has come.
use Rattle.std.specs.Prelude.{◌≡◌, ◌≢◌, ◌⊎◌, ◌<◌, ◌≤◌, ℕ, ◌+◌, ◌-◌, ◌^◌, true, List, length, All, Option, Result}
use Rattle.std.specs.Prelude.{Ok, Err, OnOk}
use Rattle.std.specs.Option.{option_map}
use Rattle.mm_base.specs.Counts.{Rose}
use Rattle.mm_base.specs.Link.{LinkView}
use Rattle.mm_base.specs.Port.{PortView, KeepsPort}
use Rattle.record_store.specs.declared.record.Record.{Record}
use Rattle.replay_server.specs.declared.ends.ConnEnd.{ConnEnd}
use Rattle.replay_server.specs.declared.ends.ConnEnd.TheVariants.{OutOfMemory}
use Rattle.replay_server.specs.declared.ends.Served.{Served}
use Rattle.replay_server.specs.declared.ends.ServeError.{ServeError}
use Rattle.replay_server.specs.declared.ends.ServeError.TheVariants as errors
use Rattle.replay_server.specs.declared.standing.ServingStanding.{ServingStanding}
use Rattle.replay_server.specs.inside.Tallies.{IsTally}
use Rattle.replay_server.specs.Servings.{IsConnServed, IsServing, finished_with, ends_of, most_served}

-- the ends so far are no more than those that are over
abbrev pub IsCounted : ServingStanding → Type 0
IsCounted s = IsTally (s.begun - s.out) s.ends

module _ {C : Type 0} where
  -- what the ends so far say, where `begun` connections were accepted and `out` are being served
  abbrev pub PoolSays : ℕ → ℕ → PortView C → PortView C → List (C × ConnEnd) → Result Served ServeError → Type 0
  PoolSays begun out old new served (Ok n) =
      (n ≡ ends_of served) × All (λ (c : C × ConnEnd). c.1 ≢ OutOfMemory) served
      × (new.accepted ≡ old.accepted + (length served + out)) × (begun ≡ length served + out)
  PoolSays begun out old new served (Err errors.Listen) = ⊥
  PoolSays begun out old new served (Err errors.Accept) =
      All (λ (c : C × ConnEnd). c.1 ≢ OutOfMemory) served × Rose old.faults new.faults
      × (new.faults < 2 ^ 64 - 1 → new.accepted + old.faults ≤ old.accepted + (length served + out) + new.faults)
  PoolSays begun out old new served (Err errors.OutOfMemory) = Unit {0}

  -- no connection is accepted any more
  abbrev pub IsStopped : PortView C → ServingStanding → Type 0
  IsStopped port s = OnOk s.ends ((port.drained ≡ true) ⊎ (s.begun ≡ most_served))

  -- These were served and finished, the last of them first.
  pub record PoolStands (store : List Record) (site_port : Option ℕ) (view : C → LinkView) (old new : PortView C)
      (begun out : ℕ) (ends : Result Served ServeError) : Type 0 where
    pub served : List (C × ConnEnd)
    pub each : All (λ (c : C × ConnEnd). ∥ IsConnServed store site_port (view c.0) c.1 ∥₁) served
    pub finished_is : new.finished ≡ option_map (finished_with served) old.finished
    pub listened_is : new.listened ≡ old.listened
    pub keeps : KeepsPort old new
    pub few : begun ≤ most_served
    pub says : PoolSays begun out old new served ends

  abbrev pub InPool : List Record → Option ℕ → (C → LinkView) → PortView C → PortView C → ServingStanding → Type 0
  InPool store site_port view old new s = PoolStands store site_port view old new s.begun s.out s.ends

  -- However a pool stood before, it stands so after.
  abbrev pub MovesPool : List Record → Option ℕ → (C → LinkView) → PortView C → ServingStanding → PortView C
      → ServingStanding → Type 0
  MovesPool store site_port view old s new s' =
      (start : PortView C) → InPool store site_port view start old s → InPool store site_port view start new s'

  -- A pool served its port, which listens as before.
  pub record PoolServes (store : List Record) (site_port : Option ℕ) (view : C → LinkView) (old new : PortView C)
      (result : Result Served ServeError) : Type 0 where
    pub serving : IsServing store site_port view true most_served old new result
    pub listened : new.listened ≡ old.listened
    pub within : IsTally most_served result
