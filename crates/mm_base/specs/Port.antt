-- A port as its callers see it, and what its calls change.
use Rattle.std.specs.Prelude.{◌≡◌, ℕ, ◌++◌, Bool, true, List, [], ◌∷◌, Option, Result, Ok, Err}
use Rattle.std.specs.Option.{option_map}
use Rattle.mm_base.specs.Counts.{CountsFaults}
use Rattle.mm_base.specs.declared.errors.EndError.{EndError}
use Rattle.mm_base.specs.declared.listened.Listened.{Listened}

pub record PortView (C : Type 0) : Type 0 where
  -- how often it was asked to listen, and at which number last
  pub listened : Listened
  -- the finished connections, where the port tells them
  pub finished : Option (List C)
  -- how many connections it has given
  pub accepted : ℕ
  -- whether there are no more
  pub drained : Bool
  -- how many calls have failed
  pub faults : ℕ
  -- whether it never fails, whatever is asked of it
  pub never_fails : Bool

-- What every call keeps: the faults never fall, those of a port that never fails stand still, and a port that is
-- drained stays so.
pub record KeepsPort {C : Type 0} (old new : PortView C) : Type 0 where
  pub counts : CountsFaults (λ (p : PortView C). p.faults) (λ (p : PortView C). p.never_fails) old new
  pub stays : old.drained ≡ true → new.drained ≡ true

-- This connection is finished.
abbrev pub finishing : {C : Type 0} → C → Option (List C) → Option (List C)
finishing conn told = option_map (λ conns. conns ++ conn ∷ []) told

-- What finishing leaves. After a refusal the connection is given up.
abbrev pub after_finish : {C : Type 0} → C → Result Unit EndError → Option (List C) → Option (List C)
after_finish conn (Ok done) told = finishing conn told
after_finish conn (Err error) told = told
