-- A shell's direction as its callers see it.
use Rattle.std.specs.Prelude.{ℕ, ◌+◌, ◌-◌, ◌++◌, Bool, List, [], ◌∷◌, length, min, max, nat_le}
use Rattle.packet_record.specs.declared.packet.Timed.{Timed}
use Rattle.shell_state.specs.declared.spec.DirSpec.{DirSpec}
use Rattle.link_core.specs.Promises.{count_to}
use Rattle.shell_state.specs.Shells.{opportunities}

pub record CorePart : Type 0 where
  pub spec : DirSpec
  pub horizon : ℕ
  pub arrivals : List Timed
  pub burnt : ℕ

abbrev pub new_part : DirSpec → ℕ → CorePart
new_part c horizon = record { spec = c; horizon = horizon; arrivals = []; burnt = 0 }

-- one more arrival: every opportunity up to its moment is burnt before it
abbrev pub with_arrival : CorePart → Timed → CorePart
with_arrival c t = record {
  spec = c.spec;
  horizon = c.horizon;
  arrivals = c.arrivals ++ t ∷ [];
  burnt = max c.burnt (count_to (opportunities c.spec c.horizon) t.moment);
}

abbrev pub with_burnt : CorePart → ℕ → CorePart
with_burnt c n = record { spec = c.spec; horizon = c.horizon; arrivals = c.arrivals; burnt = c.burnt + n }

-- how many of the next opportunities are up to the bound, at most a given number
abbrev pub burns : CorePart → ℕ → ℕ → ℕ
burns c bound most = min most (count_to (opportunities c.spec c.horizon) bound - c.burnt)

-- no opportunity is left
abbrev pub is_spent : CorePart → Bool
is_spent c = nat_le (length (opportunities c.spec c.horizon)) c.burnt
