-- A dialer as its callers see it, and what its calls change.
use Rattle.std.specs.Prelude.{◌≤◌, ℕ, List, Option}
use Rattle.record_proxy.specs.declared.ports_asked.PortsAsked.{PortsAsked}

pub record DialerView (C : Type 0) : Type 0 where
  -- at which ports it was asked for connections
  pub asked : PortsAsked
  -- the finished connections, where the dialer tells them
  pub finished : Option (List C)
  -- how many connections it has given
  pub dialed : ℕ
  -- how many calls have failed
  pub faults : ℕ

-- The faults never fall.
abbrev pub CountsDials : {C : Type 0} → DialerView C → DialerView C → Type 0
CountsDials old new = old.faults ≤ new.faults
