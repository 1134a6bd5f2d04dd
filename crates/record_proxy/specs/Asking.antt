-- At which ports a proxy listens, and asks its dialer for connections.
use Rattle.std.specs.Prelude.{◌≡◌, ◌⊎◌, ℕ, nat_eq, if◌then◌else◌, Result, Ok, Err}
use Rattle.mm_base.specs.Listened.{listened_at, refused_at}
use Rattle.mm_base.specs.Port.{PortView}
use Rattle.replay_server.specs.declared.ends.Served.{Served}
use Rattle.record_proxy.specs.declared.ports_asked.PortsAsked.{PortsAsked}
use Rattle.record_proxy.specs.declared.ports_asked.PortsAsked.TheVariants.{Never, Alone, Several}
use Rattle.record_proxy.specs.declared.ends.ProxyError.{ProxyError}

-- it was asked once more, at this number
abbrev pub asked_at : ℕ → PortsAsked → PortsAsked
asked_at number Never = Alone number
asked_at number (Alone before) = if nat_eq before number then Alone before else Several
asked_at number Several = Several

-- It was asked at no other number than this. Where it had been asked at another before, nothing is said.
abbrev pub OnlyAsks : ℕ → PortsAsked → PortsAsked → Type 0
OnlyAsks number old new = (new ≡ old) ⊎ (new ≡ asked_at number old)

-- A serving asked its port once to listen, at this number: it listens there, unless that was refused.
abbrev pub ListensAt : {C : Type 0} → ℕ → PortView C → PortView C → Result Served ProxyError → Type 0
ListensAt number old new (Ok n) = new.listened ≡ listened_at number old.listened
ListensAt number old new (Err error) =
    (new.listened ≡ listened_at number old.listened) ⊎ (new.listened ≡ refused_at number old.listened)
