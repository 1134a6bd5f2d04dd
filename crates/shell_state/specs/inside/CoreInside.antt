-- For proofs alone: how the cores of each kind are seen as one.
use Rattle.std.specs.Prelude.{◌≡◌, ◌≤◌, ℕ}
use Rattle.text_base.specs.declared.limits.TheConstants.{HOUR}
use Rattle.loss_core.specs.Losses.{cha_word}
use Rattle.loss_core.specs.Sources.{cha_words}
use Rattle.loss_core.specs.Cores.{Stands}
use Rattle.shell_state.specs.declared.kinds.Inner.{Inner}
use Rattle.shell_state.specs.declared.kinds.Inner.TheVariants.{Pass, Delay, Loss, Link}
use Rattle.shell_state.specs.declared.kinds.Core.TheInside.{Inside}

-- the core of a kind is that of the specification and the horizon
abbrev pub IsInner : ℕ → Inner → Type 0
IsInner h (Pass arrived) = Unit {0}
IsInner h (Delay core ms) = (core.horizon ≡ h) × (core.ms ≡ ms) × (ms ≤ HOUR)
IsInner h (Loss core seed stream) = Stands cha_words core (cha_word seed stream)
IsInner h (Link core) = core.horizon ≡ h

abbrev pub IsCore : Inside → Type 0
IsCore c = IsInner c.until c.inner × (c.until ≤ HOUR)
