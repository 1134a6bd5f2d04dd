-- A dialer that was asked at one port alone.
use Rattle.std.proofs.Common.{◌≡◌, ◌∙◌, inl, inr, ℕ, Bool, true, false, ap, refl, nat_eq, eq-eqb}
use Rattle.std.specs.Prelude.{if◌then◌else◌}
use Rattle.record_proxy.specs.Asking.{OnlyAsks, asked_at}
use Rattle.record_proxy.specs.declared.ports_asked.PortsAsked.{PortsAsked}
use Rattle.record_proxy.specs.declared.ports_asked.PortsAsked.TheVariants.{Never, Alone, Several}

if_asked : (number before : ℕ) (same : Bool) → nat_eq before number ≡ same
    → asked_at number (if same then Alone before else Several) ≡ (if same then Alone before else Several)
if_asked number before true is = ap (λ (b : Bool). if b then Alone before else Several) is
if_asked number before false is = refl

-- it is the same once and twice
asked_twice : (number : ℕ) (asked : PortsAsked) → asked_at number (asked_at number asked) ≡ asked_at number asked
asked_twice number Never = if_asked number number true (eq-eqb number number refl)
asked_twice number (Alone before) = if_asked number before (nat_eq before number) refl
asked_twice number Several = refl

pub asks_none : (number : ℕ) (asked : PortsAsked) → OnlyAsks number asked asked
asks_none number asked = inl refl

-- once more
pub asks_once : (number : ℕ) (old mid new : PortsAsked) → OnlyAsks number old mid → new ≡ asked_at number mid
    → OnlyAsks number old new
asks_once number old mid new (inl same) now = inr (now ∙ ap (asked_at number) same)
asks_once number old mid new (inr asked) now =
    inr (now ∙ ap (asked_at number) asked ∙ asked_twice number old)

-- and no more
pub asks_same : (number : ℕ) (old mid new : PortsAsked) → OnlyAsks number old mid → new ≡ mid → OnlyAsks number old new
asks_same number old mid new (inl same) now = inl (now ∙ same)
asks_same number old mid new (inr asked) now = inr (now ∙ asked)
