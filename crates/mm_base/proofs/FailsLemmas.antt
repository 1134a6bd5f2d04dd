-- What the test of a call that is to fail says of the list.
use Rattle.std.proofs.Common.{◌≡◌, ◌↔◌, ℕ, List, Bool, true, IsTrue, rules, subst}
use Rattle.std.specs.List.{Contains}

pub is_named : (fails seen : List ℕ) (call : ℕ) (failing : Bool) → seen ≡ fails
    → (IsTrue failing ↔ Contains seen call) → failing ≡ true → Contains fails call
is_named fails seen call failing same tells e =
    let named : IsTrue failing = search rules in
    subst (λ list. Contains list call) same (tells.0 named)
