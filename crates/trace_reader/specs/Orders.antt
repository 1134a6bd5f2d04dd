-- Opportunities in the order of their moments.
use Rattle.std.specs.Prelude.{◌≤◌, List, [], ◌∷◌}
use Rattle.trace_reader.specs.declared.opportunity.Opportunity.{Opportunity}

-- the fact holds of each element
abbrev pub Each : {X : Type 0} → (X → Type 0) → List X → Type 0
Each P [] = Unit {0}
Each P (x ∷ xs) = P x × Each P xs

-- no moment is below one before it
abbrev pub AreRising : List Opportunity → Type 0
AreRising [] = Unit {0}
AreRising (o ∷ opps) = Each (λ p. o.moment ≤ p.moment) opps × AreRising opps
