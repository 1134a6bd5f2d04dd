-- Lists in the order of their moments.
use Rattle.std.specs.Prelude.{◌≤◌, List, [], ◌∷◌}
use Rattle.packet_record.specs.declared.packet.Timed.{Timed}
use Rattle.trace_reader.specs.declared.opportunity.Opportunity.{Opportunity}
use Rattle.trace_reader.specs.Orders.{Each}

-- no moment is below the one before
abbrev pub Rising : List Timed → Type 0
Rising [] = Unit {0}
Rising (t ∷ ts) = Each (λ u. t.moment ≤ u.moment) ts × Rising ts

-- the same, the latest first
abbrev pub Falling : List Timed → Type 0
Falling [] = Unit {0}
Falling (t ∷ earlier) = Each (λ u. u.moment ≤ t.moment) earlier × Falling earlier

abbrev pub AreFalling : List Opportunity → Type 0
AreFalling [] = Unit {0}
AreFalling (o ∷ earlier) = Each (λ p. p.moment ≤ o.moment) earlier × AreFalling earlier
