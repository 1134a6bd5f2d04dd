-- A front of a list that has its length.
use Rattle.std.proofs.Common.{◌≡◌, List, length, take, arith}
use Rattle.std.proofs.lemmas.List.{take_all}
use Rattle.trace_reader.specs.declared.opportunity.Opportunity.{Opportunity}

pub all_taken : (os : List Opportunity) → take (length os) os ≡ os
all_taken os = take_all (length os) os (omega arith)
