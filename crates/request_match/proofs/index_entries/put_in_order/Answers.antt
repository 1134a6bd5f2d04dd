use Rattle.std.proofs.Common.{rules}
use Rattle.std.proofs.lemmas.List.Sorted.{IsNonDecreasingBy-from_sort_by_key, IsPermutation-trans}
use Rattle.request_match.specs.inside.Index.{Entry}
use Rattle.request_match.proofs.index_entries.put_in_order.Goals as goal

pub returns-clause-moved : goal.returns-clause-moved
returns-clause-moved c =
    IsPermutation-trans _ _ _ c.sort_unstable_by.ensures.permutation c.sort_by_key.ensures.permutation

pub returns-clause-ordered : goal.returns-clause-ordered
returns-clause-ordered c =
    IsNonDecreasingBy-from_sort_by_key (λ (e : Entry). e.0) _ c.in_ok-sort_by_key.ensures.sorted
    (λ a r q k. search rules)
