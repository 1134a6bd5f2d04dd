use Rattle.std.proofs.lemmas.List.Elements.{All-append, All-same}
use Rattle.record_store.specs.Records.{IsRecord}
use Rattle.record_store.proofs.record.Store.append.Goals as goal

pub invariant_of-self-2 : goal.invariant_of-self-2
invariant_of-self-2 c =
    All-same IsRecord _ _ c.in_ok-append.ensures.items (All-append IsRecord _ _ c.self.invariant c.other.invariant)
