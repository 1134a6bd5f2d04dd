use Rattle.std.proofs.Common.{All, sym, subst}
use Rattle.std.proofs.lemmas.List.Elements.{All-push}
use Rattle.record_store.specs.Records.{IsRecord}
use Rattle.record_store.proofs.record.Store.add.Goals as goal

pub invariant_of-self-2 : goal.invariant_of-self-2
invariant_of-self-2 c =
    subst (All IsRecord) (sym c.in_ok-push.ensures.items)
    (All-push IsRecord c.self.inside.records.items c.args.exchange c.self.invariant c.requires)
