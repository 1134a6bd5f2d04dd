use Rattle.std.proofs.Common.{ℕ, List, subst}
use Rattle.record_store.specs.StoreText.{StoreSays}
use Rattle.record_store.proofs.CutTextLaws.{before_cut}
use Rattle.record_store.proofs.cut_reading.read_before.Goals as goal

pub returns : goal.returns
returns c = before_cut c.args.text.now c.args.place c.read_text.result c.requires
    (subst (λ (l : List ℕ). StoreSays l c.read_text.result) c.first_bytes.ensures c.read_text.ensures)
