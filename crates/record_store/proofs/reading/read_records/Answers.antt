use Rattle.std.proofs.Common.{sym, subst}
use Rattle.record_store.specs.StoreText.{Reaches}
use Rattle.record_store.proofs.StoreLaws.{begins, place_of_rest}
use Rattle.record_store.proofs.reading.read_records.Goals as goal

pub returns : goal.returns
returns c =
    let form = c.args.form in
    let text = c.args.text.now in
    let store = c.new.result in
    let start = begins form text store c.requires c.new.ensures in
    c.read_rest.ensures text (subst (Reaches form text store) (sym c.from_place-bytes.ensures) start.1)
    (place_of_rest form text store 10 start.0 start.1)
