use Rattle.std.proofs.Common.{◌≡◌, ◌∙◌, ◌<◌, List, length, get_or, ap, arith, rules}
use Rattle.record_store.specs.declared.record.Record.{Record}
use Rattle.record_store.proofs.PrintLemmas.{record_more}
use Rattle.record_store.proofs.printing.print_store.Goals as goal

pub loop-record-preserved : goal.loop-record-preserved
loop-record-preserved c =
    let at = c.loop-record in
    let same : c.records-record-items.result.now ≡ c.args.store.now = c.records-record-items.ensures.same in
    let within : at.record-index < length c.args.store.now = omega (arith, ap length same) in
    record_more c.args.store.now at.record-index c.record-item.result at.out c.write_record.new.out within
    (c.record-item.is ∙ ap (λ (rs : List Record). get_or rs at.record-index c.record-item.result) same) at.invariant
    c.in_ok-write_record.ensures

pub loop-record-init : goal.loop-record-init
loop-record-init c = search rules
