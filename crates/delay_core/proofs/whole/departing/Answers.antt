use Rattle.std.proofs.Common.{◌+◌, map, nat_le, ap, rules}
use Rattle.std.proofs.lemmas.List.Sorted.{IsPartitionPoint-from_clause}
use Rattle.packet_record.specs.declared.packet.Timed.{Timed}
use Rattle.delay_core.specs.Delays.{later}
use Rattle.delay_core.proofs.Fronts.{filter_front, filter_rest, parted}
use Rattle.delay_core.proofs.whole.departing.Goals as goal

pub returns-clause-departed : goal.returns-clause-departed
returns-clause-departed c =
    let test = λ (t : Timed). nat_le (t.moment + c.args.rule.delay) c.args.rule.until in
    let point = IsPartitionPoint-from_clause test _ _ c.partition_point.ensures.partitioned
    (parted c.args.rule.delay c.args.rule.until _ c.requires) (λ a r q k. search rules) in
    ap (map (later c.args.rule.delay)) (filter_front test _ _ (λ k d. point.0 k d (search rules)) point.1)

pub returns-clause-held : goal.returns-clause-held
returns-clause-held c =
    let test = λ (t : Timed). nat_le (t.moment + c.args.rule.delay) c.args.rule.until in
    let point = IsPartitionPoint-from_clause test _ _ c.partition_point.ensures.partitioned
    (parted c.args.rule.delay c.args.rule.until _ c.requires) (λ a r q k. search rules) in
    filter_rest test _ _ (λ k d. point.0 k d (search rules)) point.1
