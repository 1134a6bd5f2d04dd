use Rattle.std.proofs.Common.{nat_le, rules}
use Rattle.std.proofs.lemmas.List.Sorted.{IsPartitionPoint-from_clause}
use Rattle.trace_reader.proofs.Counts.{partitioned, counted_by_point}
use Rattle.trace_reader.specs.declared.opportunity.Opportunity.{Opportunity}
use Rattle.trace_reader.proofs.trace.count_up_to.Goals as goal

pub returns-clause-count : goal.returns-clause-count
returns-clause-count c =
    let list = c.args.list.now in
    let point = IsPartitionPoint-from_clause (λ (o : Opportunity). nat_le o.moment c.args.moment) list
    c.partition_point.result c.partition_point.ensures.partitioned
    (partitioned c.args.moment list c.requires) (λ a r q k. search rules) in
    counted_by_point c.args.moment list c.partition_point.result c.partition_point.ensures.bound point.0 point.1
