use Rattle.std.proofs.Common.{length}
use Rattle.request_match.proofs.IndexLemmas.{whole_moved}
use Rattle.request_match.proofs.index_entries.ordered_entries.Goals as goal

pub returns-clause-whole : goal.returns-clause-whole
returns-clause-whole c =
    whole_moved c.args.records.now c.args.port (length c.args.records.now) c.in_ok-entries.entries.items
    c.put_in_order.new.entries.items c.in_ok-entries.ensures.whole c.put_in_order.ensures.moved
