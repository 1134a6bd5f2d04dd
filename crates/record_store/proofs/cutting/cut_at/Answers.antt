use Rattle.std.proofs.Common.{rules}
use Rattle.record_store.proofs.cutting.cut_at.Goals as goal

pub returns-then-end-bytes-clause-cut : goal.returns-then-end-bytes-clause-cut
returns-then-end-bytes-clause-cut c = search rules

pub returns-then-end-bytes-clause-inside : goal.returns-then-end-bytes-clause-inside
returns-then-end-bytes-clause-inside c = search rules

pub returns-then-bytes-end-ne10-clause-cut : goal.returns-then-bytes-end-ne10-clause-cut
returns-then-bytes-end-ne10-clause-cut c = search rules
