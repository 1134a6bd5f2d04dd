use Rattle.nest_spec.specs.views.MarkedRows.{rows_in}
use Rattle.nest_spec.proofs.Indexing.{numbered_at}
use Rattle.std.proofs.Common.{arith}
use Rattle.nest_spec.proofs.places.place_by_number.Goals as goal

pub returns : goal.returns
returns c = numbered_at (rows_in c.args.rows) c.args.id c.requires (omega arith) (omega arith)
