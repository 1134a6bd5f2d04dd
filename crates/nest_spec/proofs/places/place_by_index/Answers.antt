use Rattle.std.proofs.Common.{◌∙◌}
use Rattle.nest_spec.specs.views.MarkedRows.{rows_in}
use Rattle.nest_spec.proofs.Indexing.{placed}
use Rattle.nest_spec.proofs.places.place_by_index.Goals as goal

pub returns : goal.returns
returns c = placed (rows_in c.args.rows) c.args.index.now c.args.id c.copied.result c.requires (c.copied.ensures
    ∙ c.get.ensures.value)
