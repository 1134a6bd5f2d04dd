use Rattle.std.proofs.Common.{◌∙◌, sym}
use Rattle.nest_spec.specs.views.MarkedRows.{rows_in}
use Rattle.nest_spec.proofs.Listing.{nowhere_listed}
use Rattle.nest_spec.proofs.places.place_by_lists.Goals as goal

pub returns-in_default : goal.returns-in_default
returns-in_default c = nowhere_listed (rows_in c.args.rows) c.args.lists.now c.args.id c.requires
    (sym c.place_in.ensures ∙ c.in_default.is)
