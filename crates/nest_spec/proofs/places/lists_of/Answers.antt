use Rattle.nest_spec.proofs.Listing.{listed_more}
use Rattle.nest_spec.proofs.places.lists_of.Goals as goal

pub loop-i-preserved : goal.loop-i-preserved
loop-i-preserved c = (
  c.in_ok-list_place.ensures.long,
  listed_more c.args.rows.now c.loop-i.i c.index-rows-i.result c.loop-i.lists.items c.list_place.new.lists.items
      c.requires.apart c.loop-i-test.true c.index-rows-i.is c.loop-i.invariant.1 c.in_ok-list_place.ensures.here
      c.in_ok-list_place.ensures.kept,
)
