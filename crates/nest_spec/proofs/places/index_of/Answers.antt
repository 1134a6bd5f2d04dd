use Rattle.nest_spec.proofs.Indexing.{index_more}
use Rattle.nest_spec.proofs.places.index_of.Goals as goal

pub loop-i-preserved : goal.loop-i-preserved
loop-i-preserved c =
    index_more c.args.rows.now c.loop-i.i c.index-rows-i.result c.loop-i.index c.insert.new.self c.requires.apart
    c.loop-i-test.true c.index-rows-i.is c.loop-i.invariant c.in-Ok.ensures.updates.0
