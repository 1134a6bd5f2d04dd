use Rattle.std.proofs.Common.{sym}
use Rattle.nest_core.proofs.Stepping.{stepped, stepped_less, stepped_same, stepped_changed, stepped_keeps}
use Rattle.nest_core.proofs.Stepping.{stepped_actors}
use Rattle.nest_core.proofs.world.World.step.Goals as goal

pub returns-clause-ok : goal.returns-clause-ok
returns-clause-ok c = stepped c.args.self.now c.act.new.self c.args.actor c.actor_of.result c.act.result
    (sym c.actor_of.ensures) c.act.ensures.ok

pub returns-clause-changed : goal.returns-clause-changed
returns-clause-changed c = stepped_changed c.args.self.now c.act.new.self c.actor_of.result c.act.result
    c.reached.ensures c.act.ensures.ok c.act.ensures.did

pub returns-clause-same : goal.returns-clause-same
returns-clause-same c = stepped_same c.args.self.now c.act.new.self c.actor_of.result c.act.result
    c.reached.ensures c.act.ensures.ok c.act.ensures.did

pub returns-clause-less : goal.returns-clause-less
returns-clause-less c = stepped_less c.args.self.now c.act.new.self c.actor_of.result c.act.result
    c.reached.ensures c.act.ensures.ok c.act.ensures.did

pub returns-clause-keeps : goal.returns-clause-keeps
returns-clause-keeps c = stepped_keeps c.args.self.now c.act.new.self c.actor_of.result c.act.result
    c.reached.ensures c.act.ensures.ok c.act.ensures.err

pub returns-clause-actors : goal.returns-clause-actors
returns-clause-actors c = stepped_actors c.args.self.now c.act.new.self c.actor_of.result c.act.result
    c.act.ensures.ok c.act.ensures.err
