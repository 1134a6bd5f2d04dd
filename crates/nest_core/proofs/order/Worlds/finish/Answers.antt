use Rattle.std.proofs.Common.{suc, ◌∙◌, ap}
use Rattle.nest_core.specs.Orders.{after_round}
use Rattle.nest_core.proofs.Ordering.{rounds_more, keep_on}
use Rattle.nest_core.proofs.order.Worlds.finish.Goals as goal

pub rounds-preserved : goal.rounds-preserved
rounds-preserved c =
    let made = c.rounds.invariant.made in
    record {
      made = (suc made.0, c.in_ok-round.ensures.ok ∙ ap after_round made.1 ∙ rounds_more made.0 c.args.self);
      keep = keep_on c.args.self c.rounds.worlds c.round.new.self c.rounds.invariant.keep c.in_ok-round.ensures.keep;
    }
