use Rattle.command_stores.proofs.MatchLemmas.{best_inside}
use Rattle.command_stores.proofs.matching.best_number.Goals as goal

pub number_at-requires : goal.number_at-requires
number_at-requires c = best_inside c.args.request.now c.args.port c.args.store.now c.in-Some.place c.in-Some.ensures

pub returns-in-Some : goal.returns-in-Some
returns-in-Some c = (c.in-Some.place, c.in-Some.ensures, c.number_at.ensures)
