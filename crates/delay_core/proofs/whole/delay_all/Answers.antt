use Rattle.std.proofs.Common.{◌≡◌, take, sym, subst, rules, arith}
use Rattle.std.proofs.lemmas.Grind.{common_steps}
use Rattle.packet_record.specs.Moments.{AreUpTo}
use Rattle.packet_record.proofs.MomentsLemmas.{up_to_higher}
use Rattle.delay_core.proofs.Fronts.{up_to_take}
use Rattle.delay_core.proofs.whole.delay_all.Goals as goal

pub let_out-requires : goal.let_out-requires
let_out-requires c =
    let front : c.as_mut_slice.result.now ≡ take c.departing-count.result c.args.packets.now.items = search rules in
    subst (AreUpTo 3600000) (sym front)
    (up_to_take 3600000 _ _ (up_to_higher c.args.horizon 3600000 _ c.requires.horizon c.requires.within))

pub returns-clause-held : goal.returns-clause-held
returns-clause-held c = grind (arith, common_steps)
