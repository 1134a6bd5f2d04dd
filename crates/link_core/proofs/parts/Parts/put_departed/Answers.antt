use Rattle.std.proofs.Common.{length, ap, arith}
use Rattle.std.proofs.lemmas.List.{length-append}
use Rattle.link_core.proofs.FewLemmas.{departed_few}
use Rattle.link_core.proofs.parts.Parts.put_departed.Goals as goal

pub put-requires : goal.put-requires
put-requires g c =
    let now = c.args.self.now in
    let few = departed_few _ _ _ _ _ _ _ _ _ _ _ c.requires.0 in
    let both = length-append g.gone.departed now.departed.items in
    let same = ap length c.requires.1.0 in
    let hand = ap length c.as_slice.ensures.value in
    omega (arith, c.requires.1.1)
