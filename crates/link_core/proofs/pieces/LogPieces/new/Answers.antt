use Rattle.link_core.specs.inside.Sound.{nothing}
use Rattle.link_core.proofs.PlayLemmas.{sound_gone}
use Rattle.link_core.proofs.pieces.LogPieces.new.Goals as goal

pub invariant_of-result : goal.invariant_of-result
invariant_of-result c =
    let is = c.requires in
    (sound_gone nothing c.args.parts is.sound is.logged, is.playable, is.logged)
