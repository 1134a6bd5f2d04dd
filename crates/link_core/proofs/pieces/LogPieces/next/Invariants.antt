use Rattle.link_core.specs.inside.Play.{gone_of}
use Rattle.link_core.proofs.pieces.LogPieces.next.Given as goal

abbrev pub ghost-let_go : goal.ghost-let_go
ghost-let_go a = gone_of a.self.now

abbrev pub ghost-fill : goal.ghost-fill
ghost-fill a = gone_of a.self.now
