use Rattle.std.proofs.Common.{◌≡◌, drop, length}
use Rattle.link_core.specs.inside.InPlace.{IsBetweenPieces, gone_in}
use Rattle.link_core.specs.inside.Same.{IsSameLink}
use Rattle.link_core.proofs.parts.Parts.play_in_place.Given as goal

abbrev pub invariant-pieces : goal.invariant-pieces
invariant-pieces g l = record {
  between : IsBetweenPieces (gone_in g.arrivals l.places) l.last l.self l.places;
  coming : l.places.coming ≡ drop l.places.entered g.arrivals;
  link : IsSameLink l.fn.self l.self;
}

abbrev pub decreases-pieces : goal.decreases-pieces
decreases-pieces g l = length l.places.coming

abbrev pub ghost-play_piece : goal.ghost-play_piece
ghost-play_piece g a = gone_in g.arrivals a.places.now

abbrev pub ghost-play_rest : goal.ghost-play_rest
ghost-play_rest g a = gone_in g.arrivals a.places.now
