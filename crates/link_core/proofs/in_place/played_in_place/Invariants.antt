use Rattle.link_core.proofs.in_place.played_in_place.Given as goal

abbrev pub ghost-play_in_place : goal.ghost-play_in_place
ghost-play_in_place a = a.places.now.coming
