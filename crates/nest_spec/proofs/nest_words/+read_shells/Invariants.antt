use Rattle.nest_spec.proofs.nest_words.+read_shells.Given as goal

abbrev pub decreases-read_shells : goal.decreases-read_shells
decreases-read_shells l = l.left
