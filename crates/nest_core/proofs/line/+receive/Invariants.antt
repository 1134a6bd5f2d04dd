use Rattle.nest_core.proofs.line.+receive.Given as goal

abbrev pub decreases-receive : goal.decreases-receive
decreases-receive l = l.shell
