use Rattle.mark_channel.proofs.channel.open.Given as goal

abbrev pub ghosts-split : goal.ghosts-split
ghosts-split a = record { horizon = a.horizon }
