use Rattle.shell_cell.proofs.cell.ShellCell.take.Given as goal

abbrev pub ghosts-spend : goal.ghosts-spend
ghosts-spend g a = record { call = a._call }
