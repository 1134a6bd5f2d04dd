use Rattle.std.proofs.Common.{◌≡◌, map, take}
use Rattle.clap.specs.Words.{app_of}
use Rattle.option_words.specs.inside.ClapTable.{app_for}
use Rattle.option_words.specs.Values.{opt}
use Rattle.option_words.proofs.table.command_for.Given as goal

abbrev pub invariant-loop-option : goal.invariant-loop-option
invariant-loop-option l = app_of l.command ≡ app_for (map opt (take l.option-index l.table))
