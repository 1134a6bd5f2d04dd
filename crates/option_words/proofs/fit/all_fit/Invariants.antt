use Rattle.std.proofs.Common.{◌≡◌, true, map, take, string_bytes}
use Rattle.std.specs.List.{list_all}
use Rattle.option_words.specs.inside.Options.{is_fit}
use Rattle.option_words.proofs.fit.all_fit.Given as goal

abbrev pub invariant-loop-word : goal.invariant-loop-word
invariant-loop-word l = list_all is_fit (map string_bytes (take l.word-index l.words)) ≡ true
