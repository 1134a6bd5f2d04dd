use Rattle.std.proofs.Common.{◌≡◌, ◌<◌, ℕ, List, length, get_or, map, take, vec_len}
use Rattle.std.specs.Option.{option_map}
use Rattle.option_words.specs.Options.{Opt, Use}
use Rattle.option_words.specs.Givens.{given}
use Rattle.option_words.specs.inside.Held.{HoldsUses}
use Rattle.option_words.specs.Values.{opt}
use Rattle.option_words.proofs.given.read_table.Given as goal

abbrev pub invariant-loop-option : goal.invariant-loop-option
invariant-loop-option l = record {
  count : vec_len l.texts ≡ l.option-index;
  texts : (us : List Use) → ((k : ℕ) (d : Opt) → k < length (map opt l.table)
      → HoldsUses l.matches us (get_or (map opt l.table) k d))
      → map (λ o. option_map (λ s. s.now) o) l.texts.items ≡ map (given us) (take l.option-index (map opt l.table));
}
