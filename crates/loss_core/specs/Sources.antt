-- What the sources of words have still to give.
use Rattle.std.specs.Prelude.{ℕ, ◌+◌, ◌%◌, ◌^◌, slice_index}
use Rattle.rand_chacha.specs.ChaCha.{word_at}
use Rattle.loss_core.specs.declared.words.ChaWords.{ChaWords}
use Rattle.loss_core.specs.declared.words.ListWords.{ListWords}

-- the word at place k from now
abbrev pub cha_words : ChaWords → ℕ → ℕ
cha_words words k = word_at 10 words.rng.key words.rng.stream ((words.rng.word_pos + k) % 2 ^ 68)

abbrev pub list_words : ListWords → ℕ → ℕ
list_words words k = slice_index words.list.items (words.place + k)
