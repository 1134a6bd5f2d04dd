-- Which packets a loss drops, by its words.
use Rattle.std.specs.Prelude.{ℕ, ◌+◌, ◌*◌, ◌^◌, ◌%◌, Bool, List, [], ◌∷◌, ◌++◌, nat_lt, replicate, if◌then◌else◌}
use Rattle.std.specs.Int.{w64, to_le_bytes}
use Rattle.rand_chacha.specs.ChaCha.{word_at, key_of}
use Rattle.packet_record.specs.declared.packet.Timed.{Timed}

-- The word at a place of the words of a seed and a stream: a word of the ChaCha20 block function, whose 10 double
-- rounds are its 20 rounds. They come again after 2 ^ 68 words, the words of 2 ^ 64 blocks.
abbrev pub cha_word : ℕ → ℕ → ℕ → ℕ
cha_word seed stream place = word_at 10 (key_of (to_le_bytes w64 seed ++ replicate 24 0)) stream (place % 2 ^ 68)

-- the word drops a packet at this rate, in billionths
abbrev pub drops : ℕ → ℕ → Bool
drops rate word = nat_lt (word * 1000000000) (rate * 4294967296)

-- the packets that are dropped, where the first has the word at place k, the next that at place k + 1, and so on
abbrev pub dropped : ℕ → (ℕ → ℕ) → ℕ → List Timed → List Timed
dropped rate word k [] = []
dropped rate word k (t ∷ ts) = (if drops rate (word k) then t ∷ [] else []) ++ dropped rate word (k + 1) ts

-- the packets that pass, likewise
abbrev pub passed : ℕ → (ℕ → ℕ) → ℕ → List Timed → List Timed
passed rate word k [] = []
passed rate word k (t ∷ ts) = (if drops rate (word k) then [] else t ∷ []) ++ passed rate word (k + 1) ts
