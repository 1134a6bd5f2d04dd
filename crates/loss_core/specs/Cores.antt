-- A loss as its callers see it.
use Rattle.std.specs.Prelude.{◌≡◌, ℕ, ◌+◌, List, [], ◌∷◌, ◌++◌, length, if◌then◌else◌}
use Rattle.packet_record.specs.declared.packet.Timed.{Timed}
use Rattle.loss_core.specs.declared.rate.Rate.{Rate}
use Rattle.loss_core.specs.Losses.{drops, dropped, passed}

-- its rate, the words that it has still to draw, and its lists of packets in the order of their arrival
pub record Loss (W : Type 0) : Type 0 where
  pub rate : Rate
  pub words : W
  pub arrivals : List Timed
  pub lost : List Timed
  pub departed : List Timed

-- One more arrival. The word at place 0 before it says whether it drops, and each place then has the word after it.
pub record Arrives {W : Type 0} (word_of : W → ℕ → ℕ) (old : Loss W) (t : Timed) (new : Loss W) : Type 0 where
  pub rate : new.rate ≡ old.rate
  pub arrivals : new.arrivals ≡ old.arrivals ++ t ∷ []
  pub lost : new.lost ≡ old.lost ++ (if drops old.rate.billionths (word_of old.words 0) then t ∷ [] else [])
  pub departed : new.departed ≡ old.departed ++ (if drops old.rate.billionths (word_of old.words 0) then [] else t ∷ [])
  pub next : (k : ℕ) → word_of new.words k ≡ word_of old.words (k + 1)

-- The lists are those of all arrivals by these words, of which the source has those after the last arrival's.
pub record Stands {W : Type 0} (word_of : W → ℕ → ℕ) (core : Loss W) (word : ℕ → ℕ) : Type 0 where
  pub lost : core.lost ≡ dropped core.rate.billionths word 0 core.arrivals
  pub departed : core.departed ≡ passed core.rate.billionths word 0 core.arrivals
  pub next : (k : ℕ) → word_of core.words k ≡ word (length core.arrivals + k)
