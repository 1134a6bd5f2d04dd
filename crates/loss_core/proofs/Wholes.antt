-- The loss over the packets up to a place.
use Rattle.std.proofs.Common.{◌≡◌, ℕ, ◌+◌, ◌<◌, Bool, true, false, cond, List, [], ◌∷◌, ◌++◌, length, get_or, take, ap}
use Rattle.std.proofs.Common.{sym, ◌∙◌, arith}
use Rattle.std.proofs.lemmas.List.{append-nil, length-take-le, take_more}
use Rattle.packet_record.specs.declared.packet.Timed.{Timed}
use Rattle.loss_core.specs.Losses.{drops, dropped, passed}
use Rattle.loss_core.proofs.LossLaws.{passed-append, dropped-append}

-- what the first n packets lose and let pass, and the words that are left
pub record Draws (rate : ℕ) (word rest : ℕ → ℕ) (ts : List Timed) (n : ℕ) (left gone : List Timed) : Type 0 where
  pub departed : left ≡ passed rate word 0 (take n ts)
  pub lost : gone ≡ dropped rate word 0 (take n ts)
  pub next : (k : ℕ) → rest k ≡ word (n + k)

module _ (rate : ℕ) (word : ℕ → ℕ) (ts : List Timed) (n : ℕ) (t : Timed) (lt : n < length ts)
    (read : t ≡ get_or ts n t) where
  front : take (n + 1) ts ≡ take n ts ++ t ∷ []
  front = take_more ts n t lt ∙ ap (λ u. take n ts ++ u ∷ []) (sym read)

  long : 0 + length (take n ts) ≡ n
  long = let e = length-take-le n ts (omega arith) in omega arith

  passes_more : passed rate word 0 (take (n + 1) ts) ≡ passed rate word 0 (take n ts)
      ++ cond (drops rate (word n)) [] (t ∷ [])
  passes_more =
      ap (passed rate word 0) front ∙ passed-append rate word 0 (take n ts) (t ∷ [])
      ∙ ap (λ j. passed rate word 0 (take n ts) ++ passed rate word j (t ∷ [])) long
      ∙ ap (λ l. passed rate word 0 (take n ts) ++ l) (append-nil (cond (drops rate (word n)) [] (t ∷ [])))

  drops_more : dropped rate word 0 (take (n + 1) ts) ≡ dropped rate word 0 (take n ts)
      ++ cond (drops rate (word n)) (t ∷ []) []
  drops_more =
      ap (dropped rate word 0) front ∙ dropped-append rate word 0 (take n ts) (t ∷ [])
      ∙ ap (λ j. dropped rate word 0 (take n ts) ++ dropped rate word j (t ∷ [])) long
      ∙ ap (λ l. dropped rate word 0 (take n ts) ++ l) (append-nil (cond (drops rate (word n)) (t ∷ []) []))

-- one packet more passes, or is lost
module _ (rate : ℕ) (word rest rest' : ℕ → ℕ) (ts : List Timed) (n : ℕ) (t : Timed)
    (left gone left' gone' : List Timed) (lt : n < length ts) (read : t ≡ get_or ts n t)
    (draws : Draws rate word rest ts n left gone) (after : (k : ℕ) → rest' k ≡ rest (k + 1)) where
  next_word : (k : ℕ) → rest' k ≡ word (n + 1 + k)
  next_word k = after k ∙ draws.next (k + 1) ∙ ap word (let e : n + (k + 1) ≡ n + 1 + k = omega arith in e)

  pub one_lost : drops rate (word n) ≡ true → left' ≡ left → gone' ≡ gone ++ t ∷ []
      → Draws rate word rest' ts (n + 1) left' gone'
  one_lost test same pushed =
      let both = λ (b : Bool). passed rate word 0 (take n ts) ++ cond b [] (t ∷ []) in
      record {
        departed = same ∙ draws.departed ∙ sym (append-nil (passed rate word 0 (take n ts)))
            ∙ sym (passes_more rate word ts n t lt read ∙ ap both test);
        lost = pushed ∙ ap (λ l. l ++ t ∷ []) draws.lost
            ∙ sym (drops_more rate word ts n t lt read
            ∙ ap (λ b. dropped rate word 0 (take n ts) ++ cond b (t ∷ []) []) test);
        next = next_word;
      }

  pub one_passes : drops rate (word n) ≡ false → left' ≡ left ++ t ∷ [] → gone' ≡ gone
      → Draws rate word rest' ts (n + 1) left' gone'
  one_passes test pushed same = record {
    departed = pushed ∙ ap (λ l. l ++ t ∷ []) draws.departed
        ∙ sym (passes_more rate word ts n t lt read ∙ ap (λ b. passed rate word 0 (take n ts) ++ cond b [] (t ∷ []))
        test);
    lost = same ∙ draws.lost ∙ sym (append-nil (dropped rate word 0 (take n ts)))
        ∙ sym (drops_more rate word ts n t lt read ∙ ap (λ b. dropped rate word 0 (take n ts) ++ cond b (t ∷ []) [])
        test);
    next = next_word;
  }
