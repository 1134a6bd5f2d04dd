-- The loss over longer lists.
use Rattle.std.proofs.Common.{◌≡◌, ℕ, ◌+◌, ◌≤◌, Bool, true, false, cond, List, [], ◌∷◌, ◌++◌, length, ap, sym, ◌∙◌}
use Rattle.std.proofs.Common.{append_assoc, arith}
use Rattle.std.proofs.lemmas.List.{append-nil, length-append}
use Rattle.packet_record.specs.declared.packet.Timed.{Timed}
use Rattle.packet_record.specs.Moments.{AreFrom, AreUpTo, Rise}
use Rattle.loss_core.specs.Losses.{drops, dropped, passed}
use Rattle.loss_core.specs.Cores.{Loss, Arrives, Stands}

module _ (rate : ℕ) (word : ℕ → ℕ) where
  pub passed-append : (k : ℕ) (xs ys : List Timed) → passed rate word k (xs ++ ys) ≡ passed rate word k xs
      ++ passed rate word (k + length xs) ys
  passed-append k [] ys = ap (λ j. passed rate word j ys) (omega arith)
  passed-append k (x ∷ xs) ys =
      let first = cond (drops rate (word k)) [] (x ∷ []) in
      ap (λ l. first ++ l) (passed-append (k + 1) xs ys
      ∙ ap (λ j. passed rate word (k + 1) xs ++ passed rate word j ys) (omega arith))
      ∙ sym (append_assoc first (passed rate word (k + 1) xs) _)

  pub dropped-append : (k : ℕ) (xs ys : List Timed) → dropped rate word k (xs ++ ys) ≡ dropped rate word k xs
      ++ dropped rate word (k + length xs) ys
  dropped-append k [] ys = ap (λ j. dropped rate word j ys) (omega arith)
  dropped-append k (x ∷ xs) ys =
      let first = cond (drops rate (word k)) (x ∷ []) [] in
      ap (λ l. first ++ l) (dropped-append (k + 1) xs ys
      ∙ ap (λ j. dropped rate word (k + 1) xs ++ dropped rate word j ys) (omega arith))
      ∙ sym (append_assoc first (dropped rate word (k + 1) xs) _)

  from_kept : (m : ℕ) (b : Bool) (t : Timed) (us : List Timed) → m ≤ t.moment → AreFrom m us
      → AreFrom m (cond b [] (t ∷ []) ++ us)
  from_kept m true t us le h = h
  from_kept m false t us le h = (le, h)

  -- what passes is not before the arrivals
  pub from-passed : (m k : ℕ) (ts : List Timed) → AreFrom m ts → AreFrom m (passed rate word k ts)
  from-passed m k [] h = tt
  from-passed m k (t ∷ ts) h = from_kept m (drops rate (word k)) t _ h.0 (from-passed m (k + 1) ts h.1)

  up_kept : (m : ℕ) (b : Bool) (t : Timed) (us : List Timed) → t.moment ≤ m → AreUpTo m us
      → AreUpTo m (cond b [] (t ∷ []) ++ us)
  up_kept m true t us le h = h
  up_kept m false t us le h = (le, h)

  -- nor after them
  pub up_to-passed : (m k : ℕ) (ts : List Timed) → AreUpTo m ts → AreUpTo m (passed rate word k ts)
  up_to-passed m k [] h = tt
  up_to-passed m k (t ∷ ts) h = up_kept m (drops rate (word k)) t _ h.0 (up_to-passed m (k + 1) ts h.1)

  up_lost : (m : ℕ) (b : Bool) (t : Timed) (us : List Timed) → t.moment ≤ m → AreUpTo m us
      → AreUpTo m (cond b (t ∷ []) [] ++ us)
  up_lost m true t us le h = (le, h)
  up_lost m false t us le h = h

  -- and what is dropped is not after them either
  pub up_to-dropped : (m k : ℕ) (ts : List Timed) → AreUpTo m ts → AreUpTo m (dropped rate word k ts)
  up_to-dropped m k [] h = tt
  up_to-dropped m k (t ∷ ts) h = up_lost m (drops rate (word k)) t _ h.0 (up_to-dropped m (k + 1) ts h.1)

  rise_kept : (b : Bool) (t : Timed) (us : List Timed) → AreFrom t.moment us → Rise us → Rise (cond b [] (t ∷ []) ++ us)
  rise_kept true t us f h = h
  rise_kept false t us f h = (f, h)

  pub rise-passed : (k : ℕ) (ts : List Timed) → Rise ts → Rise (passed rate word k ts)
  rise-passed k [] r = tt
  rise-passed k (t ∷ ts) r = rise_kept (drops rate (word k)) t _ (from-passed t.moment (k + 1) ts r.0)
      (rise-passed (k + 1) ts r.1)

-- one more arrival keeps the law of the loss
pub arrives_stands : {W : Type 0} (word_of : W → ℕ → ℕ) (old new : Loss W) (t : Timed) (word : ℕ → ℕ)
    → Arrives word_of old t new → Stands word_of old word → Stands word_of new word
arrives_stands word_of old new t word a s =
    let r = old.rate.billionths in
    let xs = old.arrivals in
    let here : word_of old.words 0 ≡ word (0 + length xs) = s.next 0
    ∙ ap word (let e : length xs + 0 ≡ 0 + length xs = omega arith in e) in
    let long : length new.arrivals ≡ length xs + 1 = ap length a.arrivals ∙ length-append xs (t ∷ []) in
    let lost_one : (b : Bool) → dropped r word 0 xs ++ cond b (t ∷ []) [] ≡ dropped r word 0 xs
    ++ (cond b (t ∷ []) [] ++ []) = λ b. ap (λ ts. dropped r word 0 xs ++ ts)
    (sym (append-nil (cond b (t ∷ []) []))) in
    let passed_one : (b : Bool) → passed r word 0 xs ++ cond b [] (t ∷ []) ≡ passed r word 0 xs
    ++ (cond b [] (t ∷ []) ++ []) = λ b. ap (λ ts. passed r word 0 xs ++ ts)
    (sym (append-nil (cond b [] (t ∷ [])))) in
    record {
      lost = a.lost ∙ ap (λ ts. ts ++ cond (drops r (word_of old.words 0)) (t ∷ []) []) s.lost
          ∙ ap (λ n. dropped r word 0 xs ++ cond (drops r n) (t ∷ []) []) here
          ∙ lost_one _ ∙ sym (dropped-append r word 0 xs (t ∷ []))
          ∙ ap (λ ts. dropped r word 0 ts) (sym a.arrivals) ∙ ap (λ rate. dropped rate.billionths word 0 new.arrivals)
          (sym a.rate);
      departed = a.departed ∙ ap (λ ts. ts ++ cond (drops r (word_of old.words 0)) [] (t ∷ [])) s.departed
          ∙ ap (λ n. passed r word 0 xs ++ cond (drops r n) [] (t ∷ [])) here
          ∙ passed_one _ ∙ sym (passed-append r word 0 xs (t ∷ []))
          ∙ ap (λ ts. passed r word 0 ts) (sym a.arrivals)
          ∙ ap (λ rate. passed rate.billionths word 0 new.arrivals) (sym a.rate);
      next = λ k. a.next k ∙ s.next (k + 1)
          ∙ ap word (let e : length xs + (k + 1) ≡ length new.arrivals + k = omega arith in e);
    }
