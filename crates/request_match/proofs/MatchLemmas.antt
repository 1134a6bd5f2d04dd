-- One more record.
use Rattle.std.proofs.Common.{suc, true, false, Bool, None, Some, ◌≡◌, ◌∙◌, ℕ, ◌+◌, ◌<◌, ◌≤◌, List, [], ◌∷◌, ◌++◌}
use Rattle.std.proofs.Common.{length, take, drop, get_or, cond, refl, sym, ap, subst, arith, append_assoc}
use Rattle.std.proofs.Common.{inl, inr}
use Rattle.std.specs.Prelude.{◌==◌, Option, option_map, nat_lt, All, Decides}
use Rattle.std.proofs.Math.Bool.{true≢false}
use Rattle.std.proofs.Math.Seq.{drop-cons}
use Rattle.std.proofs.lemmas.Bool.{cases_lt}
use Rattle.std.proofs.lemmas.Bool.Decides.{Decides-eqb}
use Rattle.std.proofs.lemmas.List.{drop_all, take_all, take_more, length-take-le}
use Rattle.std.proofs.lemmas.List.Sums.{position_or_len_is}
use Rattle.std.proofs.lemmas.List.Elements.{All-push}
use Rattle.http_frame.specs.declared.messages.RequestHead.{RequestHead}
use Rattle.record_store.specs.declared.record.Record.{Record}
use Rattle.request_match.specs.Match.{stripped, common, score, Agrees, IsBest, NoneAgrees, BestCause}
use Rattle.request_match.specs.inside.Match.{BestSoFar, better_of}

-- ---- the common front

pub common_step : (a b : List ℕ) (i : ℕ) → i < length a → i < length b → get_or a i 0 ≡ get_or b i 0
    → common (drop i a) (drop i b) ≡ 1 + common (drop (i + 1) a) (drop (i + 1) b)
common_step a b i p q e =
    ap (λ ys. common ys (drop i b)) (drop-cons a i 0 p)
    ∙ ap (λ ys. common (get_or a i 0 ∷ drop (suc i) a) ys) (drop-cons b i 0 q)
    ∙ ap (λ t. cond t (1 + common (drop (suc i) a) (drop (suc i) b)) 0)
    ((Decides-eqb (get_or a i 0) (get_or b i 0)).1 e)
    ∙ ap (λ n. 1 + common (drop n a) (drop n b)) (let e : suc i ≡ i + 1 = omega arith in e)

pub common_end : (a b : List ℕ) → common a [] ≡ 0
common_end [] b = refl
common_end (x ∷ a) b = refl

pub common_stop : (a b : List ℕ) (i : ℕ) → i < length a → i < length b → (get_or a i 0 ≡ get_or b i 0 → ⊥)
    → common (drop i a) (drop i b) ≡ 0
common_stop a b i p q differ =
    ap (λ ys. common ys (drop i b)) (drop-cons a i 0 p)
    ∙ ap (λ ys. common (get_or a i 0 ∷ drop (suc i) a) ys) (drop-cons b i 0 q)
    ∙ ap (λ t. cond t (1 + common (drop (suc i) a) (drop (suc i) b)) 0) (other (get_or a i 0 == get_or b i 0) refl)
  where
    other : (t : Bool) → (get_or a i 0 == get_or b i 0) ≡ t → (get_or a i 0 == get_or b i 0) ≡ false
    other true e = absurd (differ ((Decides-eqb (get_or a i 0) (get_or b i 0)).0 e))
    other false e = e

pub common_left : (a b : List ℕ) (i : ℕ) → length a ≤ i → common (drop i a) (drop i b) ≡ 0
common_left a b i over = ap (λ ys. common ys (drop i b)) (drop_all i a over)

pub common_right : (a b : List ℕ) (i : ℕ) → length b ≤ i → common (drop i a) (drop i b) ≡ 0
common_right a b i over = ap (common (drop i a)) (drop_all i b over) ∙ common_end (drop i a) b

-- ---- before the first `?`

other_byte : (b : ℕ) → (b ≡ 63 → ⊥) → (b == 63) ≡ false
other_byte b differ = go (b == 63) refl
  where
    go : (t : Bool) → (b == 63) ≡ t → (b == 63) ≡ false
    go true e = absurd (differ ((Decides-eqb b 63).0 e))
    go false e = e

pub none_more : (line : List ℕ) (i : ℕ) → ((k : ℕ) → k < i → (get_or line k 0 == 63) ≡ false)
    → (get_or line i 0 ≡ 63 → ⊥) → (k : ℕ) → k < i + 1 → (get_or line k 0 == 63) ≡ false
none_more line i h differ k small = elim (cases_lt k i) [
  | inl less ↦ h k less
  | inr past ↦ ap (λ n. get_or line n 0 == 63) (let e : k ≡ i = omega (arith, small, past) in e)
      ∙ other_byte (get_or line i 0) differ
]

pub stripped_at : (line : List ℕ) (i : ℕ) → i < length line → ((k : ℕ) → k < i → (get_or line k 0 == 63) ≡ false)
    → get_or line i 0 ≡ 63 → take i line ≡ stripped line
stripped_at line i inside h here =
    ap (λ n. take n line) (sym (position_or_len_is (λ b. b == 63) line i 0 (omega (arith, inside)) h
    (λ less. (Decides-eqb (get_or line i 0) 63).1 here)))

pub stripped_all : (line : List ℕ) (i : ℕ) → i ≡ length line → ((k : ℕ) → k < i → (get_or line k 0 == 63) ≡ false)
    → line ≡ stripped line
stripped_all line i whole h =
    sym (take_all i line (omega (arith, whole)))
    ∙ ap (λ n. take n line) (sym (position_or_len_is (λ b. b == 63) line i 0 (omega (arith, whole)) h
    (λ less. absurd (omega (arith, less, whole)))))

pub refuse : {P : Type 0} → (P → ⊥) → Decides false P
refuse out = ((λ e. absurd (true≢false (sym e))), (λ p. absurd (out p)))

-- ---- one more record

module _ (q : RequestHead) (asked : Option ℕ) where
  pub other_record : (rs : List Record) (r : Record) (f : Option (ℕ × ℕ)) → BestSoFar q asked rs f
      → (Agrees q asked r → ⊥) → BestSoFar q asked (rs ++ r ∷ []) f
  other_record rs r None x out = All-push (λ r. Agrees q asked r → ⊥) rs r x out
  other_record rs r (Some f) x out =
      let b = x.0 in (
        record {
          before = b.before;
          best = b.best;
          after = b.after ++ r ∷ [];
          split = ap (λ ys. ys ++ r ∷ []) b.split ∙ append_assoc b.before (b.best ∷ b.after) (r ∷ []);
          place_is = b.place_is;
          agrees = b.agrees;
          greatest = All-push (λ r. Agrees q asked r → score q r ≤ score q b.best) rs r b.greatest
              (λ good. absurd (out good));
          first = b.first;
        },
        x.1,
      )

  new_best : (rs : List Record) (r : Record) → Agrees q asked r
      → All (λ k. Agrees q asked k → score q k < score q r) rs → IsBest q asked (rs ++ r ∷ []) (length rs)
  new_best rs r good below = record {
    before = rs;
    best = r;
    after = [];
    split = refl;
    place_is = refl;
    agrees = good;
    greatest = All-push (λ k. Agrees q asked k → score q k ≤ score q r) rs r (λ k d small a. let b = below k d small a
        in omega (arith, b)) (λ a. omega arith);
    first = below;
  }

  pub agreeing_record : (rs : List Record) (r : Record) (f : Option (ℕ × ℕ)) → BestSoFar q asked rs f → Agrees q asked r
      → BestSoFar q asked (rs ++ r ∷ []) (better_of f (length rs) (score q r))
  unfolding new_best
  agreeing_record rs r None x good = (new_best rs r good (λ k d small a. absurd (x k d small a)), refl)
  agreeing_record rs r (Some f) x good = go (nat_lt f.1 (score q r)) refl
    where
      b : IsBest q asked rs f.0
      b = x.0

      keep : score q r ≤ f.1 → BestSoFar q asked (rs ++ r ∷ []) (Some (f.0, f.1))
      keep low = (
        record {
          before = b.before;
          best = b.best;
          after = b.after ++ r ∷ [];
          split = ap (λ ys. ys ++ r ∷ []) b.split ∙ append_assoc b.before (b.best ∷ b.after) (r ∷ []);
          place_is = b.place_is;
          agrees = b.agrees;
          greatest = All-push (λ r. Agrees q asked r → score q r ≤ score q b.best) rs r b.greatest
              (λ a. omega (arith, low, x.1));
          first = b.first;
        },
        x.1,
      )

      take_new : f.1 < score q r → BestSoFar q asked (rs ++ r ∷ []) (Some (length rs, score q r))
      take_new high = (
        new_best rs r good (λ k d small a. let g = b.greatest k d small a
            in omega (arith, g, high, x.1)),
        refl,
      )

      go : (t : Bool) → nat_lt f.1 (score q r) ≡ t
          → BestSoFar q asked (rs ++ r ∷ []) (cond t (Some (length rs, score q r)) (Some (f.0, f.1)))
      go true e = take_new (above f.1 (score q r) e)
        where
          above : (m n : ℕ) → nat_lt m n ≡ true → m < n
          above m n e = grind (arith, e)
      go false e = keep (below f.1 (score q r) e)
        where
          below : (m n : ℕ) → nat_lt m n ≡ false → n ≤ m
          below m n e = grind (arith, e)

  -- ---- the next record of a list

  next_is : (records : List Record) (i : ℕ) (r : Record) → i < length records → r ≡ get_or records i r
      → take i records ++ r ∷ [] ≡ take (i + 1) records
  next_is records i r inside is = ap (λ k. take i records ++ k ∷ []) is ∙ sym (take_more records i r inside)

  pub step_agrees : (records : List Record) (i most : ℕ) (r : Record) (found next : Option (ℕ × ℕ))
      → i < length records → r ≡ get_or records i r
      → BestSoFar q asked (take i records) found → Agrees q asked r → most ≡ score q r → next ≡ better_of found i most
      → BestSoFar q asked (take (i + 1) records) next
  step_agrees records i most r found next inside is so good most_is next_is_it =
      let long : length (take i records) ≡ i = length-take-le i records (omega (arith, inside)) in
      let there = agreeing_record (take i records) r found so good in
      let same : better_of found (length (take i records)) (score q r) ≡ next =
      ap (λ n. better_of found n (score q r)) long ∙ ap (better_of found i) (sym most_is) ∙ sym next_is_it in
      subst (BestSoFar q asked (take (i + 1) records)) same
      (subst (λ rs. BestSoFar q asked rs (better_of found (length (take i records)) (score q r)))
      (next_is records i r inside is) there)

  pub step_other : (records : List Record) (i : ℕ) (r : Record) (found next : Option (ℕ × ℕ)) → i < length records
      → r ≡ get_or records i r
      → BestSoFar q asked (take i records) found → (Agrees q asked r → ⊥) → next ≡ found
      → BestSoFar q asked (take (i + 1) records) next
  step_other records i r found next inside is so out same =
      subst (BestSoFar q asked (take (i + 1) records)) (sym same)
      (subst (λ rs. BestSoFar q asked rs found) (next_is records i r inside is)
      (other_record (take i records) r found so out))

  pub none_found : (records store : List Record) (i : ℕ) (found : Option (ℕ × ℕ))
      → BestSoFar q asked (take i records) found → found ≡ None → i ≡ length records → records ≡ store
      → NoneAgrees q asked store
  none_found records store i found so is whole same =
      subst (NoneAgrees q asked) (take_all i records (omega (arith, whole)) ∙ same)
      (subst (BestSoFar q asked (take i records)) is so)

  pub some_found : (records store : List Record) (i : ℕ) (found : Option (ℕ × ℕ)) (f : ℕ × ℕ)
      → BestSoFar q asked (take i records) found → found ≡ Some f → i ≡ length records → records ≡ store
      → IsBest q asked store f.0
  some_found records store i found f so is whole same =
      subst (λ rs. IsBest q asked rs f.0) (take_all i records (omega (arith, whole)) ∙ same)
      (subst (BestSoFar q asked (take i records)) is so).0

  pub best_found : (records store : List Record) (i : ℕ) (found : Option (ℕ × ℕ))
      → BestSoFar q asked (take i records) found → i ≡ length records → records ≡ store
      → BestCause q asked store (option_map (λ (f : ℕ × ℕ). f.0) found)
  best_found records store i None so whole same = none_found records store i None so refl whole same
  best_found records store i (Some f) so whole same = some_found records store i (Some f) f so refl whole same
