-- From an index to the best record.
use Rattle.std.proofs.Common.{suc, true, false, Bool, None, Some, ◌≡◌, ◌∙◌, ◌⊎◌, inl, inr, ℕ, ◌+◌, ◌-◌, ◌<◌, ◌≤◌}
use Rattle.std.proofs.Common.{List, [], ◌∷◌, ◌++◌, length, take, drop, get_or, cond, refl, sym, ap, subst, arith}
use Rattle.std.specs.Prelude.{Option, nat_lt, All, Contains, option_map, slice_get, unwrap_or, ◌||◌, ◌&&◌, ◌==◌}
use Rattle.std.specs.Prelude.{IsPermutation, min}
use Rattle.std.proofs.Math.Bool.{true≢false}
use Rattle.std.proofs.Math.Seq.{drop-cons}
use Rattle.std.proofs.lemmas.Bool.{cases_lt}
use Rattle.std.proofs.lemmas.Bool.Decides.{Decides-eqb}
use Rattle.std.proofs.lemmas.List.{take-append-drop, length-take-le, get_or-take, get_or_default}
use Rattle.std.proofs.lemmas.List.Elements.{All-push, Contains-push, Contains-append_left}
use Rattle.std.proofs.lemmas.List.Sorted.{Contains-permutation}
use Rattle.std.proofs.lemmas.Option.{slice_get-get_or, get_or_from_slice_get, slice_get_within, slice_get_read}
use Rattle.http_frame.specs.declared.messages.RequestHead.{RequestHead}
use Rattle.record_store.specs.declared.record.Record.{Record}
use Rattle.request_match.specs.Match.{FitsPort, Agrees, common, score, BestCause, stripped}
use Rattle.request_match.specs.inside.Index.{Entry, IsEntry, HasAllTo, IsIndex, key_of, hash_of_bytes, entry_at}
use Rattle.request_match.specs.inside.Index.{offered, IsShared, HasFront, HasScore, HasNear, NoneBefore, BestBefore}
use Rattle.request_match.specs.inside.Index.{Scanned, Stands}
use Rattle.request_match.proofs.FrontLemmas.{front_above}

-- ---- keys

pub same_key : (q : RequestHead) (asked : Option ℕ) (r : Record) → Agrees q asked r → key_of r.request.head ≡ key_of q
unfolding key_of
same_key q asked r a =
    ap (λ s. hash_of_bytes (hash_of_bytes (hash_of_bytes 0 s) (unwrap_or r.request.head.host []))
    (unwrap_or r.request.head.agent [])) a.line
    ∙ ap (λ h. hash_of_bytes (hash_of_bytes (hash_of_bytes 0 (stripped q.line)) (unwrap_or h []))
    (unwrap_or r.request.head.agent [])) a.host
    ∙ ap (λ g. hash_of_bytes (hash_of_bytes (hash_of_bytes 0 (stripped q.line)) (unwrap_or q.host []))
    (unwrap_or g [])) a.agent

-- ---- one more entry

some_same : (o : Option Record) (r s : Record) → o ≡ Some r → o ≡ Some s → s ≡ r
some_same o r s e f = ap (λ v. unwrap_or v r) (sym f ∙ e)

pub lt_true : (m n : ℕ) → nat_lt m n ≡ true → m < n
lt_true m n e = grind (arith, e)

lt_false : (m n : ℕ) → nat_lt m n ≡ false → n ≤ m
lt_false m n e = grind (arith, e)

strictly : (most n : ℕ) → n ≤ most → (most ≡ n → ⊥) → n < most
strictly most n low differ = elim (cases_lt n most) [
  | inl less ↦ less
  | inr past ↦ absurd (differ (omega (arith, low, past)))
]

better_true : (most n place before : ℕ) → (nat_lt most n || (most == n && nat_lt place before)) ≡ true
    → (most ≤ n) × ((most < n) ⊎ (place < before))
better_true most n place before e = go (nat_lt most n) (most == n) (nat_lt place before) refl refl refl e
  where
    go : (s t u : Bool) → nat_lt most n ≡ s → (most == n) ≡ t → nat_lt place before ≡ u
        → (s || (t && u)) ≡ true → (most ≤ n) × ((most < n) ⊎ (place < before))
    go true t u a b d f = (let h = lt_true most n a in omega (arith, h), inl (lt_true most n a))
    go false true true a b d f = (let h = (Decides-eqb most n).0 b in omega (arith, h), inr (lt_true place before d))
    go false true false a b d f = absurd (true≢false (sym f))
    go false false u a b d f = absurd (true≢false (sym f))

better_false : (most n place before : ℕ) → (nat_lt most n || (most == n && nat_lt place before)) ≡ false
    → (n ≤ most) × (place < before → n < most)
better_false most n place before e = go (nat_lt most n) (most == n) (nat_lt place before) refl refl refl e
  where
    go : (s t u : Bool) → nat_lt most n ≡ s → (most == n) ≡ t → nat_lt place before ≡ u
        → (s || (t && u)) ≡ false → (n ≤ most) × (place < before → n < most)
    go true t u a b d f = absurd (true≢false f)
    go false true true a b d f = absurd (true≢false f)
    go false true false a b d f =
        (lt_false most n a, λ h. absurd (let l = lt_false place before d in omega (arith, h, l)))
    go false false u a b d f =
        let l = lt_false most n a in
        (l, λ h. strictly most n l (λ same. true≢false (sym ((Decides-eqb most n).1 same) ∙ b)))

before_best : (most n place before score other : ℕ) → (most < n) ⊎ (place < before) → score ≤ most → other < place
    → (other < before → score < most) → (most ≤ n) → score < n
before_best most n place before score other (inl up) g low first least = omega (arith, up, g)
before_best most n place before score other (inr down) g low first least =
    let h = first (omega (arith, down, low)) in omega (arith, h, least)

module _ (q : RequestHead) (asked : Option ℕ) (rs : List Record) (es : List Entry) where
  module _ (i : ℕ) (r : Record) (is : slice_get rs (entry_at es i).1 ≡ Some r) where
    at_last : (k : ℕ) (s : Record) → k < i + 1 → (k < i → ⊥) → slice_get rs (entry_at es k).1 ≡ Some s → (k ≡ i)
        × (s ≡ r)
    at_last k s small past there =
        let e : k ≡ i = omega (arith, small, past) in (
          e,
          some_same (slice_get rs (entry_at es i).1) r s is
              (subst (λ n. slice_get rs (entry_at es n).1 ≡ Some s) e there),
        )

    pub other_entry : (found : Option (ℕ × ℕ)) → Scanned q asked rs es i found → (Agrees q asked r → ⊥)
        → Scanned q asked rs es (i + 1) found
    other_entry None x out = λ k s small there a. elim (cases_lt k i) [
      | inl less ↦ x k s less there a
      | inr past ↦ out (subst (Agrees q asked) (at_last k s small (λ l. omega (arith, l, past)) there).1 a)
    ]
    other_entry (Some f) x out = record {
      best = x.best;
      is = x.is;
      agrees = x.agrees;
      most_is = x.most_is;
      greatest = λ k s small there a. elim (cases_lt k i) [
        | inl less ↦ x.greatest k s less there a
        | inr past ↦ absurd (out (subst (Agrees q asked) (at_last k s small (λ l. omega (arith, l, past)) there).1 a))
      ];
      first = λ k s small there a low. elim (cases_lt k i) [
        | inl less ↦ x.first k s less there a low
        | inr past ↦ absurd (out (subst (Agrees q asked) (at_last k s small (λ l. omega (arith, l, past)) there).1 a))
      ];
    }

    module _ (n : ℕ) (good : Agrees q asked r) (most : n ≡ score q r) where
      -- the new record is better than all before
      new_entry : ((k : ℕ) (s : Record) → k < i → slice_get rs (entry_at es k).1 ≡ Some s → Agrees q asked s
          → score q s ≤ n)
          → ((k : ℕ) (s : Record) → k < i → slice_get rs (entry_at es k).1 ≡ Some s → Agrees q asked s
          → (entry_at es k).1 < (entry_at es i).1 → score q s < n)
          → BestBefore q asked rs es (i + 1) (entry_at es i).1 n
      new_entry all before = record {
        best = r;
        is = is;
        agrees = good;
        most_is = most;
        greatest = λ k s small there a. elim (cases_lt k i) [
          | inl less ↦ all k s less there a
          | inr past ↦ (let e = ap (score q) (at_last k s small (λ l. omega (arith, l, past)) there).1
              in omega (arith, e, most))
        ];
        first = λ k s small there a low. elim (cases_lt k i) [
          | inl less ↦ before k s less there a low
          | inr past ↦ absurd (let e = ap (λ n. (entry_at es n).1)
              (at_last k s small (λ l. omega (arith, l, past)) there).0 in omega (arith, e, low))
        ];
      }

      -- the one found before is still the best
      old_entry : (f : ℕ × ℕ) → BestBefore q asked rs es i f.0 f.1 → n ≤ f.1 → ((entry_at es i).1 < f.0 → n < f.1)
          → BestBefore q asked rs es (i + 1) f.0 f.1
      old_entry f x low earlier = record {
        best = x.best;
        is = x.is;
        agrees = x.agrees;
        most_is = x.most_is;
        greatest = λ k s small there a. elim (cases_lt k i) [
          | inl less ↦ x.greatest k s less there a
          | inr past ↦ (let e = ap (score q) (at_last k s small (λ l. omega (arith, l, past)) there).1
              in omega (arith, e, low, most))
        ];
        first = λ k s small there a below. elim (cases_lt k i) [
          | inl less ↦ x.first k s less there a below
          | inr past ↦ (
              let at = at_last k s small (λ l. omega (arith, l, past)) there in
              let e = ap (λ n. (entry_at es n).1) at.0 in
              let h = earlier (omega (arith, e, below)) in
              let m = ap (score q) at.1 in
              omega (arith, h, m, most)
              )
        ];
      }

      pub agreeing_entry : (found : Option (ℕ × ℕ)) → Scanned q asked rs es i found
          → Scanned q asked rs es (i + 1) (offered found (entry_at es i).1 (Some n))
      unfolding new_entry old_entry
      agreeing_entry None x = new_entry (λ k s less there a. absurd (x k s less there a))
          (λ k s less there a low. absurd (x k s less there a))
      agreeing_entry (Some f) x = go (nat_lt f.1 n || (f.1 == n && nat_lt (entry_at es i).1 f.0)) refl
        where
          go : (t : Bool) → (nat_lt f.1 n || (f.1 == n && nat_lt (entry_at es i).1 f.0)) ≡ t
              → Scanned q asked rs es (i + 1) (cond t (Some ((entry_at es i).1, n)) (Some (f.0, f.1)))
          go true e = new_entry
              (λ k s less there a. let g = x.greatest k s less there a in
              let h = better_true f.1 n (entry_at es i).1 f.0 e in omega (arith, g, h.0))
              (λ k s less there a low. let g = x.greatest k s less there a in
              let h = better_true f.1 n (entry_at es i).1 f.0 e in
              before_best f.1 n (entry_at es i).1 f.0 (score q s) (entry_at es k).1 h.1 g low
              (λ down. x.first k s less there a down) h.0)
          go false e = old_entry f x (better_false f.1 n (entry_at es i).1 f.0 e).0
              (better_false f.1 n (entry_at es i).1 f.0 e).1

    pub next_scanned : (found : Option (ℕ × ℕ)) (score : Option ℕ) → Scanned q asked rs es i found
        → HasScore q asked r score
        → Scanned q asked rs es (i + 1) (offered found (entry_at es i).1 score)
    next_scanned None None x out = other_entry None x out
    next_scanned (Some f) None x out = other_entry (Some f) x out
    next_scanned None (Some n) x a = agreeing_entry n a.0 a.1 None x
    next_scanned (Some f) (Some n) x a = agreeing_entry n a.0 a.1 (Some f) x

    -- the next record is the one before the next entry
    pub next_near : (score : Option ℕ) → HasScore q asked r score → HasNear q asked rs es (i + 1) score
    next_near score x s pos there =
        let same : i + 1 - 1 ≡ i = omega arith in
        subst (λ (t : Record). HasScore q asked t score)
        (sym (some_same (slice_get rs (entry_at es i).1) r s is
        (subst (λ n. slice_get rs (entry_at es n).1 ≡ Some s) same there))) x

  -- ---- from the entries to the records

  module _ (fs : List (Option ℕ)) (index : IsIndex rs asked es fs) where
    -- before the first entry of a key nothing agrees
    pub none_below : (start : ℕ) → start ≤ length es
        → ((k : ℕ) (d : Entry) → k < start → (get_or es k d).0 < key_of q) → NoneBefore q asked rs es start
    none_below start inside below k r small there a =
        let low = below k (0, 0) small in
        let e = (index.entries k (0, 0) (omega (arith, small, inside))).key r there in
        omega (arith, low, e, same_key q asked r a)

    -- an agreeing record has an entry before i
    entry_of : (i k : ℕ) (r : Record) → ((j : ℕ) → i ≤ j → j < length es → (entry_at es j).0 ≡ key_of q → ⊥)
        → slice_get rs k ≡ Some r → Agrees q asked r
        → (j : ℕ) × (j < i) × ((entry_at es j).1 ≡ k)
    entry_of i k r end there a =
        let c = index.whole k r (slice_get_within rs k r there) there a.port in
        let x : entry_at es c.0 ≡ (key_of r.request.head, k) = get_or_default es c.0 (0, 0) (key_of r.request.head, k)
        c.1 ∙ c.2 in
        elim (cases_lt c.0 i) [
          | inl less ↦ (c.0, less, ap (λ (e : Entry). e.1) x)
          | inr past ↦ absurd (end c.0 past c.1 (ap (λ (e : Entry). e.0) x ∙ same_key q asked r a))
        ]

    pub scanned_all : (i : ℕ) (found : Option (ℕ × ℕ)) → Scanned q asked rs es i found
        → ((j : ℕ) → i ≤ j → j < length es → (entry_at es j).0 ≡ key_of q → ⊥)
        → BestCause q asked rs (option_map (λ (f : ℕ × ℕ). f.0) found)
    scanned_all i None x end = λ k d small a.
        let r = get_or rs k d in
        let there = slice_get-get_or rs k d small in
        let j = entry_of i k r end there a in
        x j.0 r j.1 (ap (slice_get rs) j.2 ∙ there) a
    scanned_all i (Some f) x end =
        let inside = slice_get_within rs f.0 x.best x.is in
        let long : length (take f.0 rs) ≡ f.0 = length-take-le f.0 rs (omega (arith, inside)) in
        record {
          before = take f.0 rs;
          best = x.best;
          after = drop (suc f.0) rs;
          split = sym (take-append-drop f.0 rs) ∙ ap (λ ys. take f.0 rs ++ ys) (drop-cons rs f.0 x.best inside)
              ∙ ap (λ r. take f.0 rs ++ r ∷ drop (suc f.0) rs) (get_or_from_slice_get rs f.0 x.best x.best x.is);
          place_is = sym long;
          agrees = x.agrees;
          greatest = λ k d small a.
              let r = get_or rs k d in
              let there = slice_get-get_or rs k d small in
              let j = entry_of i k r end there a in
              let g = x.greatest j.0 r j.1 (ap (slice_get rs) j.2 ∙ there) a in
              omega (arith, g, x.most_is);
          first = λ k d small a.
              let low : k < f.0 = omega (arith, small, long) in
              let r = get_or (take f.0 rs) k d in
              let there : slice_get rs k ≡ Some r = slice_get-get_or rs k d (omega (arith, low, inside))
              ∙ ap (λ s. Some s) (sym (get_or-take f.0 rs k d low)) in
              let j = entry_of i k r end there a in
              let g = x.first j.0 r j.1 (ap (slice_get rs) j.2 ∙ there) a (omega (arith, j.2, low)) in
              omega (arith, g, x.most_is);
        }

-- ---- scores that are carried on

-- a record that another one shares all with agrees where that one does
shared_agrees : (q : RequestHead) (asked : Option ℕ) (a b : Record) (n : ℕ) → IsShared a b n → FitsPort b.port asked
    → Agrees q asked a → Agrees q asked b
shared_agrees q asked a b n s fits x = record {
  port = fits;
  host = s.same.host ∙ x.host;
  agent = s.same.agent ∙ x.agent;
  line = s.same.line ∙ x.line;
}

shared_back : (q : RequestHead) (asked : Option ℕ) (a b : Record) (n : ℕ) → IsShared a b n → FitsPort a.port asked
    → Agrees q asked b → Agrees q asked a
shared_back q asked a b n s fits x = record {
  port = fits;
  host = sym s.same.host ∙ x.host;
  agent = sym s.same.agent ∙ x.agent;
  line = sym s.same.line ∙ x.line;
}

pub carried_none : (q : RequestHead) (asked : Option ℕ) (a b : Record) (n : ℕ) (before : Option ℕ) → before ≡ None
    → IsShared a b n → FitsPort a.port asked → HasScore q asked a before → HasScore q asked b None
carried_none q asked a b n None e s fits x y = x (shared_back q asked a b n s fits y)
carried_none q asked a b n (Some m) e s fits x y = absurd (cc e)

pub carried_some : (q : RequestHead) (asked : Option ℕ) (a b : Record) (n m : ℕ) (before : Option ℕ) → before ≡ Some m
    → IsShared a b n → FitsPort b.port asked → HasScore q asked a before
    → (next : ℕ) → ((line : List ℕ) → n ≡ common line b.request.head.line → m ≡ common line q.line
    → next ≡ common b.request.head.line q.line)
    → HasScore q asked b (Some next)
carried_some q asked a b n m before e s fits x next carry =
    let y : HasScore q asked a (Some m) = subst (HasScore q asked a) e x in (
      shared_agrees q asked a b n s fits y.0,
      carry a.request.head.line s.front_is y.1,
    )

pub next_has_score : (q : RequestHead) (asked : Option ℕ) (rs : List Record) (es : List Entry)
    → All (IsEntry rs asked) es → (i : ℕ) → i < length es
    → (r : Record) → slice_get rs (entry_at es i).1 ≡ Some r → (front near result : Option ℕ) → HasFront rs es i front
    → HasNear q asked rs es i near
    → (front ≡ None → HasScore q asked r result)
    → ((a : Record) (n : ℕ) → front ≡ Some n → IsShared a r n → FitsPort a.port asked → HasScore q asked a near
    → HasScore q asked r result)
    → HasScore q asked r result
next_has_score q asked rs es entries i inside r there None near result shares x anew onward = anew refl
next_has_score q asked rs es entries i inside r there (Some n) near result shares x anew onward =
    let entry = entries (i - 1) (0, 0) (omega (arith, inside, shares.0)) in
    let a = get_or rs (entry_at es (i - 1)).1 r in
    let at = slice_get-get_or rs (entry_at es (i - 1)).1 r entry.place in
    onward a n refl (shares.1 a r at there) (entry.fits a at) (x a shares.0 at)

-- ---- entries of one score

better_yes : (most n place before : ℕ) → (most < n) ⊎ ((most ≡ n) × (place < before))
    → (nat_lt most n || (most == n && nat_lt place before)) ≡ true
better_yes most n place before h = go (nat_lt most n || (most == n && nat_lt place before)) refl
  where
    go : (t : Bool) → (nat_lt most n || (most == n && nat_lt place before)) ≡ t
        → (nat_lt most n || (most == n && nat_lt place before)) ≡ true
    go true e = e
    go false e = absurd (let l = better_false most n place before e in elim h [
      | inl up ↦ omega (arith, up, l.0)
      | inr down ↦ (let m = l.1 down.1 in omega (arith, m, down.0))
    ])

better_no : (most n place before : ℕ) → n ≤ most → (place < before → n < most)
    → (nat_lt most n || (most == n && nat_lt place before)) ≡ false
better_no most n place before low earlier = go (nat_lt most n || (most == n && nat_lt place before)) refl
  where
    go : (t : Bool) → (nat_lt most n || (most == n && nat_lt place before)) ≡ t
        → (nat_lt most n || (most == n && nat_lt place before)) ≡ false
    go true e = absurd (let l = better_true most n place before e in elim l.1 [
      | inl up ↦ omega (arith, up, low)
      | inr down ↦ (let m = earlier down in omega (arith, m, l.0))
    ])
    go false e = e

still_better : (most n place middle before : ℕ) → (most ≤ n) × ((most < n) ⊎ (middle < before)) → place < middle
    → (most < n) ⊎ ((most ≡ n) × (place < before))
still_better most n place middle before h less = elim h.1 [
  | inl up ↦ inl up
  | inr down ↦ elim (cases_lt most n) [
    | inl up ↦ inl up
    | inr past ↦ inr (omega (arith, past, h.0), omega (arith, down, less))
  ]
]

-- of two entries of one score the earlier one is enough
offered_earlier : (found : Option (ℕ × ℕ)) (before place n : ℕ) → place < before
    → offered (offered found before (Some n)) place (Some n) ≡ offered found place (Some n)
offered_earlier None before place n less =
    ap (λ t. cond t (Some (place, n)) (Some (before, n))) (better_yes n n place before (inr (refl, less)))
offered_earlier (Some f) before place n less = go (nat_lt f.1 n || (f.1 == n && nat_lt before f.0)) refl
  where
    go : (t : Bool) → (nat_lt f.1 n || (f.1 == n && nat_lt before f.0)) ≡ t
        → offered (cond t (Some (before, n)) (Some (f.0, f.1))) place (Some n) ≡ offered (Some f) place (Some n)
    go true e =
        ap (λ t. cond t (Some (place, n)) (Some (before, n))) (better_yes n n place before (inr (refl, less)))
        ∙ sym (ap (λ t. cond t (Some (place, n)) (Some (f.0, f.1))) (better_yes f.1 n place f.0
        (still_better f.1 n place before f.0 (better_true f.1 n before f.0 e) less)))
    go false e = refl

offered_later : (found : Option (ℕ × ℕ)) (before place n : ℕ) → before ≤ place
    → offered (offered found before (Some n)) place (Some n) ≡ offered found before (Some n)
offered_later None before place n late =
    ap (λ t. cond t (Some (place, n)) (Some (before, n)))
    (better_no n n place before (omega arith) (λ less. absurd (omega (arith, less, late))))
offered_later (Some f) before place n late = go (nat_lt f.1 n || (f.1 == n && nat_lt before f.0)) refl
  where
    go : (t : Bool) → (nat_lt f.1 n || (f.1 == n && nat_lt before f.0)) ≡ t
        → offered (cond t (Some (before, n)) (Some (f.0, f.1))) place (Some n)
        ≡ cond t (Some (before, n)) (Some (f.0, f.1))
    go true e =
        ap (λ t. cond t (Some (place, n)) (Some (before, n)))
        (better_no n n place before (omega arith) (λ less. absurd (omega (arith, less, late))))
    go false e =
        let l = better_false f.1 n before f.0 e in
        ap (λ t. cond t (Some (place, n)) (Some (f.0, f.1)))
        (better_no f.1 n place f.0 l.0 (λ less. l.1 (omega (arith, less, late))))

offered_min : (found : Option (ℕ × ℕ)) (before place n first : ℕ) → first ≡ min before place
    → offered (offered found before (Some n)) place (Some n) ≡ offered found first (Some n)
offered_min found before place n first is = elim (cases_lt place before) [
  | inl less ↦ (let e : place ≡ first = omega (arith, is, less) in
      offered_earlier found before place n less ∙ ap (λ p. offered found p (Some n)) e)
  | inr late ↦ (let e : before ≡ first = omega (arith, is, late) in
      offered_later found before place n late ∙ ap (λ p. offered found p (Some n)) e)
]

pub record_at : (rs : List Record) (k : ℕ) → k < length rs → (r : Record) × (slice_get rs k ≡ Some r)
record_at [] k h = absurd (omega (arith, h))
record_at (r ∷ rs) k h = (get_or (r ∷ rs) k r, slice_get-get_or (r ∷ rs) k r h)

-- an entry that shares more with the one before it than that has in common with the request
pub stands_more : (q : RequestHead) (asked : Option ℕ) (rs : List Record) (es : List Entry) (fs : List (Option ℕ))
    (found : Option (ℕ × ℕ)) → IsIndex rs asked es fs → (i before first front n : ℕ) → i < length es
    → get_or fs i None ≡ Some front → n < front → first ≡ min before (entry_at es i).1
    → Stands q asked rs es found (Some n) i before → Stands q asked rs es found (Some n) (i + 1) first
stands_more q asked rs es fs found index i before first front n inside is past first_is x =
    let shares : HasFront rs es i (Some front) = subst (HasFront rs es i) is (index.fronts.each i None inside) in
    let entry = index.entries i (0, 0) inside in
    let earlier = index.entries (i - 1) (0, 0) (omega (arith, inside, shares.0)) in
    let r = record_at rs (entry_at es i).1 entry.place in
    let a = record_at rs (entry_at es (i - 1)).1 earlier.place in
    let score : HasScore q asked r.0 (Some n) = carried_some q asked a.0 r.0 front n (Some n) refl
    (shares.1 a.0 r.0 a.1 r.1) (entry.fits r.0 r.1) (x.0 a.0 shares.0 a.1) n
    (λ line e f. f ∙ sym (front_above line r.0.request.head.line q.line (omega (arith, e, f, past)))) in (
      next_near q asked rs es i r.0 r.1 (Some n) score,
      subst (Scanned q asked rs es (i + 1)) (offered_min found before (entry_at es i).1 n first first_is)
          (next_scanned q asked rs es i r.0 r.1 (offered found before (Some n)) (Some n) x.1 score),
    )

-- ---- the list of entries

pub entry_more : (rs : List Record) (port : Option ℕ) (es : List Entry) (place : ℕ) (r : Record) → place < length rs
    → r ≡ get_or rs place r → FitsPort r.port port → All (IsEntry rs port) es
    → All (IsEntry rs port) (es ++ (key_of r.request.head, place) ∷ [])
entry_more rs port es place r inside is fit all =
    All-push (IsEntry rs port) es (key_of r.request.head, place) all (record {
      place = inside;
      key = λ s there. ap (λ (t : Record). key_of t.request.head)
          (some_same (slice_get rs place) s r there (slice_get_read rs (length rs) place r refl inside is));
      fits = λ s there. subst (λ (t : Record). FitsPort t.port port)
          (some_same (slice_get rs place) s r there (slice_get_read rs (length rs) place r refl inside is)) fit;
    })

pub whole_more : (rs : List Record) (port : Option ℕ) (es : List Entry) (place : ℕ) (r : Record) → place < length rs
    → r ≡ get_or rs place r → HasAllTo rs port place es
    → HasAllTo rs port (place + 1) (es ++ (key_of r.request.head, place) ∷ [])
whole_more rs port es place r inside is all k s small there fits = elim (cases_lt k place) [
  | inl less ↦ Contains-append_left es ((key_of r.request.head, place) ∷ []) (key_of s.request.head, k)
      (all k s less there fits)
  | inr past ↦
      let e : k ≡ place = omega (arith, small, past) in
      let same : s ≡ r = some_same (slice_get rs place) r s (slice_get_read rs (length rs) place r refl inside is)
      (subst (λ n. slice_get rs n ≡ Some s) e there) in
      let pair : (key_of r.request.head, place) ≡ (key_of s.request.head, k) =
      λ i. (key_of (sym same i).request.head, sym e i) in
      subst (Contains (es ++ (key_of r.request.head, place) ∷ [])) pair
      (Contains-push es (key_of r.request.head, place))
]

pub whole_other : (rs : List Record) (port : Option ℕ) (es : List Entry) (place : ℕ) (r : Record) → place < length rs
    → r ≡ get_or rs place r → HasAllTo rs port place es
    → (FitsPort r.port port → ⊥) → HasAllTo rs port (place + 1) es
whole_other rs port es place r inside is all out k s small there fits = elim (cases_lt k place) [
  | inl less ↦ all k s less there fits
  | inr past ↦
      let e : k ≡ place = omega (arith, small, past) in
      let same : s ≡ r = some_same (slice_get rs place) r s (slice_get_read rs (length rs) place r refl inside is)
      (subst (λ n. slice_get rs n ≡ Some s) e there) in
      absurd (out (subst (λ (t : Record). FitsPort t.port port) same fits))
]

pub whole_moved : (rs : List Record) (port : Option ℕ) (count : ℕ) (es moved : List Entry) → HasAllTo rs port count es
    → IsPermutation es moved → HasAllTo rs port count moved
whole_moved rs port count es moved whole move k r small there fits =
    Contains-permutation es moved (key_of r.request.head, k) move (whole k r small there fits)

pub places_of : (rs : List Record) (port : Option ℕ) (es : List Entry) → All (IsEntry rs port) es
    → All (λ (e : Entry). e.1 < length rs) es
places_of rs port es all k d small = (all k d small).place
