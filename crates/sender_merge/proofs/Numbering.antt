-- No two rows of a merge of schedules have one number.
use Rattle.std.proofs.Common.{◌≡◌, ◌≢◌, ℕ, zero, suc, ◌+◌, ◌-◌, ◌*◌, ◌<◌, ◌≤◌, Bool, true, false, cond, leb}
use Rattle.std.proofs.Common.{ap, sym, subst, refl, List, [], ◌∷◌, ◌++◌, length, map, get_or, arith}
use Rattle.packet_record.specs.declared.packet.Row.{Row}
use Rattle.packet_record.specs.Orders.{AreInOrder}
use Rattle.packet_record.specs.Rows.{AreApart}
use Rattle.sender_merge.specs.Merges.{by_moment, merge_rows, merged_id, merged_row, put, row_moment, rows_from}
use Rattle.sender_merge.specs.inside.RowLists.{AllSchedules}

abbrev id_of : Row → ℕ
id_of r = r.timed.packet.id

-- no row has the number `n`
abbrev LacksId : ℕ → List Row → Type 0
LacksId n [] = Unit {0}
LacksId n (r ∷ rows) = (n ≢ id_of r) × LacksId n rows

-- no two rows have one number
abbrev Apart : List Row → Type 0
Apart [] = Unit {0}
Apart (r ∷ rows) = LacksId (id_of r) rows × Apart rows

lacks-append : (n : ℕ) (xs ys : List Row) → LacksId n xs → LacksId n ys → LacksId n (xs ++ ys)
lacks-append n [] ys p q = q
lacks-append n (x ∷ xs) ys p q = (p.0, lacks-append n xs ys p.1 q)

lacks_either : (n : ℕ) (b : Bool) (r y : Row) (ys zs : List Row) → n ≢ id_of r → LacksId n (y ∷ ys) → LacksId n zs
    → LacksId n (cond b (r ∷ (y ∷ ys)) (y ∷ zs))
lacks_either n true r y ys zs not p q = (not, p)
lacks_either n false r y ys zs not p q = (p.0, q)

lacks-put : (n : ℕ) (r : Row) (rows : List Row) → n ≢ id_of r → LacksId n rows → LacksId n (put row_moment r rows)
lacks-put n r [] not p = (not, tt)
lacks-put n r (y ∷ ys) not p = lacks_either n (leb r.timed.moment y.timed.moment) r y ys (put row_moment r ys) not p
    (lacks-put n r ys not p.1)

lacks-by_moment : (n : ℕ) (rows : List Row) → LacksId n rows → LacksId n (by_moment row_moment rows)
lacks-by_moment n [] p = tt
lacks-by_moment n (r ∷ rows) p = lacks-put n r (by_moment row_moment rows) p.0 (lacks-by_moment n rows p.1)

apart_either : (b : Bool) (r y : Row) (ys zs : List Row) → LacksId (id_of r) (y ∷ ys) → Apart (y ∷ ys)
    → LacksId (id_of y) zs → Apart zs → Apart (cond b (r ∷ (y ∷ ys)) (y ∷ zs))
apart_either true r y ys zs lacks apart p q = (lacks, apart)
apart_either false r y ys zs lacks apart p q = (p, q)

apart-put : (r : Row) (rows : List Row) → LacksId (id_of r) rows → Apart rows → Apart (put row_moment r rows)
apart-put r [] lacks apart = (tt, tt)
apart-put r (y ∷ ys) lacks apart =
    apart_either (leb r.timed.moment y.timed.moment) r y ys (put row_moment r ys) lacks apart
    (lacks-put (id_of y) r ys (λ e. lacks.0 (sym e)) apart.0) (apart-put r ys lacks.1 apart.1)

apart-by_moment : (rows : List Row) → Apart rows → Apart (by_moment row_moment rows)
apart-by_moment [] apart = tt
apart-by_moment (r ∷ rows) apart = apart-put r (by_moment row_moment rows)
    (lacks-by_moment (id_of r) rows apart.0) (apart-by_moment rows apart.1)

-- a line's number is that of no later line of its sender
own_lacks : (c p place low : ℕ) (rows : List Row) → 1 ≤ p → p < place → AreInOrder place low rows
    → LacksId (merged_id c p) (map (merged_row c) rows)
own_lacks c p place low [] one lt order = tt
own_lacks c p place low (r ∷ rows) one lt order =
    let is = order.0 in (
      (λ e. let same : 16 * (p - 1) + c ≡ 16 * (r.timed.packet.id - 1) + c = e in absurd (omega arith)),
      own_lacks c p (place + 1) r.timed.moment rows one (omega arith) order.2,
    )

-- a line's number is that of no line of a later sender
other_lacks : (c k p place low : ℕ) (rows : List Row) → 1 ≤ p → 1 ≤ place → 1 ≤ c → c < k → k ≤ 16
    → AreInOrder place low rows → LacksId (merged_id c p) (map (merged_row k) rows)
other_lacks c k p place low [] one first some lt few order = tt
other_lacks c k p place low (r ∷ rows) one first some lt few order =
    let is = order.0 in (
      (λ e. let same : 16 * (p - 1) + c ≡ 16 * (r.timed.packet.id - 1) + k = e in absurd (omega arith)),
      other_lacks c k p (place + 1) r.timed.moment rows one (omega arith) some lt few order.2,
    )

later_lack : (c k p : ℕ) (schedules : List (List Row)) → 1 ≤ p → 1 ≤ c → c < k → k + length schedules ≤ 17
    → AllSchedules schedules → LacksId (merged_id c p) (rows_from k schedules)
later_lack c k p [] one some lt few all = tt
later_lack c k p (rows ∷ schedules) one some lt few all =
    lacks-append (merged_id c p) (map (merged_row k) rows) (rows_from (k + 1) schedules)
    (other_lacks c k p 1 0 rows one (omega arith) some lt (omega arith) all.0.order)
    (later_lack c (k + 1) p schedules one some (omega arith) (omega arith) all.1)

apart-before : (c place low : ℕ) (rows others : List Row) → 1 ≤ place → AreInOrder place low rows → Apart others
    → ((p : ℕ) → 1 ≤ p → LacksId (merged_id c p) others) → Apart (map (merged_row c) rows ++ others)
apart-before c place low [] others one order apart lacks = apart
apart-before c place low (r ∷ rows) others one order apart lacks =
    let is = order.0 in (
      subst (λ (n : ℕ). LacksId (merged_id c n) (map (merged_row c) rows ++ others)) (sym is)
          (lacks-append (merged_id c place) (map (merged_row c) rows) others
          (own_lacks c place (place + 1) r.timed.moment rows one (omega arith) order.2) (lacks place one)),
      apart-before c (place + 1) r.timed.moment rows others (omega arith) order.2 apart lacks,
    )

apart-rows : (c : ℕ) (schedules : List (List Row)) → 1 ≤ c → c + length schedules ≤ 17 → AllSchedules schedules
    → Apart (rows_from c schedules)
apart-rows c [] some few all = tt
apart-rows c (rows ∷ schedules) some few all =
    apart-before c 1 0 rows (rows_from (c + 1) schedules) (omega arith) all.0.order
    (apart-rows (c + 1) schedules (omega arith) (omega arith) all.1)
    (λ p one. later_lack c (c + 1) p schedules one some (omega arith) (omega arith) all.1)

lacks_at : (n i : ℕ) (rows : List Row) (d : Row) → i < length rows → LacksId n rows → n ≢ id_of (get_or rows i d)
lacks_at n i [] d lt p = absurd (omega arith)
lacks_at n zero (r ∷ rows) d lt p = p.0
lacks_at n (suc i) (r ∷ rows) d lt p = lacks_at n i rows d (omega arith) p.1

by_places : (rows : List Row) → Apart rows → AreApart rows
by_places rows apart = λ i j d lt below same. go rows apart i j d lt below same where
  go : (rows : List Row) → Apart rows → (i j : ℕ) (d : Row) → i < length rows → j < length rows
      → id_of (get_or rows i d) ≡ id_of (get_or rows j d) → i ≡ j
  go [] apart i j d lt below same = absurd (omega arith)
  go (r ∷ rows) apart zero zero d lt below same = refl
  go (r ∷ rows) apart zero (suc j) d lt below same =
      absurd (lacks_at (id_of r) j rows d (omega arith) apart.0 same)
  go (r ∷ rows) apart (suc i) zero d lt below same =
      absurd (lacks_at (id_of r) i rows d (omega arith) apart.0 (sym same))
  go (r ∷ rows) apart (suc i) (suc j) d lt below same =
      ap suc (go rows apart.1 i j d (omega arith) (omega arith) same)

-- no two rows of the merge have one number
pub merged_apart : (schedules : List (List Row)) → length schedules ≤ 16 → AllSchedules schedules
    → AreApart (merge_rows schedules)
merged_apart schedules few all = by_places (merge_rows schedules)
    (apart-by_moment (rows_from 1 schedules) (apart-rows 1 schedules (omega arith) (omega arith) all))
