-- Fates of rows, one put after the other.
use Rattle.std.proofs.Common.{◌≡◌, ◌≢◌, ℕ, zero, suc, ◌<◌, ◌≤◌, ◌==◌, ◌||◌, Bool, true, false, cond, eqb, List, [], ◌∷◌}
use Rattle.std.proofs.Common.{length, get_or, set, drop, Option, Some, ap, sym, ◌∙◌, refl, arith, eq-eqb, ne_eqb}
use Rattle.std.proofs.lemmas.List.{get_or-map}
use Rattle.packet_record.specs.declared.packet.Timed.{Timed}
use Rattle.packet_record.specs.declared.packet.Row.{Row}
use Rattle.std.specs.List.{list_any}
use Rattle.std.specs.Option.{option_map_or}
use Rattle.nest_spec.specs.declared.fate.Fate.{Fate}
use Rattle.nest_spec.specs.declared.fate.Fate.TheVariants.{Inside}
use Rattle.nest_spec.specs.declared.fate.FateRow.{FateRow}
use Rattle.nest_spec.specs.declared.mark.Mark.{Mark}
use Rattle.nest_spec.specs.Fates.{fate_row, fated, find_id}
use Rattle.nest_spec.specs.Marks.{Marks, marks, mark_fate, marked, held_in}
use Rattle.nest_spec.specs.inside.Marks.{put}
use Rattle.nest_spec.specs.inside.Index.{IsNowhere, IsOnlyAt}

pub fated_same : (f g : Row → Fate) (rows : List Row)
    → ((i : ℕ) (d : Row) → i < length rows → f (get_or rows i d) ≡ g (get_or rows i d)) → fated f rows ≡ fated g rows
fated_same f g [] h = refl
fated_same f g (r ∷ rows) h =
    ap (λ x. fate_row r x ∷ fated f rows) (h 0 r (omega arith))
    ∙ ap (λ xs. fate_row r (g r) ∷ xs) (fated_same f g rows (λ i d lt. h (suc i) d (omega arith)))

pub fated_each : (f g : Row → Fate) (rows : List Row) → ((r : Row) → f r ≡ g r) → fated f rows ≡ fated g rows
fated_each f g rows h = fated_same f g rows (λ i d lt. h (get_or rows i d))

pub set_fated : (f g : Row → Fate) (rows : List Row) (i : ℕ) (v : FateRow) → i < length rows
    → ((d : Row) → v ≡ fate_row (get_or rows i d) (g (get_or rows i d)))
    → ((j : ℕ) (d : Row) → j < length rows → j ≢ i → f (get_or rows j d) ≡ g (get_or rows j d))
    → set (fated f rows) i v ≡ fated g rows
set_fated f g [] i v lt here others = absurd (omega arith)
set_fated f g (r ∷ rows) zero v lt here others =
    ap (λ x. x ∷ fated f rows) (here r)
    ∙ ap (λ xs. fate_row r (g r) ∷ xs)
    (fated_same f g rows (λ j d lt'. others (suc j) d (omega arith) (λ (e : suc j ≡ 0). absurd (omega arith))))
set_fated f g (r ∷ rows) (suc i) v lt here others =
    ap (λ x. fate_row r x ∷ set (fated f rows) i v) (others 0 r (omega arith) (λ (e : 0 ≡ suc i). absurd (omega arith)))
    ∙ ap (λ xs. fate_row r (g r) ∷ xs)
    (set_fated f g rows i v (omega arith) here
    (λ j d lt' ne. others (suc j) d (omega arith) (λ (e : suc j ≡ suc i). ne (omega arith))))

module _ (id : ℕ) (fate : Fate) (f : Row → Fate) where
  other : (r : Row) → r.timed.packet.id ≢ id → f r ≡ put id fate f r
  other r ne = sym (ap (λ b. cond b fate (f r)) (ne_eqb id r.timed.packet.id (λ x. ne (sym x))))

  chosen : (r : Row) → r.timed.packet.id ≡ id → fate ≡ put id fate f r
  chosen r same = sym (ap (λ b. cond b fate (f r)) (eq-eqb id r.timed.packet.id (sym same)))

  -- the fate row that is read at the place of this number's row gets this fate
  pub puts_here : (rows : List Row) (i : ℕ) (read : FateRow) (xs : List FateRow) → IsOnlyAt rows id i
      → read ≡ get_or xs i read → xs ≡ fated f rows
      → set xs i (record read { fate = fate }) ≡ fated (put id fate f) rows
  puts_here rows i read xs at was e =
      ap (λ ys. set ys i (record read { fate = fate })) e
      ∙ set_fated f (put id fate f) rows i (record read { fate = fate }) at.within
      (λ b. ap (λ (r : FateRow). record r { fate = fate }) (read_is b)
      ∙ ap (fate_row (get_or rows i b)) (chosen (get_or rows i b) (at.here b)))
      (λ j b lt ne. other (get_or rows j b) (at.others j b lt ne))
    where
      read_is : (b : Row) → read ≡ fate_row (get_or rows i b) (f (get_or rows i b))
      read_is b = was ∙ ap (λ ys. get_or ys i read) e
          ∙ get_or-map (λ (r : Row). fate_row r (f r)) rows i b read at.within

  pub puts_none : (rows : List Row) (xs : List FateRow) → IsNowhere rows id → xs ≡ fated f rows
      → xs ≡ fated (put id fate f) rows
  puts_none rows xs none e = e ∙ fated_same f (put id fate f) rows (λ j b lt. other (get_or rows j b) (none j b lt))

-- one more in front
marked_more : (t : Timed) (ts : List Timed) (mark : Mark) (f : Row → Fate) (r : Row)
    → put t.packet.id (mark_fate mark t) (marked ts mark f) r ≡ marked (t ∷ ts) mark f r
marked_more t ts mark f r = by (eqb t.packet.id r.timed.packet.id)
  where
    later : Option Timed
    later = find_id r.timed.packet.id ts

    by : (e : Bool) → cond e (mark_fate mark t) (option_map_or (mark_fate mark) later (f r)) ≡ option_map_or
        (mark_fate mark) (cond e (Some t) later) (f r)
    by true = refl
    by false = refl

held_more : (id : ℕ) (ids : List ℕ) (shell : ℕ) (f : Row → Fate) (r : Row)
    → put id (Inside shell) (held_in ids shell f) r ≡ held_in (id ∷ ids) shell f r
held_more id ids shell f r = by (eqb id r.timed.packet.id) (list_any (λ i. i == r.timed.packet.id) ids)
  where
    by : (e a : Bool) → cond e (Inside shell) (cond a (Inside shell) (f r)) ≡ cond (e || a) (Inside shell) (f r)
    by true a = refl
    by false a = refl

none_left : {A : Type 0} (xs : List A) → drop (length xs) xs ≡ []
none_left [] = refl
none_left (x ∷ xs) = none_left xs

-- nothing is marked yet
pub marks_none_yet : (packets : List Timed) (mark : Mark) (f : Row → Fate) (rows : List Row)
    → fated f rows ≡ fated (marked (drop (length packets) packets) mark f) rows
marks_none_yet packets mark f rows = sym (ap (λ ts. fated (marked ts mark f) rows) (none_left packets))

pub holds_none_yet : (ids : List ℕ) (shell : ℕ) (f : Row → Fate) (rows : List Row)
    → fated f rows ≡ fated (held_in (drop (length ids) ids) shell f) rows
holds_none_yet ids shell f rows = sym (ap (λ is. fated (held_in is shell f) rows) (none_left ids))

-- an element before those from the next place on
front : {A : Type 0} (xs : List A) (k : ℕ) (d : A) → suc k ≤ length xs → get_or xs k d ∷ drop (suc k) xs ≡ drop k xs
front [] k d le = absurd (omega arith)
front (x ∷ xs) zero d le = refl
front (x ∷ xs) (suc k) d le = front xs k d (omega arith)

pub marks_more : (packets : List Timed) (left : ℕ) (t : Timed) (mark : Mark) (f : Row → Fate) (rows : List Row)
    → suc left ≤ length packets → t ≡ get_or packets left t
    → fated (put t.packet.id (mark_fate mark t) (marked (drop (suc left) packets) mark f)) rows ≡ fated
    (marked (drop left packets) mark f) rows
marks_more packets left t mark f rows le read =
    fated_each _ _ rows (λ r. marked_more t (drop (suc left) packets) mark f r)
    ∙ ap (λ ts. fated (marked ts mark f) rows) (ap (λ u. u ∷ drop (suc left) packets) read ∙ front packets left t le)

pub holds_more : (ids : List ℕ) (left shell : ℕ) (f : Row → Fate) (rows : List Row) → suc left ≤ length ids
    → fated (put (get_or ids left 0) (Inside shell) (held_in (drop (suc left) ids) shell f)) rows ≡ fated
    (held_in (drop left ids) shell f) rows
holds_more ids left shell f rows le =
    fated_each _ _ rows (λ r. held_more (get_or ids left 0) (drop (suc left) ids) shell f r)
    ∙ ap (λ is. fated (held_in is shell f) rows) (front ids left 0 le)

-- a marking that has gone on
pub marks_on : (g : (Row → Fate) → Row → Fate) (m m' : Marks) (rows : List Row) (f : Row → Fate)
    → m ≡ marks rows (fated f rows) → m'.rows ≡ m.rows
    → ((k : Row → Fate) → m.fates ≡ fated k m.rows → m'.fates ≡ fated (g k) m.rows) → m' ≡ marks rows (fated (g f) rows)
marks_on g m m' rows f is er on =
    let same = ap (λ (x : Marks). x.rows) is in
    let fates : m'.fates ≡ fated (g f) rows = on f (ap (λ (x : Marks). x.fates) is ∙ ap (fated f) (sym same))
    ∙ ap (fated (g f)) same in
    ap (λ r. marks r m'.fates) (er ∙ same) ∙ ap (marks rows) fates
