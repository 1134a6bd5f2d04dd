-- The lists of the rows' places.
use Rattle.std.proofs.Common.{◌≡◌, ◌≢◌, ⊎_elim, ℕ, ◌+◌, ◌/◌, ◌%◌, ◌<◌, ◌≤◌, List, [], ◌∷◌, None, Some, Vec, length}
use Rattle.std.proofs.Common.{get_or, set, slice_get, zero, suc, ap, sym, ◌∙◌, refl, arith}
use Rattle.std.proofs.lemmas.Bool.{cases_eq}
use Rattle.std.specs.declared.alloc.Global.{Global}
use Rattle.packet_record.specs.declared.packet.Row.{Row}
use Rattle.packet_record.specs.Rows.{AreApart}
use Rattle.nest_spec.specs.inside.Index.{AreListed, IsNowhere, listed, place_in}

-- what the lists have where one of them is another
pub listed_put : (lists : List (Vec ℕ Global)) (n k : ℕ) (list : Vec ℕ Global) (x : ℕ) → n < length lists
    → slice_get list.items k ≡ Some x → listed (set lists n list) n k ≡ Some x
listed_put [] n k list x lt is = absurd (omega arith)
listed_put (l ∷ lists) zero k list x lt is = is
listed_put (l ∷ lists) (suc n) k list x lt is = listed_put lists n k list x (omega arith) is

pub listed_other : (lists : List (Vec ℕ Global)) (n m j : ℕ) (list d : Vec ℕ Global) (y : ℕ)
    → (m ≡ n → slice_get (get_or lists n d).items j ≡ Some y → slice_get list.items j ≡ Some y)
    → listed lists m j ≡ Some y → listed (set lists n list) m j ≡ Some y
listed_other [] n m j list d y same is = absurd cc
listed_other (l ∷ lists) zero zero j list d y same is = same refl is
listed_other (l ∷ lists) zero (suc m) j list d y same is = is
listed_other (l ∷ lists) (suc n) zero j list d y same is = is
listed_other (l ∷ lists) (suc n) (suc m) j list d y same is =
    listed_other lists n m j list d y (λ e. same (ap suc e)) is

-- other numbers of one list stand elsewhere in it
pub elsewhere : (id other : ℕ) → other ≢ id → other % 16 ≡ id % 16 → other / 16 ≢ id / 16
elsewhere id other ne list at = ne (omega arith)

pub listed_of : (lists : List (Vec ℕ Global)) (n k : ℕ) (list : Vec ℕ Global) → n < length lists
    → list ≡ get_or lists n list → listed lists n k ≡ slice_get list.items k
listed_of [] n k list lt is = absurd (omega arith)
listed_of (l ∷ lists) zero k list lt is = ap (λ (v : Vec ℕ Global). slice_get v.items k) (sym is)
listed_of (l ∷ lists) (suc n) k list lt is = listed_of lists n k list (omega arith) is

pub not_listed : (lists : List (Vec ℕ Global)) (n k : ℕ) → length lists ≤ n → listed lists n k ≡ None
not_listed [] n k le = refl
not_listed (l ∷ lists) zero k le = absurd (omega arith)
not_listed (l ∷ lists) (suc n) k le = not_listed lists n k (omega arith)

-- a number for which the lists have no place has no row
pub nowhere_listed : (rows : List Row) (lists : List (Vec ℕ Global)) (id : ℕ) → AreListed rows lists
    → place_in lists id ≡ None → IsNowhere rows id
nowhere_listed rows lists id is none = λ j d lt same. let no : None ≡ Some j = sym none
    ∙ ap (place_in lists) (sym same) ∙ is.leads j d lt in cc no

-- the lists of one row more
pub listed_more : (rows : List Row) (n : ℕ) (row : Row) (lists lists' : List (Vec ℕ Global)) → AreApart rows
    → n < length rows → row ≡ get_or rows n row
    → ((k : ℕ) (d : Row) → k < n → place_in lists (get_or rows k d).timed.packet.id ≡ Some k)
    → place_in lists' row.timed.packet.id ≡ Some n
    → ((other i : ℕ) → other ≢ row.timed.packet.id → place_in lists other ≡ Some i → place_in lists' other ≡ Some i)
    → (k : ℕ) (d : Row) → k < n + 1 → place_in lists' (get_or rows k d).timed.packet.id ≡ Some k
listed_more rows n row lists lists' apart lt read is here kept k d le =
    let at : (get_or rows n d).timed.packet.id ≡ row.timed.packet.id = ap (λ (r : Row). r.timed.packet.id)
    (one rows n d row lt read) in
    ⊎_elim
    (λ (e : k ≡ n). ap (λ j. place_in lists' (get_or rows j d).timed.packet.id) e ∙ ap (place_in lists') at ∙ here
    ∙ ap Some (sym e))
    (λ (ne : k ≢ n). kept _ k (λ same. ne (apart k n d (omega arith) lt (same ∙ sym at))) (is k d (omega arith)))
    (cases_eq k n)
  where
    one : (rows : List Row) (i : ℕ) (b row : Row) → i < length rows → row ≡ get_or rows i row → get_or rows i b ≡ row
    one [] i b row lt read = absurd (omega arith)
    one (r ∷ rows) zero b row lt read = sym read
    one (r ∷ rows) (suc i) b row lt read = one rows i b row (omega arith) read
