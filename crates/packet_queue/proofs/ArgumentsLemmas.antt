-- The items of a queue's arguments, one by one.
use Rattle.std.proofs.Common.{◌≡◌, ◌⊎◌, inl, inr, ℕ, ◌+◌, ◌≤◌, ◌&&◌, ◌||◌, Bool, true, false, cond, List, [], ◌∷◌}
use Rattle.std.proofs.Common.{Option, Some, None, Err, option_to_list, length, take, drop, nat_le, position, refl, ap}
use Rattle.std.proofs.Common.{◌∙◌, arith}
use Rattle.std.specs.Borrow.{Bor}
use Rattle.std.specs.Option.{is_some}
use Rattle.std.specs.List.{list_all, slice_split, cons_option, position_or_len}
use Rattle.std.proofs.lemmas.Grind.{common_steps}
use Rattle.std.proofs.lemmas.List.Quantifiers.{position-Some}
use Rattle.std.proofs.lemmas.List.Sums.{fails_before_first}
use Rattle.std.proofs.lemmas.List.Splits.{slice_split_first, slice_split_none}
use Rattle.std.proofs.lemmas.Bool.{cases_eq, ne_eqb, lt-leb}
use Rattle.packet_queue.specs.declared.spec.QueueKind.{QueueKind}
use Rattle.packet_queue.specs.declared.spec.QueueError.TheVariants.{BadArgs}
use Rattle.packet_queue.specs.declared.reading.Limits.{Limits}
use Rattle.packet_queue.specs.Arguments.{number_of, numbers_of, packets_name, bytes_name, is_item, are_items, limit_of}
use Rattle.packet_queue.specs.Arguments.{with_limits, limited}
use Rattle.packet_queue.specs.inside.Reading.{limits, with_packets, read_on, limited_by}

-- no item has both names
apart : (item : List ℕ) → (number_of bytes_name item ≡ None) ⊎ (number_of packets_name item ≡ None)
apart [] = inl refl
apart (byte ∷ bytes) = elim (cases_eq byte 98) [
  | inl e ↦ inr (rw e refl)
  | inr ne ↦ inl (rw (ne_eqb byte 98 ne) refl)
]

abbrev pub first : List ℕ → Option ℕ
first [] = None
first (n ∷ ns) = Some n

-- what the items come to, after these limits
abbrev chosen : Option ℕ → Option ℕ → Bool → List ℕ → List ℕ → Option Limits
chosen p b a ps bs =
    cond (a && nat_le (length (cons_option p ps)) 1 && nat_le (length (cons_option b bs)) 1)
    (Some (limits (first (cons_option p ps)) (first (cons_option b bs)))) None

twice : (a : Bool) (n m : ℕ) (ps bs : List ℕ) (l : Option Limits)
    → None ≡ cond (a && nat_le (length (n ∷ m ∷ ps)) 1 && nat_le (length bs) 1) l None
twice a n m ps bs l =
    let long : nat_le (length (n ∷ m ∷ ps)) 1 ≡ false = lt-leb (length (n ∷ m ∷ ps)) 1 (omega arith) in
    rw long (elim a as (λ v. None ≡ cond (v && false && nat_le (length bs) 1) l None) [ true ↦ refl | false ↦ refl ])

twice_second : (a : Bool) (n m : ℕ) (ps bs : List ℕ) (l : Option Limits)
    → None ≡ cond (a && nat_le (length ps) 1 && nat_le (length (n ∷ m ∷ bs)) 1) l None
twice_second a n m ps bs l =
    let long : nat_le (length (n ∷ m ∷ bs)) 1 ≡ false = lt-leb (length (n ∷ m ∷ bs)) 1 (omega arith) in
    rw long (elim (a && nat_le (length ps) 1) as (λ v. None ≡ cond (v && false) l None) [ true ↦ refl | false ↦ refl ])

-- one more item
step : (r : Option Limits → Option Limits) (a : Bool) (ps bs : List ℕ) → r None ≡ None
    → ((p b : Option ℕ) → r (Some (limits p b)) ≡ chosen p b a ps bs)
    → (p b x y : Option ℕ) → (y ≡ None) ⊎ (x ≡ None)
    → r (with_packets (limits p b) x y) ≡ chosen p b ((is_some x || is_some y) && a) (cons_option x ps)
    (cons_option y bs)
step r a ps bs none more p b None None one = none
step r a ps bs none more p None None (Some m) one = more p (Some m)
step r a ps bs none more p (Some k) None (Some m) one = none ∙ twice_second a k m (cons_option p ps) bs _
step r a ps bs none more None b (Some n) None one = more (Some n) b
step r a ps bs none more (Some k) b (Some n) None one = none ∙ twice a k n ps (cons_option b bs) _
step r a ps bs none more p b (Some n) (Some m) (inl e) = cc
step r a ps bs none more p b (Some n) (Some m) (inr e) = cc

read_none : (items : List (List ℕ)) → read_on None items ≡ None
read_none items = refl

read_on_is : (items : List (List ℕ)) (p b : Option ℕ)
    → read_on (Some (limits p b)) items ≡ chosen p b (list_all is_item items) (numbers_of packets_name items)
    (numbers_of bytes_name items)
read_on_is [] None None = refl
read_on_is [] None (Some m) = refl
read_on_is [] (Some n) None = refl
read_on_is [] (Some n) (Some m) = refl
read_on_is (item ∷ items) p b =
    step (λ l. read_on l items) (list_all is_item items) (numbers_of packets_name items) (numbers_of bytes_name items)
    (read_none items)
    (λ p b. read_on_is items p b) p b (number_of packets_name item) (number_of bytes_name item) (apart item)

limit_of_first : (ns : List ℕ) → limit_of (option_to_list (first ns)) ≡ limit_of ns
limit_of_first [] = refl
limit_of_first (n ∷ ns) = refl

limited_chosen : (kind : QueueKind) (good : Bool) (ps bs : List ℕ)
    → limited_by kind (cond good (Some (limits (first ps) (first bs))) None) ≡ cond good
    (with_limits kind (limit_of ps) (limit_of bs)) (Err BadArgs)
limited_chosen kind true ps bs =
    ap (λ (o : Option ℕ). with_limits kind o (limit_of (option_to_list (first bs)))) (limit_of_first ps)
    ∙ ap (λ (o : Option ℕ). with_limits kind (limit_of ps) o) (limit_of_first bs)
limited_chosen kind false ps bs = refl

-- what reading item by item gives
pub limited_is : (kind : QueueKind) (items : List (List ℕ))
    → limited_by kind (read_on (Some (limits None None)) items) ≡ limited kind items
limited_is kind items =
    ap (λ (o : Option Limits). limited_by kind o) (read_on_is items None None)
    ∙ limited_chosen kind (are_items items) (numbers_of packets_name items) (numbers_of bytes_name items)

abbrev pub length_after : Option (Bor (List ℕ)) → ℕ
length_after None = 0
length_after (Some more) = length more.now + 1

pub items_at : (p : ℕ → Bool) (text : List ℕ) (end : ℕ) → position p text ≡ Some end
    → slice_split p text ≡ take end text ∷ slice_split p (drop (end + 1) text)
items_at p text end e =
    let within = (position-Some p text end 0 e).0 in
    let at : position_or_len p text ≡ end = grind (arith, common_steps) in
    slice_split_first p text 0 (omega arith)
    ∙ ap (λ i. take i text ∷ slice_split p (drop (i + 1) text)) at

pub items_one : (p : ℕ → Bool) (text : List ℕ) → position p text ≡ None → slice_split p text ≡ text ∷ []
items_one p text e =
    let long : length text ≤ position_or_len p text = grind (arith, common_steps) in
    slice_split_none p text (λ k d lt. fails_before_first p text k d (omega arith))
