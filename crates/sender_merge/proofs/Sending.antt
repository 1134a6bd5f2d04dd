-- The rows that a sender sends, one by one.
use Rattle.std.proofs.Common.{◌≡◌, ℕ, ◌+◌, ◌≤◌, ◌∙◌, ap, sym, List, [], ◌∷◌, ◌++◌, length, map, arith, refl}
use Rattle.std.proofs.Common.{append_assoc, option_to_list, suc, take, zero}
use Rattle.std.proofs.lemmas.List.{append-nil, map-append}
use Rattle.packet_record.specs.declared.item.Item.{Item}
use Rattle.packet_record.specs.declared.item.Item.TheVariants.{End as Over}
use Rattle.packet_record.specs.Sources.{items_from, sent_after, source_item, source_items}
use Rattle.packet_record.specs.declared.packet.Direction.{Direction}
use Rattle.packet_record.specs.declared.packet.Row.{Row}
use Rattle.packet_record.specs.declared.packet.Timed.{Timed}
use Rattle.packet_record.specs.Orders.{AreInOrder, IsSchedule}
use Rattle.packet_record.specs.Rows.{Rises, entering}
use Rattle.packet_record.proofs.RowsLemmas.{entering-append}
use Rattle.sender_merge.specs.Merges.{merged_row}
use Rattle.sender_merge.specs.inside.RowMerges.{AllNumbered}

numbered_from : (place low : ℕ) (rows : List Row) → 1 ≤ place → length rows + place ≤ 1000001
    → AreInOrder place low rows → AllNumbered rows
numbered_from place low [] one few order = tt
numbered_from place low (r ∷ rows) one few order =
    let is = order.0 in (
      (omega arith, omega arith),
      numbered_from (place + 1) r.timed.moment rows (omega arith) (omega arith) order.2,
    )

-- each row of a schedule has a number that a line may have
pub schedule_numbered : (rows : List Row) → IsSchedule rows → AllNumbered rows
schedule_numbered rows is = let few = is.few in numbered_from 1 0 rows (omega arith) (omega arith) is.order

-- rows that rise from `b` rise from an earlier `a`
pub rises_lower : (a b : ℕ) (rows : List Row) → a ≤ b → Rises b rows → Rises a rows
rises_lower a b [] le rises = tt
rises_lower a b (r ∷ rows) le rises = ((let first = rises.0 in omega arith), rises.1)

-- the packets sent are those that enter of the rows so far, with one row more
pub packets_on : (d : Direction) (h c : ℕ) (front : List Row) (row : Row) (old new : List Timed) (longer : List Row)
    → new ≡ old ++ entering d h (merged_row c row ∷ []) → old ≡ entering d h (map (merged_row c) front)
    → longer ≡ front ++ row ∷ [] → new ≡ entering d h (map (merged_row c) longer)
packets_on d h c front row old new longer is so split =
    is ∙ ap (λ (l : List Timed). l ++ entering d h (merged_row c row ∷ [])) so
    ∙ sym (entering-append d h (map (merged_row c) front) (merged_row c row ∷ []))
    ∙ ap (entering d h) (sym (map-append (merged_row c) front (row ∷ [])))
    ∙ ap (λ (l : List Row). entering d h (map (merged_row c) l)) (sym split)

-- `items` is what `rows` give: whatever rows follow, they give what is still to be sent
pub record GoesOn (d : Direction) (h sent : ℕ) (rows : List Row) (items : List Item) : Type 0 where
  pub is : (more : List Row) → items ++ items_from d h sent more ≡ source_items d h (rows ++ more)

pub none_yet : (d : Direction) (h sent : ℕ) (items : List Item) → items ≡ [] → sent ≡ 0 → GoesOn d h sent [] items
none_yet d h sent items none zero' = record {
  is = λ more. ap (λ (l : List Item). l ++ items_from d h sent more) none
      ∙ ap (λ (n : ℕ). items_from d h n more) zero';
}

-- `GoesOn` with one row more
pub items_on : (d : Direction) (h c sent next : ℕ) (front : List Row) (row : Row) (old new : List Item)
    (longer : List Row) → new ≡ old ++ option_to_list (source_item d h sent (merged_row c row))
    → next ≡ sent_after sent (merged_row c row) (source_item d h sent (merged_row c row))
    → GoesOn d h sent (map (merged_row c) front) old → longer ≡ front ++ row ∷ []
    → GoesOn d h next (map (merged_row c) longer) new
items_on d h c sent next front row old new longer is after was split =
    let mine = merged_row c row in
    let split' : map (merged_row c) longer ≡ map (merged_row c) front ++ mine ∷ [] =
    ap (map (merged_row c)) split ∙ map-append (merged_row c) front (row ∷ []) in
    record {
      is = λ more.
          ap (λ (l : List Item). l ++ items_from d h next more) is
          ∙ ap (λ (n : ℕ). (old ++ option_to_list (source_item d h sent mine)) ++ items_from d h n more) after
          ∙ append_assoc old (option_to_list (source_item d h sent mine)) _
          ∙ was.is (mine ∷ more)
          ∙ ap (source_items d h) (sym (append_assoc (map (merged_row c) front) (mine ∷ []) more))
          ∙ ap (λ (l : List Row). source_items d h (l ++ more)) (sym split');
    }

-- a front as long as the list is the list
pub take_whole : (n : ℕ) (rows : List Row) → length rows ≤ n → take n rows ≡ rows
take_whole zero [] le = refl
take_whole (suc n) [] le = refl
take_whole zero (r ∷ rows) le = absurd (omega arith)
take_whole (suc n) (r ∷ rows) le = ap (λ (l : List Row). r ∷ l) (take_whole n rows (omega arith))

-- what was sent after the last row and the end
pub all_on : (d : Direction) (h sent : ℕ) (rows whole : List Row) (old new : List Item) → GoesOn d h sent rows old
    → rows ≡ whole → new ≡ old ++ Over ∷ [] → new ≡ source_items d h whole
all_on d h sent rows whole old new was same is =
    is ∙ was.is [] ∙ ap (source_items d h) (append-nil rows) ∙ ap (source_items d h) same
