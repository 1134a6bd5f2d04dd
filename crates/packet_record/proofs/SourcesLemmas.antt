-- What the source sends is honest, and its packets are those that enter.
use Rattle.std.proofs.Common.{◌≡◌, ℕ, ◌≤◌, ◌&&◌, Bool, true, false, cond, nat_le, nat_lt, if◌then◌else◌, List, [], ◌∷◌}
use Rattle.std.proofs.Common.{◌++◌, Option, Some, None, option_to_list, filter, map, refl, ap, sym, ◌∙◌, append_assoc}
use Rattle.std.proofs.Common.{arith, rules, tests}
use Rattle.std.proofs.lemmas.List.{append-nil}
use Rattle.packet_record.specs.Rows.{goes, entering, Rises}
use Rattle.packet_record.specs.Sources.{source_item, sent_after, items_from, source_items}
use Rattle.packet_record.specs.Streams.{Stream, no_items, after, after_all, AllFollow}
use Rattle.packet_record.specs.declared.packet.Direction.{Direction}
use Rattle.packet_record.specs.declared.packet.Timed.{Timed}
use Rattle.packet_record.specs.declared.packet.Row.{Row}
use Rattle.packet_record.specs.declared.item.Item.{Item}
use Rattle.packet_record.specs.declared.item.Item.TheVariants.{Packet, Mark}
use Rattle.packet_record.specs.declared.item.FlowEnd.TheVariants.{Open, Ended}

-- the item that a row gives, by its three tests
abbrev item_by : Bool → Bool → Bool → Row → Option Item
item_by within own later row = if within
    then (if own then Some (Packet row.timed) else (if later then Some (Mark row.timed.moment) else None)) else None

abbrev kept_by : Bool → List Timed → Timed → List Timed
kept_by keep rest t = if keep then t ∷ rest else rest

row_packets : (within own later : Bool) (sent : ℕ) (row : Row) (f : Stream) (entered : List Timed) (more : ℕ
    → List Item)
    → ((g : Stream) (n : ℕ) → (after_all g (more n)).packets ≡ g.packets ++ entered)
    → (after_all f (option_to_list (item_by within own later row)
    ++ more (sent_after sent row (item_by within own later row)))).packets
    ≡ f.packets ++ kept_by (own && within) entered row.timed
row_packets true true later sent row f entered more rest = rest (after f (Packet row.timed)) row.timed.moment
    ∙ append_assoc f.packets (row.timed ∷ []) entered
row_packets true false true sent row f entered more rest = rest (after f (Mark row.timed.moment)) row.timed.moment
row_packets true false false sent row f entered more rest = rest f sent
row_packets false true later sent row f entered more rest = rest f sent
row_packets false false later sent row f entered more rest = rest f sent

kept_rows : (keep : Bool) (row : Row) (rows : List Row)
    → kept_by keep (map (λ (r : Row). r.timed) rows) row.timed ≡ map (λ (r : Row). r.timed)
    (cond keep (row ∷ rows) rows)
kept_rows true row rows = refl
kept_rows false row rows = refl

packets_from : (d : Direction) (h sent : ℕ) (rows : List Row) (f : Stream)
    → (after_all f (items_from d h sent rows)).packets ≡ f.packets ++ entering d h rows
packets_from d h sent [] f = sym (append-nil f.packets)
packets_from d h sent (row ∷ rows) f =
    row_packets (nat_le row.timed.moment h) (goes d row.direction) (nat_lt sent row.timed.moment) sent row f
    (entering d h rows) (λ n. items_from d h n rows)
    (λ g n. packets_from d h n rows g)
    ∙ ap (λ l. f.packets ++ l) (kept_rows (goes d row.direction && nat_le row.timed.moment h) row
    (filter (λ (r : Row). goes d r.direction && nat_le r.timed.moment h) rows))

-- the packets that are sent are those that enter
pub source_packets : (d : Direction) (h : ℕ) (rows : List Row)
    → (after_all no_items (source_items d h rows)).packets ≡ entering d h rows
source_packets d h rows = packets_from d h 0 rows no_items

ended_after : (item : Option Item) (sent : ℕ) (row : Row) (f : Stream) (more : ℕ → List Item)
    → ((g : Stream) (n : ℕ) → (after_all g (more n)).end ≡ Ended)
    → (after_all f (option_to_list item ++ more (sent_after sent row item))).end ≡ Ended
ended_after None sent row f more rest = rest f sent
ended_after (Some x) sent row f more rest = rest (after f x) row.timed.moment

-- and the stream of all that is sent has ended
pub items_end : (d : Direction) (h sent : ℕ) (rows : List Row) (f : Stream)
    → (after_all f (items_from d h sent rows)).end ≡ Ended
items_end d h sent [] f = refl
items_end d h sent (row ∷ rows) f = ended_after (source_item d h sent row) sent row f (λ n. items_from d h n rows)
    (λ g n. items_end d h n rows g)

row_follows : (within own later : Bool) (h sent : ℕ) (row : Row) (f : Stream) (more : ℕ → List Item)
    → f.end ≡ Open → f.bound ≡ sent → sent ≤ row.timed.moment → (within ≡ true → row.timed.moment ≤ h)
    → ((g : Stream) (n : ℕ) → g.end ≡ Open → g.bound ≡ n → n ≤ row.timed.moment → AllFollow h g (more n))
    → AllFollow h f (option_to_list (item_by within own later row)
    ++ more (sent_after sent row (item_by within own later row)))
row_follows true true later h sent row f more going bound le up_to rest =
    let most = up_to refl in
    ((going, omega (arith, bound)), most, rest (after f (Packet row.timed)) row.timed.moment going refl (omega arith))
row_follows true false true h sent row f more going bound le up_to rest =
    let most = up_to refl in (
      (going, omega (arith, bound)),
      omega (arith, most),
      rest (after f (Mark row.timed.moment)) row.timed.moment going
          refl (omega arith),
    )
row_follows true false false h sent row f more going bound le up_to rest = rest f sent going bound le
row_follows false true later h sent row f more going bound le up_to rest = rest f sent going bound le
row_follows false false later h sent row f more going bound le up_to rest = rest f sent going bound le

le_of_test : (m n : ℕ) → nat_le m n ≡ true → m ≤ n
le_of_test m n e = search (rules, tests)

rises_lower : (a b : ℕ) (rows : List Row) → a ≤ b → Rises b rows → Rises a rows
rises_lower a b [] le all = tt
rises_lower a b (row ∷ rows) le all = (let first = all.0 in omega arith, all.1)

honest_from : (d : Direction) (h sent : ℕ) (rows : List Row) (f : Stream) → f.end ≡ Open → f.bound ≡ sent
    → Rises sent rows → AllFollow h f (items_from d h sent rows)
honest_from d h sent [] f going bound rises = ((going, tt), tt, tt)
honest_from d h sent (row ∷ rows) f going bound rises =
    row_follows (nat_le row.timed.moment h) (goes d row.direction) (nat_lt sent row.timed.moment) h sent row f
    (λ n. items_from d h n rows) going bound rises.0
    (le_of_test row.timed.moment h)
    (λ g n going' bound' le. honest_from d h n rows g going' bound' (rises_lower n row.timed.moment rows le rises.1))

-- each item that is sent may follow what was sent before it, and is within the horizon
pub source_honest : (d : Direction) (h : ℕ) (rows : List Row) → Rises 0 rows
    → AllFollow h no_items (source_items d h rows)
source_honest d h rows rises = honest_from d h 0 rows no_items refl refl rises
