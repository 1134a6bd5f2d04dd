-- The rows of a relay, as they go once more through a nest whose horizon is the last moment.
use Rattle.std.proofs.Common.{◌≡◌, ◌≤◌, ◌<◌, ◌+◌, ◌∙◌, ℕ, suc, Bool, true, false, List, [], ◌∷◌, ◌++◌, Option, Some, None}
use Rattle.std.proofs.Common.{length, map, take, drop, get_or, nat_le, ap, sym, subst, refl, arith}
use Rattle.std.proofs.Math.Seq.{drop-cons, take-suc}
use Rattle.packet_record.specs.declared.packet.Direction.{Direction}
use Rattle.packet_record.specs.declared.packet.Row.{Row}
use Rattle.packet_record.specs.declared.packet.Timed.{Timed}
use Rattle.packet_record.specs.Orders.{AreWithin}
use Rattle.packet_record.specs.Rows.{Rises, entering}
use Rattle.packet_record.proofs.RowsLemmas.{entering-append}
use Rattle.nest_spec.specs.Walk.{last_of}
use Rattle.live_relay.specs.declared.side.Side.{Side}
use Rattle.live_relay.specs.Due.{last_moment}
use Rattle.live_relay.specs.Relays.{NeverBefore}
use Rattle.live_relay.specs.Stamped.{Stamp, Turn, rows_from, rows_of, stamp_within, stamped_at, stamps_of}
use Rattle.live_relay.specs.Wires.{Datagram}

pub rises_lower : (low high : ℕ) (rows : List Row) → low ≤ high → Rises high rows → Rises low rows
rises_lower low high [] le r = tt
rises_lower low high (row ∷ rows) le r = let at = r.0 in (omega arith, r.1)

stamped_rise : (moment : ℕ) (side : Side) (bytes : List ℕ) (some most : Bool)
    (e : nat_le 1 (length bytes) ≡ some) (f : nat_le (length bytes) 1504 ≡ most) (id low : ℕ) (rest : List Stamp)
    → low ≤ moment → ((i : ℕ) → Rises moment (rows_from i rest))
    → Rises low (rows_from id (stamp_within moment side bytes some most e f ++ rest))
stamped_rise moment side bytes true true e f id low rest le h = (le, h (id + 1))
stamped_rise moment side bytes true false e f id low rest le h = rises_lower low moment _ le (h id)
stamped_rise moment side bytes false most e f id low rest le h = rises_lower low moment _ le (h id)

turn_rise : (moment : ℕ) (answer : Option Datagram) (id low : ℕ) (rest : List Stamp) → low ≤ moment
    → ((i : ℕ) → Rises moment (rows_from i rest)) → Rises low (rows_from id (stamped_at moment answer ++ rest))
turn_rise moment None id low rest le h = rises_lower low moment _ le (h id)
turn_rise moment (Some d) id low rest le h =
    stamped_rise moment d.0 d.1 (nat_le 1 (length d.1)) (nat_le (length d.1) 1504) refl refl id low rest le h

rows_rise_from : (id low : ℕ) (turns : List Turn) → NeverBefore low turns → Rises low (rows_from id (stamps_of turns))
rows_rise_from id low [] n = tt
rows_rise_from id low (t ∷ turns) n =
    turn_rise t.moment t.answer id low (stamps_of turns) n.0 (λ i. rows_rise_from i t.moment turns n.1)

stamped_within : (moment : ℕ) (side : Side) (bytes : List ℕ) (some most : Bool)
    (e : nat_le 1 (length bytes) ≡ some) (f : nat_le (length bytes) 1504 ≡ most) (id high : ℕ) (rest : List Stamp)
    → moment ≤ high → ((i : ℕ) → AreWithin high (rows_from i rest))
    → AreWithin high (rows_from id (stamp_within moment side bytes some most e f ++ rest))
stamped_within moment side bytes true true e f id high rest le h = (le, h (id + 1))
stamped_within moment side bytes true false e f id high rest le h = h id
stamped_within moment side bytes false most e f id high rest le h = h id

turn_within : (moment : ℕ) (answer : Option Datagram) (id high : ℕ) (rest : List Stamp) → moment ≤ high
    → ((i : ℕ) → AreWithin high (rows_from i rest)) → AreWithin high (rows_from id (stamped_at moment answer ++ rest))
turn_within moment None id high rest le h = h id
turn_within moment (Some d) id high rest le h =
    stamped_within moment d.0 d.1 (nat_le 1 (length d.1)) (nat_le (length d.1) 1504) refl refl id high rest le h

last_later : (low : ℕ) (turns : List Turn) → NeverBefore low turns
    → low ≤ last_of low (map (λ (t : Turn). t.moment) turns)
last_later low [] n = omega arith
last_later low (t ∷ turns) n = let first = n.0 in let rest = last_later t.moment turns n.1 in omega arith

rows_within_from : (id low : ℕ) (turns : List Turn) → NeverBefore low turns
    → AreWithin (last_of low (map (λ (t : Turn). t.moment) turns)) (rows_from id (stamps_of turns))
rows_within_from id low [] n = tt
rows_within_from id low (t ∷ turns) n =
    turn_within t.moment t.answer id (last_of t.moment (map (λ (x : Turn). x.moment) turns)) (stamps_of turns)
    (last_later t.moment turns n.1) (λ i. rows_within_from i t.moment turns n.1)

never_before_0 : (low : ℕ) (turns : List Turn) → NeverBefore low turns → NeverBefore 0 turns
never_before_0 low [] n = tt
never_before_0 low (t ∷ turns) n = (omega arith, n.1)

-- the rows of turns never fall, and are up to the last moment
pub rows_rise : (low : ℕ) (turns : List Turn) → NeverBefore low turns → Rises 0 (rows_of turns)
rows_rise low turns n = rows_rise_from 1 0 turns (never_before_0 low turns n)

pub rows_within : (low : ℕ) (turns : List Turn) → NeverBefore low turns → AreWithin (last_moment turns) (rows_of turns)
rows_within low turns n = rows_within_from 1 0 turns (never_before_0 low turns n)

-- the next row
pub next_rises : (low : ℕ) (rows : List Row) (i : ℕ) (d : Row) → i < length rows → Rises low (drop i rows)
    → (low ≤ (get_or rows i d).timed.moment) × Rises (get_or rows i d).timed.moment (drop (suc i) rows)
next_rises low rows i d lt r = subst (Rises low) (drop-cons rows i d lt) r

pub next_within : (high : ℕ) (rows : List Row) (i : ℕ) (d : Row) → i < length rows → AreWithin high (drop i rows)
    → ((get_or rows i d).timed.moment ≤ high) × AreWithin high (drop (suc i) rows)
next_within high rows i d lt r = subst (AreWithin high) (drop-cons rows i d lt) r

pub next_enters : (d : Direction) (h : ℕ) (rows : List Row) (i : ℕ) (row : Row) (packets : List Timed) → i < length rows
    → packets ≡ entering d h (take i rows)
    → packets ++ entering d h (get_or rows i row ∷ []) ≡ entering d h (take (suc i) rows)
next_enters d h rows i row packets lt is =
    ap (λ (l : List Timed). l ++ entering d h (get_or rows i row ∷ [])) is
    ∙ sym (entering-append d h (take i rows) (get_or rows i row ∷ []))
    ∙ ap (entering d h) (sym (take-suc rows i row lt))
