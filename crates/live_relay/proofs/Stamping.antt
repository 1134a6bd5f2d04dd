-- The rows of a relay, turn by turn.
use Rattle.std.proofs.Common.{◌≡◌, ℕ, zero, suc, ◌≤◌, ◌<◌, ◌-◌, ◌+◌, ◌&&◌, Bool, true, false, cond, List, [], ◌∷◌, ◌++◌}
use Rattle.std.proofs.Common.{Option, Some, None, length, map, take, get_or, nat_le, ap, sym, ◌∙◌, refl}
use Rattle.std.proofs.Common.{append_assoc, arith, rules, tests}
use Rattle.std.proofs.lemmas.List.{append-nil, length-append, length-map, length-take, map-append}
use Rattle.packet_record.specs.declared.packet.Direction.{Direction}
use Rattle.packet_record.specs.declared.packet.Packet.{Packet}
use Rattle.packet_record.specs.declared.packet.Row.{Row}
use Rattle.packet_record.specs.Rows.{AreApart, entering, goes}
use Rattle.packet_record.proofs.OneList.{same_packet}
use Rattle.packet_record.specs.Packets.{number}
use Rattle.live_relay.specs.declared.side.Side.{Side}
use Rattle.live_relay.specs.Due.{pieces_of}
use Rattle.live_relay.specs.Stamped.{Stamp, Turn, row_of, rows_from, rows_of, refused_at, refused_of, stamp_within}
use Rattle.live_relay.specs.Stamped.{stamped_at, stamps_of, direction_of}
use Rattle.live_relay.specs.inside.Ways.{fits_not}
use Rattle.live_relay.specs.Wires.{Datagram}

pub stamps-append : (xs ys : List Turn) → stamps_of (xs ++ ys) ≡ stamps_of xs ++ stamps_of ys
stamps-append [] ys = refl
stamps-append (t ∷ xs) ys = ap (λ (l : List Stamp). stamped_at t.moment t.answer ++ l) (stamps-append xs ys)
    ∙ sym (append_assoc (stamped_at t.moment t.answer) (stamps_of xs) (stamps_of ys))

pub stamps-snoc : (xs : List Turn) (t : Turn) → stamps_of (xs ++ t ∷ []) ≡ stamps_of xs ++ stamped_at t.moment t.answer
stamps-snoc xs t = stamps-append xs (t ∷ []) ∙ ap (λ (l : List Stamp). stamps_of xs ++ l)
    (append-nil (stamped_at t.moment t.answer))

pub rows_from-append : (id : ℕ) (xs ys : List Stamp) → rows_from id (xs ++ ys) ≡ rows_from id xs
    ++ rows_from (id + length xs) ys
rows_from-append id [] ys = let e : id ≡ id + 0 = omega arith in ap (λ n. rows_from n ys) e
rows_from-append id (s ∷ xs) ys =
    let e : id + 1 + length xs ≡ id + suc (length xs) = omega arith in
    ap (λ (l : List Row). row_of id s ∷ l) (rows_from-append (id + 1) xs ys
    ∙ ap (λ n. rows_from (id + 1) xs ++ rows_from n ys) e)

pub rows-long : (id : ℕ) (xs : List Stamp) → length (rows_from id xs) ≡ length xs
rows-long id [] = refl
rows-long id (s ∷ xs) = ap suc (rows-long (id + 1) xs)

-- each row has its bytes
pub pieces_long : (turns : List Turn) → length (pieces_of (stamps_of turns)) ≡ length (rows_of turns)
pieces_long turns = length-map (stamps_of turns) (λ (s : Stamp). s.bytes) ∙ sym (rows-long 1 (stamps_of turns))

pub pieces-append : (xs ys : List Stamp) → pieces_of (xs ++ ys) ≡ pieces_of xs ++ pieces_of ys
pieces-append xs ys = map-append _ xs ys

pub rows-snoc : (turns : List Turn) (t : Turn)
    → rows_of (turns ++ t ∷ []) ≡ rows_of turns ++ rows_from (length (rows_of turns) + 1) (stamped_at t.moment t.answer)
rows-snoc turns t =
    let long = rows-long 1 (stamps_of turns) in
    let e : 1 + length (stamps_of turns) ≡ length (rows_of turns) + 1 = omega arith in
    ap (rows_from 1) (stamps-snoc turns t) ∙ rows_from-append 1 (stamps_of turns) (stamped_at t.moment t.answer)
    ∙ ap (λ n. rows_of turns ++ rows_from n (stamped_at t.moment t.answer)) e

pub pieces-snoc : (turns : List Turn) (t : Turn)
    → pieces_of (stamps_of (turns ++ t ∷ [])) ≡ pieces_of (stamps_of turns) ++ pieces_of (stamped_at t.moment t.answer)
pieces-snoc turns t = ap pieces_of (stamps-snoc turns t)
    ∙ pieces-append (stamps_of turns) (stamped_at t.moment t.answer)

pub refused-append : (xs ys : List Turn) → refused_of (xs ++ ys) ≡ refused_of xs + refused_of ys
refused-append [] ys = omega arith
refused-append (t ∷ xs) ys =
    let rest = refused-append xs ys in
    omega arith

pub refused-snoc : (turns : List Turn) (t : Turn) → refused_of (turns ++ t ∷ []) ≡ refused_of turns + refused_at
    t.answer
refused-snoc turns t = let e = refused-append turns (t ∷ []) in omega arith

one_at_most : (moment : ℕ) (side : Side) (bytes : List ℕ) (some most : Bool) (e : nat_le 1 (length bytes) ≡ some)
    (f : nat_le (length bytes) 1504 ≡ most) → length (stamp_within moment side bytes some most e f) ≤ 1
one_at_most moment side bytes true true e f = omega arith
one_at_most moment side bytes true false e f = omega arith
one_at_most moment side bytes false most e f = omega arith

one_stamp : (moment : ℕ) (answer : Option Datagram) → length (stamped_at moment answer) ≤ 1
one_stamp moment None = omega arith
one_stamp moment (Some d) =
    one_at_most moment d.0 d.1 (nat_le 1 (length d.1)) (nat_le (length d.1) 1504) refl refl

one_refused : (answer : Option Datagram) → refused_at answer ≤ 1
one_refused None = omega arith
one_refused (Some d) = by (nat_le 1 (length d.1) && nat_le (length d.1) 1504)
  where
    by : (b : Bool) → cond {A = ℕ} b 0 1 ≤ 1
    by true = omega arith
    by false = omega arith

-- no more packets than turns, and no more refusals
pub few_stamps : (turns : List Turn) → length (stamps_of turns) ≤ length turns
few_stamps [] = omega arith
few_stamps (t ∷ turns) =
    let rest = few_stamps turns in
    let one = one_stamp t.moment t.answer in
    let long = length-append (stamped_at t.moment t.answer) (stamps_of turns) in
    omega arith

pub few_refused : (turns : List Turn) → refused_of turns ≤ length turns
few_refused [] = omega arith
few_refused (t ∷ turns) =
    let rest = few_refused turns in
    let one = one_refused t.answer in
    omega arith

-- the number of a packet, by its place
numbered : (id : ℕ) (xs : List Stamp) (i : ℕ) (d : Row) → i < length (rows_from id xs)
    → (get_or (rows_from id xs) i d).timed.packet.id ≡ id + i
numbered id [] i d lt = absurd (omega arith)
numbered id (s ∷ xs) zero d lt = omega arith
numbered id (s ∷ xs) (suc i) d lt = let rest = numbered (id + 1) xs i d (omega arith) in omega arith

pub apart : (turns : List Turn) → AreApart (rows_of turns)
apart turns i j d lt lt' e =
    let a = numbered 1 (stamps_of turns) i d lt in let b = numbered 1 (stamps_of turns) j d lt' in omega arith

-- a packet whose bytes don't stand among the first `n`
abbrev pub is_beyond : ℕ → Packet → Bool
is_beyond n p = nat_le n (p.id - 1)

within_one : (n : ℕ) (keep : Bool) (row : Row) (rows : List Row) → is_beyond n row.timed.packet ≡ false
    → number (is_beyond n) (map (λ (r : Row). r.timed) rows) ≡ 0
    → number (is_beyond n) (map (λ (r : Row). r.timed) (cond keep (row ∷ rows) rows)) ≡ 0
within_one n true row rows not none =
    ap (λ b. cond {A = ℕ} b 1 0 + number (is_beyond n) (map (λ (r : Row). r.timed) rows)) not ∙ omega arith
within_one n false row rows not none = none

none_beyond : (n id : ℕ) (d : Direction) (h : ℕ) (xs : List Stamp) → 1 ≤ id → id - 1 + length xs ≤ n
    → number (is_beyond n) (entering d h (rows_from id xs)) ≡ 0
none_beyond n id d h [] some le = refl
none_beyond n id d h (s ∷ xs) some le =
    let not : nat_le n (id - 1) ≡ false = search (rules, tests) in
    within_one n (goes d (direction_of s.side) && nat_le s.moment h) (row_of id s) _ not
    (none_beyond n (id + 1) d h xs (omega arith) (omega arith))

-- no packet of the rows is beyond them
pub none_past : (d : Direction) (h : ℕ) (turns : List Turn)
    → number (is_beyond (length (pieces_of (stamps_of turns)))) (entering d h (rows_of turns)) ≡ 0
none_past d h turns =
    let long = length-map (stamps_of turns) (λ (s : Stamp). s.bytes) in
    none_beyond (length (pieces_of (stamps_of turns))) 1 d h (stamps_of turns) (omega arith) (omega arith)

-- what a datagram is, by its size
pub stamp_fits : (moment id : ℕ) (side : Side) (bytes : List ℕ) (p : Packet) → p.id ≡ id → p.size ≡ length bytes
    → rows_from id (stamped_at moment (Some (side, bytes)))
    ≡ record { direction = direction_of side; timed = record { moment = moment; packet = p } } ∷ []
stamp_fits moment id side bytes p i s =
    by (nat_le 1 (length bytes)) (nat_le (length bytes) 1504) refl refl
    (let some = p.some in let e : 1 ≤ length bytes = omega arith in search (rules, tests))
    (let most = p.most in let e : length bytes ≤ 1504 = omega arith in search (rules, tests))
  where
    row : Packet → Row
    row q = record { direction = direction_of side; timed = record { moment = moment; packet = q } }

    by : (some most : Bool) (e : nat_le 1 (length bytes) ≡ some) (f : nat_le (length bytes) 1504 ≡ most)
        → some ≡ true → most ≡ true → rows_from id (stamp_within moment side bytes some most e f) ≡ row p ∷ []
    by true true e f g k = ap (λ (q : Packet). row q ∷ []) (same_packet _ p (sym i) (sym s))
    by true false e f g k = absurd (cc k)
    by false most e f g k = absurd (cc g)

pub piece_fits : (moment : ℕ) (side : Side) (bytes : List ℕ) → 1 ≤ length bytes → length bytes ≤ 1504
    → pieces_of (stamped_at moment (Some (side, bytes))) ≡ bytes ∷ []
piece_fits moment side bytes some most =
    by (nat_le 1 (length bytes)) (nat_le (length bytes) 1504) refl refl (search (rules, tests)) (search (rules, tests))
  where
    by : (x y : Bool) (e : nat_le 1 (length bytes) ≡ x) (f : nat_le (length bytes) 1504 ≡ y) → x ≡ true → y ≡ true
        → pieces_of (stamp_within moment side bytes x y e f) ≡ bytes ∷ []
    by true true e f g k = refl
    by true false e f g k = absurd (cc k)
    by false y e f g k = absurd (cc g)

pub fits_counts : (side : Side) (bytes : List ℕ) → 1 ≤ length bytes → length bytes ≤ 1504
    → refused_at (Some (side, bytes)) ≡ 0
fits_counts side bytes some most =
    let x : nat_le 1 (length bytes) ≡ true = search (rules, tests) in
    let y : nat_le (length bytes) 1504 ≡ true = search (rules, tests) in
    ap (λ b. cond {A = ℕ} (b && nat_le (length bytes) 1504) 0 1) x ∙ ap (λ b. cond {A = ℕ} b 0 1) y

pub not_fits : (moment : ℕ) (side : Side) (bytes : List ℕ) → fits_not (length bytes)
    → (stamped_at moment (Some (side, bytes)) ≡ []) × (refused_at (Some (side, bytes)) ≡ 1)
not_fits moment side bytes not = by (nat_le 1 (length bytes)) (nat_le (length bytes) 1504) refl refl
  where
    by : (x y : Bool) (e : nat_le 1 (length bytes) ≡ x) (f : nat_le (length bytes) 1504 ≡ y)
        → (stamp_within moment side bytes x y e f ≡ []) × (cond {A = ℕ} (x && y) 0 1 ≡ 1)
    by true true e f = absurd (not (search (rules, tests)) (search (rules, tests)))
    by true false e f = (refl, refl)
    by false true e f = (refl, refl)
    by false false e f = (refl, refl)

-- the row of a datagram at the start of a buffer
pub row_is : (moment id : ℕ) (side : Side) (buf : List ℕ) (size : ℕ) (p : Packet) (d : Direction)
    → size ≤ length buf → p.id ≡ id → p.size ≡ size → d ≡ direction_of side
    → record { direction = d; timed = record { moment = moment; packet = p } } ∷ []
    ≡ rows_from id (stamped_at moment (Some (side, take size buf)))
row_is moment id side buf size p d le i s at =
    let long = length-take size buf in
    let size_is : p.size ≡ length (take size buf) = omega arith in
    let row : Direction → List Row = λ x. record { direction = x; timed = record { moment = moment; packet = p } } ∷
    [] in
    ap row at ∙ sym (stamp_fits moment id side (take size buf) p i size_is)
