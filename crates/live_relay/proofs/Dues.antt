-- What is due to a side, by what has left a way.
use Rattle.std.proofs.Common.{◌≡◌, ℕ, ◌≤◌, ◌<◌, ◌-◌, ◌+◌, Bool, true, false, cond, List, [], ◌∷◌, ◌++◌}
use Rattle.std.proofs.Common.{Option, Some, None}
use Rattle.std.proofs.Common.{length, map, drop, nat_le, ap, sym, ◌∙◌, refl, inl}
use Rattle.std.proofs.Common.{append_assoc, arith, rules, tests}
use Rattle.std.proofs.lemmas.List.{append-nil, length-append, map-append}
use Rattle.std.proofs.Math.ListN.{get_or-append}
use Rattle.std.proofs.Math.Seq.{drop-append_seam}
use Rattle.packet_record.specs.declared.packet.Direction.{Direction}
use Rattle.packet_record.specs.declared.packet.Packet.{Packet}
use Rattle.packet_record.specs.declared.packet.Timed.{Timed}
use Rattle.packet_record.specs.declared.packet.Row.{Row}
use Rattle.packet_record.specs.Rows.{entering}
use Rattle.packet_record.specs.Moments.{AreFrom, Rise}
use Rattle.packet_record.proofs.RowsLemmas.{entering-append}
use Rattle.packet_record.specs.Packets.{number}
use Rattle.shell_state.specs.declared.spec.DirSpec.{DirSpec}
use Rattle.shell_state.specs.Shells.{whole_out}
use Rattle.shell_state.specs.Promises.{MayCome}
use Rattle.nest_spec.specs.declared.shell.ShellDirection.{ShellDirection}
use Rattle.nest_spec.specs.Nests.{NestParts, directions_of, shells_in}
use Rattle.nest_spec.specs.Walk.{last_list, walk}
use Rattle.live_relay.specs.Lines.{IsFront, last_out, out_of, up_to}
use Rattle.live_relay.proofs.Settling.{up_to-append}
use Rattle.live_relay.specs.declared.side.Side.{Side}
use Rattle.live_relay.specs.declared.way.Way.{Way}
use Rattle.live_relay.specs.Due.{bytes_in, departures, due, pieces_of, towards}
use Rattle.live_relay.specs.Relays.{IsFrontOf}
use Rattle.live_relay.specs.Stamped.{Turn, rows_from, rows_of, stamp_within, stamped_at, stamps_of}
use Rattle.live_relay.specs.inside.Ways.{IsCurrentWay, IsWay, KeepsWay, waiting}
use Rattle.live_relay.specs.Wires.{Datagram}
use Rattle.live_relay.proofs.Stamping.{is_beyond, none_past, pieces-snoc, rows-snoc}
use Rattle.live_relay.proofs.UpTo.{up_to_front}

-- the chain's last list, with and without the shells' numbers and names
last_is : (h : ℕ) (shells : List ShellDirection) (arrived : List Timed)
    → last_list arrived (walk h shells arrived) ≡ last_out h (map (λ (s : ShellDirection). s.spec) shells) arrived
last_is h [] arrived = refl
last_is h (s ∷ shells) arrived = last_is h shells (whole_out s.spec h arrived)

way_out : (nest : NestParts) (turns : List Turn) (d : Direction) (w : Way) → IsWay nest d (rows_of turns) w
    → departures nest turns d ≡ out_of w.line
way_out nest turns d w is =
    last_is nest.horizon (shells_in d nest) (entering d nest.horizon (rows_of turns))
    ∙ sym (ap (λ h. last_out h w.line.specs w.line.fed.packets) is.horizon
    ∙ ap (λ (c : List DirSpec). last_out nest.horizon c w.line.fed.packets) is.specs
    ∙ ap (last_out nest.horizon (directions_of d nest)) is.packets)

less_one : (p : Packet → Bool) (b : Bool) (m : ℕ) (t : Timed) (ts : List Timed) → number p (t ∷ ts) ≡ 0
    → number p (up_to m ts) ≡ 0 → number p (cond b (t ∷ up_to m ts) (up_to m ts)) ≡ 0
less_one p true m t ts none rest = omega arith
less_one p false m t ts none rest = rest

number_less : (p : Packet → Bool) (m : ℕ) (ts : List Timed) → number p ts ≡ 0 → number p (up_to m ts) ≡ 0
number_less p m [] none = refl
number_less p m (t ∷ ts) none = less_one p (nat_le t.moment m) m t ts none (number_less p m ts (omega arith))

not_one : (b : Bool) (n : ℕ) → cond b 1 0 + n ≡ 0 → b ≡ false
not_one true n e = absurd (omega arith)
not_one false n e = refl

-- packets that stand among these keep their bytes where more are added
bytes_more : (ps qs : List (List ℕ)) (ts : List Timed) → number (is_beyond (length ps)) ts ≡ 0
    → map (bytes_in (ps ++ qs)) ts ≡ map (bytes_in ps) ts
bytes_more ps qs [] none = refl
bytes_more ps qs (t ∷ ts) none =
    let not : nat_le (length ps) (t.packet.id - 1) ≡ false =
    not_one (nat_le (length ps) (t.packet.id - 1)) (number (is_beyond (length ps)) ts) none in
    let lt : t.packet.id - 1 < length ps = search (rules, tests) in
    let one = get_or-append ps qs [] (t.packet.id - 1) lt in
    let rest = bytes_more ps qs ts (omega arith) in
    ap (λ (x : List ℕ). x ∷ map (bytes_in (ps ++ qs)) ts) one
    ∙ ap (λ (l : List (List ℕ)). bytes_in ps t ∷ l) rest

-- what is due, by what has left the way
pub due_is : (nest : NestParts) (turns : List Turn) (side : Side) (m : ℕ) (pieces : List (List ℕ)) (w : Way)
    → IsWay nest (towards side) (rows_of turns) w → pieces ≡ pieces_of (stamps_of turns)
    → up_to m w.line.departed ≡ up_to m (out_of w.line)
    → due nest turns side m ≡ map (bytes_in pieces) (up_to m w.line.departed)
due_is nest turns side m pieces w way is settled =
    ap (λ (l : List Timed). map (bytes_in (pieces_of (stamps_of turns))) (up_to m l))
    (way_out nest turns (towards side) w way)
    ∙ ap (map (bytes_in (pieces_of (stamps_of turns)))) (sym settled)
    ∙ ap (λ (p : List (List ℕ)). map (bytes_in p) (up_to m w.line.departed)) (sym is)

-- what was due when it was all sent
due_then : (nest : NestParts) (turns : List Turn) (side : Side) (m : ℕ) (pieces : List (List ℕ)) (w : Way)
    → IsCurrentWay nest (towards side) (rows_of turns) m w → pieces ≡ pieces_of (stamps_of turns)
    → due nest turns side m ≡ map (bytes_in pieces) (up_to m w.line.departed)
due_then nest turns side m pieces w c is =
    let bound = c.bound in
    due_is nest turns side m pieces w c.way is (c.settled.settled m (omega arith) c.within)

none_sent : (nest : NestParts) (turns : List Turn) (d : Direction) (m : ℕ) (pieces : List (List ℕ)) (w : Way)
    → IsCurrentWay nest d (rows_of turns) m w → pieces ≡ pieces_of (stamps_of turns)
    → number (is_beyond (length pieces)) (up_to m w.line.departed) ≡ 0
none_sent nest turns d m pieces w c is =
    let past = none_past d nest.horizon turns in
    let entered : number (is_beyond (length pieces)) w.line.fed.packets ≡ 0 =
    ap (λ (p : List (List ℕ)). number (is_beyond (length p)) w.line.fed.packets) is
    ∙ ap (number (is_beyond (length (pieces_of (stamps_of turns))))) c.way.packets ∙ past in
    number_less (is_beyond (length pieces)) m w.line.departed (c.settled.entered _ entered)

-- what has left up to a moment goes on with what leaves later
goes_on : (m n : ℕ) (front all : List Timed) → Rise front → m ≤ n → IsFront front all → IsFront (up_to m front)
    (up_to n all)
goes_on m n front all rises le f =
    let early = up_to_front m n front rises le in
    record {
      more = early.more ++ up_to n f.more;
      is = ap (up_to n) f.is ∙ up_to-append n front f.more ∙ ap (λ (l : List Timed). l ++ up_to n f.more) early.is
          ∙ append_assoc (up_to m front) early.more (up_to n f.more);
    }

-- What is due in a later turn is what was due before, and then what waits.
pub due_grows : (nest : NestParts) (turns turns' : List Turn) (side : Side) (m n : ℕ)
    (pieces pieces' more : List (List ℕ)) (w w' : Way)
    → IsCurrentWay nest (towards side) (rows_of turns) m w → pieces ≡ pieces_of (stamps_of turns) → m ≤ n
    → IsWay nest (towards side) (rows_of turns') w' → pieces' ≡ pieces_of (stamps_of turns')
    → pieces' ≡ pieces ++ more → KeepsWay w w' → up_to n w'.line.departed ≡ up_to n (out_of w'.line)
    → due nest turns' side n ≡ due nest turns side m ++ waiting pieces' n w'
due_grows nest turns turns' side m n pieces pieces' more w w' c is le way' is' longer keeps settled =
    let front = up_to m w.line.departed in
    let on = goes_on m n w.line.departed w'.line.departed c.settled.rises le keeps.departed in
    let sent : w'.sent ≡ length front = keeps.sent ∙ c.sent in
    let rest : drop w'.sent (up_to n w'.line.departed) ≡ on.more =
    ap (λ k. drop k (up_to n w'.line.departed)) sent ∙ ap (drop (length front)) on.is
    ∙ drop-append_seam front on.more in
    let same : map (bytes_in pieces') front ≡ map (bytes_in pieces) front =
    ap (λ (p : List (List ℕ)). map (bytes_in p) front) longer
    ∙ bytes_more pieces more front (none_sent nest turns (towards side) m pieces w c is) in
    due_is nest turns' side n pieces' w' way' is' settled
    ∙ ap (map (bytes_in pieces')) on.is ∙ map-append (bytes_in pieces') front on.more
    ∙ ap (λ (l : List (List ℕ)). l ++ map (bytes_in pieces') on.more)
    (same ∙ sym (due_then nest turns side m pieces w c is))
    ∙ ap (λ (l : List Timed). due nest turns side m ++ map (bytes_in pieces') l) (sym rest)

-- as many as were sent had left
pub knows : (nest : NestParts) (d : Direction) (rows : List Row) (m n : ℕ) (w w' : Way)
    → IsCurrentWay nest d rows m w → m ≤ n → KeepsWay w w' → w'.sent ≤ length (up_to n w'.line.departed)
knows nest d rows m n w w' c le keeps =
    let on = goes_on m n w.line.departed w'.line.departed c.settled.rises le keeps.departed in
    let long = ap length on.is ∙ length-append (up_to m w.line.departed) on.more in
    let sent = keeps.sent ∙ c.sent in
    omega arith

-- What was due goes on, also with what was received since: with these packets, which may come.
due_front : (nest : NestParts) (turns turns' : List Turn) (side : Side) (m n : ℕ) (more : List (List ℕ))
    (w : Way) (coming : List Timed)
    → IsCurrentWay nest (towards side) (rows_of turns) m w → m ≤ n
    → entering (towards side) nest.horizon (rows_of turns') ≡ w.line.fed.packets ++ coming
    → MayCome w.line.fed coming
    → pieces_of (stamps_of turns') ≡ pieces_of (stamps_of turns) ++ more
    → IsFrontOf (due nest turns side m) (due nest turns' side n)
due_front nest turns turns' side m n more w coming c le enter come longer =
    let front = up_to m w.line.departed in
    let pieces = pieces_of (stamps_of turns) in
    let pieces' = pieces_of (stamps_of turns') in
    let f = c.settled.foretells coming come in
    let on = goes_on m n w.line.departed _ c.settled.rises le f in
    let same : map (bytes_in pieces') front ≡ map (bytes_in pieces) front =
    ap (λ (p : List (List ℕ)). map (bytes_in p) front) longer
    ∙ bytes_more pieces more front (none_sent nest turns (towards side) m pieces w c refl) in
    let out_is : departures nest turns' (towards side) ≡ last_out w.line.horizon w.line.specs (w.line.fed.packets
    ++ coming) =
    last_is nest.horizon (shells_in (towards side) nest) (entering (towards side) nest.horizon (rows_of turns'))
    ∙ sym (ap (λ h. last_out h w.line.specs (w.line.fed.packets ++ coming)) c.way.horizon
    ∙ ap (λ (s : List DirSpec). last_out nest.horizon s (w.line.fed.packets ++ coming)) c.way.specs
    ∙ ap (last_out nest.horizon (directions_of (towards side) nest)) (sym enter)) in
    record {
      more = map (bytes_in pieces') on.more;
      is = ap (λ (l : List Timed). map (bytes_in pieces') (up_to n l)) out_is ∙ ap (map (bytes_in pieces')) on.is
          ∙ map-append (bytes_in pieces') front on.more
          ∙ ap (λ (l : List (List ℕ)). l ++ map (bytes_in pieces') on.more)
          (same ∙ sym (due_then nest turns side m pieces w c refl));
    }

pub due_later : (nest : NestParts) (turns : List Turn) (side : Side) (m n : ℕ) (w : Way)
    → IsCurrentWay nest (towards side) (rows_of turns) m w → m ≤ n
    → IsFrontOf (due nest turns side m) (due nest turns side n)
due_later nest turns side m n w c le = due_front nest turns turns side m n [] w [] c le
    (sym c.way.packets ∙ sym (append-nil w.line.fed.packets)) (record { rises = tt; later = tt; open' = inl c.going })
    (sym (append-nil (pieces_of (stamps_of turns))))

-- packets at this moment, none before an earlier one
record Comes (low : ℕ) (ts : List Timed) : Type 0 where
  from : AreFrom low ts
  rises : Rise ts

one_row : (low : ℕ) (keep : Bool) (r : Row) → low ≤ r.timed.moment
    → Comes low (map (λ (x : Row). x.timed) (cond keep (r ∷ []) []))
one_row low true r le = record { from = (le, tt); rises = (tt, tt) }
one_row low false r le = record { from = tt; rises = tt }

one_comes : (low n id : ℕ) (side : Side) (bytes : List ℕ) (some most : Bool) (e : nat_le 1 (length bytes) ≡ some)
    (f : nat_le (length bytes) 1504 ≡ most) (d : Direction) (h : ℕ) → low ≤ n
    → Comes low (entering d h (rows_from id (stamp_within n side bytes some most e f)))
one_comes low n id side bytes true true e f d h le = one_row low _ _ le
one_comes low n id side bytes true false e f d h le = record { from = tt; rises = tt }
one_comes low n id side bytes false most e f d h le = record { from = tt; rises = tt }

turn_comes : (low n id : ℕ) (answer : Option Datagram) (d : Direction) (h : ℕ) → low ≤ n
    → Comes low (entering d h (rows_from id (stamped_at n answer)))
turn_comes low n id None d h le = record { from = tt; rises = tt }
turn_comes low n id (Some g) d h le =
    one_comes low n id g.0 g.1 (nat_le 1 (length g.1)) (nat_le (length g.1) 1504) refl refl d h le

-- what was due goes on with the next turn
pub due_next : (nest : NestParts) (turns : List Turn) (t : Turn) (side : Side) (m : ℕ) (w : Way)
    → IsCurrentWay nest (towards side) (rows_of turns) m w → m ≤ t.moment
    → IsFrontOf (due nest turns side m) (due nest (turns ++ t ∷ []) side t.moment)
due_next nest turns t side m w c le =
    let d = towards side in
    let new = rows_from (length (rows_of turns) + 1) (stamped_at t.moment t.answer) in
    let bound = c.bound in
    let comes = turn_comes w.line.fed.bound t.moment (length (rows_of turns) + 1) t.answer d nest.horizon
    (omega arith) in
    due_front nest turns (turns ++ t ∷ []) side m t.moment (pieces_of (stamped_at t.moment t.answer)) w
    (entering d nest.horizon new) c le
    (ap (entering d nest.horizon) (rows-snoc turns t) ∙ entering-append d nest.horizon (rows_of turns) new
    ∙ ap (λ (l : List Timed). l ++ entering d nest.horizon new) (sym c.way.packets))
    (record { rises = comes.rises; later = comes.from; open' = inl c.going }) (pieces-snoc turns t)

pub none_there : (ts : List Timed) → number (λ p. true) ts ≡ 0 → ts ≡ []
none_there [] none = refl
none_there (t ∷ ts) none = absurd (omega arith)

-- nothing is due before anything came
pub none_due : (nest : NestParts) (side : Side) (w : Way) → IsCurrentWay nest (towards side) (rows_of []) 0 w
    → due nest [] side 0 ≡ []
none_due nest side w c =
    let fed : number (λ p. true) w.line.fed.packets ≡ 0 = ap (number (λ p. true)) c.way.packets in
    let none = none_there w.line.departed (c.settled.entered (λ p. true) fed) in
    due_then nest [] side 0 [] w c refl ∙ ap (λ (l : List Timed). map (bytes_in []) (up_to 0 l)) none
