-- What a turn feeds to both ways, and what is due then.
use Rattle.std.proofs.Common.{◌≡◌, ℕ, ◌≤◌, ◌+◌, List, [], ◌∷◌, ◌++◌, Option, true, option_to_list, length, ap, sym}
use Rattle.std.proofs.Common.{subst, ◌∙◌, refl, arith}
use Rattle.std.proofs.lemmas.List.{append-nil}
use Rattle.packet_record.specs.declared.packet.Direction.{Direction}
use Rattle.packet_record.specs.declared.packet.Direction.TheVariants.{Up, Down}
use Rattle.packet_record.specs.declared.packet.Row.{Row}
use Rattle.packet_record.specs.declared.packet.Timed.{Timed}
use Rattle.packet_record.specs.Rows.{entering}
use Rattle.packet_record.proofs.RowsLemmas.{entering-append}
use Rattle.packet_record.specs.Streams.{Stream, no_items}
use Rattle.packet_record.specs.Packets.{number}
use Rattle.nest_spec.specs.Nests.{NestParts, directions_of}
use Rattle.live_relay.specs.Lines.{IsSettled, LineParts, out_of, up_to}
use Rattle.live_relay.specs.declared.relay_state.Relay.{Relay}
use Rattle.live_relay.specs.declared.side.Side.TheVariants.{Client, Server}
use Rattle.live_relay.specs.declared.way.Way.{Way}
use Rattle.live_relay.specs.Due.{due, last_moment, pieces_of}
use Rattle.live_relay.specs.Stamped.{Turn, refused_at, rows_from, rows_of, stamped_at, stamps_of}
use Rattle.live_relay.specs.inside.Pieces.{KeepsBoth}
use Rattle.live_relay.specs.inside.Stamped.{turn}
use Rattle.live_relay.specs.inside.Turns.{HasEnded, HasFed, IsCurrent, KnowsSent, waits_down, waits_up}
use Rattle.live_relay.specs.inside.Ways.{GoesOn, IsCurrentWay, IsFedWay}
use Rattle.live_relay.specs.Wires.{Datagram}
use Rattle.live_relay.proofs.Dues.{due_grows, knows, none_there}
use Rattle.live_relay.proofs.Stamping.{pieces-snoc, pieces_long, refused-snoc, rows-snoc}

-- a way that was fed what a turn received
fed_way : (nest : NestParts) (turns : List Turn) (m : ℕ) (answer : Option Datagram) (row : Option Row) (d : Direction)
    (old new : Way) → IsCurrentWay nest d (rows_of turns) (last_moment turns) old
    → option_to_list row ≡ rows_from (length (rows_of turns) + 1) (stamped_at m answer) → GoesOn d m row old new
    → IsFedWay nest d (rows_of (turns ++ turn m answer ∷ [])) m old new
fed_way nest turns m answer row d old new c row_is g =
    let more = rows_from (length (rows_of turns) + 1) (stamped_at m answer) in
    record {
      way = record {
        specs = g.keeps.specs ∙ c.way.specs;
        horizon = g.keeps.horizon ∙ c.way.horizon;
        packets = g.packets
            ∙ ap (λ h. old.line.fed.packets ++ entering d h (option_to_list row)) c.way.horizon
            ∙ ap (λ (l : List Timed). l ++ entering d nest.horizon (option_to_list row)) c.way.packets
            ∙ ap (λ (l : List Row). entering d nest.horizon (rows_of turns) ++ entering d nest.horizon l) row_is
            ∙ sym (entering-append d nest.horizon (rows_of turns) more)
            ∙ ap (entering d nest.horizon) (sym (rows-snoc turns (turn m answer)));
      };
      bound = g.bound;
      going = g.going;
      keeps = g.keeps;
    }

pub has_fed : (nest : NestParts) (turns : List Turn) (m : ℕ) (answer : Option Datagram) (row : Option Row)
    (old new : Relay) → IsCurrent nest turns old
    → new.stamps.rows.items ≡ old.stamps.rows.items
    ++ rows_from (length old.stamps.rows.items + 1) (stamped_at m answer)
    → ((all : List (List ℕ)) → length all ≡ length old.stamps.rows.items → KeepsBoth all old.stamps
    → KeepsBoth (all ++ pieces_of (stamped_at m answer)) new.stamps)
    → new.stamps.refused ≡ old.stamps.refused + refused_at answer
    → option_to_list row ≡ rows_from (length old.stamps.rows.items + 1) (stamped_at m answer)
    → GoesOn Up m row old.up new.up → GoesOn Down m row old.down new.down
    → HasFed nest (turns ++ turn m answer ∷ []) m old new
has_fed nest turns m answer row old new c rows kept refused row_is up down =
    let t = turn m answer in
    let at : (l : List Row) → List Row = λ l. rows_from (length l + 1) (stamped_at m answer) in
    let row_is' : option_to_list row ≡ at (rows_of turns) = row_is ∙ ap at c.stamps.rows in
    record {
      stamps = record {
        rows = rows ∙ ap (λ (l : List Row). l ++ at l) c.stamps.rows ∙ sym (rows-snoc turns t);
        kept = subst (λ (l : List (List ℕ)). KeepsBoth l new.stamps) (sym (pieces-snoc turns t))
            (kept (pieces_of (stamps_of turns)) (pieces_long turns ∙ sym (ap length c.stamps.rows)) c.stamps.kept);
        refused = refused ∙ ap (λ n. n + refused_at answer) c.stamps.refused ∙ sym (refused-snoc turns t);
      };
      up = fed_way nest turns m answer row Up old.up new.up c.up row_is' up;
      down = fed_way nest turns m answer row Down old.down new.down c.down row_is' down;
    }

-- the bytes of the packets of these turns
abbrev pub all_of : List Turn → List (List ℕ)
all_of turns = pieces_of (stamps_of turns)

-- What is due later is what was due, and then what waits.
pub record Grown (nest : NestParts) (turns turns' : List Turn) (m : ℕ) (r : Relay) : Type 0 where
  pub client : due nest turns' Client m ≡ due nest turns Client (last_moment turns) ++ waits_down (all_of turns') m r
  pub server : due nest turns' Server m ≡ due nest turns Server (last_moment turns) ++ waits_up (all_of turns') m r

settled_fed : (nest : NestParts) (turns' : List Turn) (d : Direction) (m : ℕ) (old new : Way)
    → IsFedWay nest d (rows_of turns') m old new → m ≤ nest.horizon → IsSettled new.line
    → up_to m new.line.departed ≡ up_to m (out_of new.line)
settled_fed nest turns' d m old new f le s =
    let bound = f.bound in let horizon = f.way.horizon in s.settled m (omega arith) (omega arith)

pub grown_fed : (nest : NestParts) (turns : List Turn) (m : ℕ) (answer : Option Datagram) (old new : Relay)
    → IsCurrent nest turns old → HasFed nest (turns ++ turn m answer ∷ []) m old new → last_moment turns ≤ m
    → m ≤ nest.horizon → IsSettled new.up.line → IsSettled new.down.line
    → Grown nest turns (turns ++ turn m answer ∷ []) m new
grown_fed nest turns m answer old new c f le within up down =
    let turns' = turns ++ turn m answer ∷ [] in
    let longer = pieces-snoc turns (turn m answer) in
    record {
      client = due_grows nest turns turns' Client (last_moment turns) m (all_of turns) (all_of turns')
          (pieces_of (stamped_at m answer)) old.down new.down c.down refl le f.down.way refl longer f.down.keeps
          (settled_fed nest turns' Down m old.down new.down f.down within down);
      server = due_grows nest turns turns' Server (last_moment turns) m (all_of turns) (all_of turns')
          (pieces_of (stamped_at m answer)) old.up new.up c.up refl le f.up.way refl longer f.up.keeps
          (settled_fed nest turns' Up m old.up new.up f.up within up);
    }

pub grown_ended : (nest : NestParts) (turns : List Turn) (m : ℕ) (old new : Relay) → IsCurrent nest turns old
    → HasEnded nest turns old new → last_moment turns ≤ m → IsSettled new.up.line → IsSettled new.down.line
    → Grown nest turns turns m new
grown_ended nest turns m old new c f le up down =
    let longer = sym (append-nil (all_of turns)) in
    record {
      client = due_grows nest turns turns Client (last_moment turns) m (all_of turns) (all_of turns) []
          old.down new.down c.down refl le f.down.way refl longer f.down.keeps
          (ap (up_to m) (down.ended f.down.ended));
      server = due_grows nest turns turns Server (last_moment turns) m (all_of turns) (all_of turns) []
          old.up new.up c.up refl le f.up.way refl longer f.up.keeps
          (ap (up_to m) (up.ended f.up.ended));
    }

pub knows_fed : (nest : NestParts) (turns turns' : List Turn) (m : ℕ) (old new : Relay) → IsCurrent nest turns old
    → HasFed nest turns' m old new → last_moment turns ≤ m → KnowsSent m new
knows_fed nest turns turns' m old new c f le = record {
  up = knows nest Up (rows_of turns) (last_moment turns) m old.up new.up c.up le f.up.keeps;
  down = knows nest Down (rows_of turns) (last_moment turns) m old.down new.down c.down le f.down.keeps;
}

pub knows_ended : (nest : NestParts) (turns : List Turn) (m : ℕ) (old new : Relay) → IsCurrent nest turns old
    → HasEnded nest turns old new → last_moment turns ≤ m → KnowsSent m new
knows_ended nest turns m old new c f le = record {
  up = knows nest Up (rows_of turns) (last_moment turns) m old.up new.up c.up le f.up.keeps;
  down = knows nest Down (rows_of turns) (last_moment turns) m old.down new.down c.down le f.down.keeps;
}

-- a way whose due packets were sent
pub current_way : (nest : NestParts) (turns' : List Turn) (d : Direction) (m : ℕ) (old passed after : Way)
    → IsFedWay nest d (rows_of turns') m old passed → last_moment turns' ≡ m → m ≤ nest.horizon
    → IsSettled passed.line → after.line ≡ passed.line → after.sent ≡ length (up_to m passed.line.departed)
    → IsCurrentWay nest d (rows_of turns') (last_moment turns') after
current_way nest turns' d m old passed after f last within settled same sent =
    let horizon = f.way.horizon in
    let bound = f.bound in
    record {
      way = record {
        specs = ap (λ (l : LineParts). l.specs) same ∙ f.way.specs;
        horizon = ap (λ (l : LineParts). l.horizon) same ∙ f.way.horizon;
        packets = ap (λ (l : LineParts). l.fed.packets) same ∙ f.way.packets;
      };
      bound = ap (λ (l : LineParts). l.fed.bound) same ∙ f.bound ∙ sym last;
      within = let is = ap (λ (l : LineParts). l.horizon) same in omega arith;
      going = ap (λ (l : LineParts). l.fed.end) same ∙ f.going;
      sent = sent ∙ ap (λ (l : LineParts). length (up_to m l.departed)) (sym same)
          ∙ ap (λ n. length (up_to n after.line.departed)) (sym last);
      settled = subst IsSettled (sym same) settled;
    }

-- a way that was fed nothing yet
pub first_way : (nest : NestParts) (d : Direction) (w : Way) → w.line.specs ≡ directions_of d nest
    → w.line.horizon ≡ nest.horizon → w.line.fed ≡ no_items → w.sent ≡ 0 → IsSettled w.line
    → IsCurrentWay nest d (rows_of []) 0 w
first_way nest d w specs horizon fed sent settled =
    let none : number (λ p. true) w.line.fed.packets ≡ 0 = ap (λ (f : Stream). number (λ p. true) f.packets) fed in
    let left = none_there w.line.departed (settled.entered (λ p. true) none) in
    record {
      way = record { specs = specs; horizon = horizon; packets = ap (λ (f : Stream). f.packets) fed };
      bound = ap (λ (f : Stream). f.bound) fed;
      within = omega arith;
      going = ap (λ (f : Stream). f.end) fed;
      sent = sent ∙ sym (ap (λ (l : List Timed). length (up_to 0 l)) left);
      settled = settled;
    }
