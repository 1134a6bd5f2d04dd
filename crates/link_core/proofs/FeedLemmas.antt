-- One more packet, not before the last.
use Rattle.std.proofs.Common.{◌≡◌, ℕ, ◌≤◌, ◌++◌, List, [], ◌∷◌, length, arith, ap}
use Rattle.packet_record.specs.declared.packet.Timed.{Timed}
use Rattle.packet_record.specs.Moments.{AreUpTo, Rise}
use Rattle.packet_record.proofs.MomentsLemmas.{up_to_higher, up_to-append, rise-append}
use Rattle.trace_reader.specs.declared.opportunity.Opportunity.{Opportunity}
use Rattle.trace_reader.specs.Opps.{up_to}
use Rattle.trace_reader.proofs.OrderLemmas.{up_to_lower, length-up_to}
use Rattle.link_core.specs.Promises.{count_to}
use Rattle.link_core.specs.View.{Link, opps_of}

pub up_to_push : (last : ℕ) (ts : List Timed) (t : Timed) → AreUpTo last ts → last ≤ t.moment
    → AreUpTo t.moment (ts ++ t ∷ [])
up_to_push last ts t a le = up_to-append t.moment ts (t ∷ []) (up_to_higher last t.moment ts le a) (omega arith, tt)

pub count_more : (os : List Opportunity) (m n : ℕ) → m ≤ n → count_to os m ≤ count_to os n
count_more os m n le =
    let same = ap length (up_to_lower m n os le) in
    let fewer = length-up_to m (up_to n os) in
    omega arith

pub up_to_later : (m n : ℕ) (ts : List Timed) → AreUpTo m ts → m ≤ n → AreUpTo n ts
up_to_later m n ts a le = up_to_higher m n ts le a

abbrev IsFed : Link → Link → Timed → Type 0
IsFed old new t = new ≡ record old { burnt = count_to (opps_of old) t.moment; arrivals = old.arrivals ++ t ∷ [] }

pub rise_push : (last : ℕ) (ts : List Timed) (t : Timed) → Rise ts → AreUpTo last ts → last ≤ t.moment
    → Rise (ts ++ t ∷ [])
rise_push last ts t r a le = rise-append t.moment ts (t ∷ []) r (up_to_higher last t.moment ts le a) (omega arith, tt)
    (tt, tt)
