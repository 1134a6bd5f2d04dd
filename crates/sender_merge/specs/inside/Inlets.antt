-- The receiving ends of a direction, one for each sender.
use Rattle.std.specs.Prelude.{◌≡◌, ◌≢◌, ◌⊎◌, ◌<◌, ◌≤◌, ◌+◌, ℕ, zero, suc, List, [], ◌∷◌, map, Option, Some, IfSome}
use Rattle.packet_record.specs.declared.packet.Timed.{Timed}
use Rattle.packet_record.specs.declared.item.FlowEnd.TheVariants.{Open, Ended as IsOver}
use Rattle.packet_record.specs.Moments.{AreUpTo}
use Rattle.packet_record.specs.Streams.{Stream, no_items}
use Rattle.mark_channel.specs.Ends.{IsSameEnd}
use Rattle.sender_merge.specs.declared.inlet.Inlet.{Inlet}
use Rattle.sender_merge.specs.Inflows.{Inflow}
use Rattle.sender_merge.specs.Merges.{merge}

-- nothing was received at any inlet, and all have `horizon`
abbrev pub AllEmpty : ℕ → List Inlet → Type 0
AllEmpty horizon [] = Unit {0}
AllEmpty horizon (i ∷ inlets) =
    ((i.from.flow ≡ no_items) × (i.from.horizon ≡ horizon)) × AllEmpty horizon inlets

-- all inlets have `horizon`, and what was received is up to it
abbrev pub AllWithin : ℕ → List Inlet → Type 0
AllWithin horizon [] = Unit {0}
AllWithin horizon (i ∷ inlets) =
    ((i.from.horizon ≡ horizon) × AreUpTo horizon i.from.flow.packets × (i.from.flow.bound ≤ horizon + 1))
    × AllWithin horizon inlets

-- nothing more comes out of any inlet
abbrev pub AllClosed : List Inlet → Type 0
AllClosed [] = Unit {0}
AllClosed (i ∷ inlets) = (i.from.flow.end ≢ Open) × AllClosed inlets

-- what came out of each inlet came to its end
abbrev pub AllEnded : List Inlet → Type 0
AllEnded [] = Unit {0}
AllEnded (i ∷ inlets) = (i.from.flow.end ≡ IsOver) × AllEnded inlets

-- more may come out of the inlet at `place`, counted from 0
abbrev pub IsOpenAt : ℕ → List Inlet → Type 0
IsOpenAt place [] = ⊥
IsOpenAt zero (i ∷ inlets) = i.from.flow.end ≡ Open
IsOpenAt (suc place) (i ∷ inlets) = IsOpenAt place inlets

-- the bound of what was received at `place`
abbrev pub bound_at : ℕ → List Inlet → ℕ
bound_at place [] = 0
bound_at zero (i ∷ inlets) = i.from.flow.bound
bound_at (suc place) (i ∷ inlets) = bound_at place inlets

-- Of the open inlets, the one at `place` is the least by bound, then place.
pub record IsFurthestBehind (place : ℕ) (inlets : List Inlet) : Type 0 where
  pub going : IsOpenAt place inlets
  pub least : (k : ℕ) → IsOpenAt k inlets → bound_at place inlets ≤ bound_at k inlets
  pub first : (k : ℕ) → k < place → IsOpenAt k inlets → bound_at place inlets < bound_at k inlets

-- `p` is the furthest behind of `least`, the place and bound of the furthest one so far, and `i` at the next place, if
-- it is open.
abbrev pub IsFurther : Option (ℕ × ℕ) → ℕ → Inlet → ℕ × ℕ → Type 0
IsFurther least place i p =
    ((least ≡ Some p) × (i.from.flow.end ≡ Open → p.1 ≤ i.from.flow.bound))
    ⊎ ((p.0 ≡ place) × (p.1 ≡ i.from.flow.bound) × (i.from.flow.end ≡ Open)
    × IfSome least (λ q. i.from.flow.bound < q.1))

-- each inlet keeps its horizon and its channel
abbrev pub AllSame : List Inlet → List Inlet → Type 0
AllSame [] [] = Unit {0}
AllSame [] (j ∷ new) = ⊥
AllSame (i ∷ old) [] = ⊥
AllSame (i ∷ old) (j ∷ new) = IsSameEnd i.from j.from × AllSame old new

-- what was received of each sender is what was added to the merge
abbrev pub AreAdded : List Inlet → List Inflow → Type 0
AreAdded [] [] = Unit {0}
AreAdded [] (s ∷ senders) = ⊥
AreAdded (i ∷ inlets) [] = ⊥
AreAdded (i ∷ inlets) (s ∷ senders) = (s.flow ≡ i.from.flow) × AreAdded inlets senders

-- the packets that were received of each sender
abbrev pub received : List Inlet → List (List Timed)
received inlets = map (λ (i : Inlet). i.from.flow.packets) inlets

-- all flows were received to their ends, and what was sent is their merge, to its end
abbrev pub IsMerged : List Inlet → Stream → Type 0
IsMerged inlets sent = (sent.packets ≡ merge (received inlets)) × (sent.end ≡ IsOver) × AllEnded inlets
