-- What every merge keeps.
use Rattle.std.specs.Prelude.{◌≡◌, ◌≢◌, ◌≤◌, ℕ, true, List, [], ◌∷◌, ◌++◌, length, drop}
use Rattle.std.specs.List.{list_all}
use Rattle.packet_record.specs.declared.packet.Timed.{Timed}
use Rattle.packet_record.specs.declared.item.FlowEnd.TheVariants.{Open, Ended}
use Rattle.packet_record.specs.Moments.{AreFrom, AreUpTo, Rise}
use Rattle.sender_merge.specs.Inflows.{Inflow, Merging, has_ended}
use Rattle.sender_merge.specs.Merges.{by_moment, packet_moment, merge}
use Rattle.sender_merge.specs.Laws.{packets_of}

-- `packets` may come after what was added of the sender: they rise, none is before its bound, and there is none after
-- its end
pub record MayCome (s : Inflow) (packets : List Timed) : Type 0 where
  pub rises : Rise packets
  pub later : AreFrom s.flow.bound packets
  pub open' : s.flow.end ≢ Open → packets ≡ []

-- each list of packets may come after what was added of its sender
abbrev pub AllMayCome : List Inflow → List (List Timed) → Type 0
AllMayCome [] [] = Unit {0}
AllMayCome [] (c ∷ cs) = ⊥
AllMayCome (s ∷ senders) [] = ⊥
AllMayCome (s ∷ senders) (c ∷ cs) = MayCome s c × AllMayCome senders cs

-- the sender's packets that were added and not given
abbrev pub waits : Inflow → List Timed
waits s = drop s.passed s.flow.packets

-- what waits of each sender and then what comes of it, one sender after the other
abbrev pub all_left : List Inflow → List (List Timed) → List Timed
all_left [] cs = []
all_left (s ∷ senders) [] = []
all_left (s ∷ senders) (c ∷ cs) = (waits s ++ c) ++ all_left senders cs

-- all that was added of each sender and then what comes of it, one sender after the other
abbrev pub all_sent : List Inflow → List (List Timed) → List Timed
all_sent [] cs = []
all_sent (s ∷ senders) [] = []
all_sent (s ∷ senders) (c ∷ cs) = (s.flow.packets ++ c) ++ all_sent senders cs

-- The packets of the sender's flow rise and are up to its bound, and no more were given than there are.
pub record IsSound (s : Inflow) : Type 0 where
  pub rises : Rise s.flow.packets
  pub bounded : AreUpTo s.flow.bound s.flow.packets
  pub few : s.passed ≤ length s.flow.packets

abbrev pub AllSound : List Inflow → Type 0
AllSound [] = Unit {0}
AllSound (s ∷ senders) = IsSound s × AllSound senders

-- No packet of the sender that waits or comes is before moment `m`.
pub record IsFrom (m : ℕ) (s : Inflow) : Type 0 where
  pub waits : AreFrom m (waits s)
  pub bound : has_ended s ≢ true → m ≤ s.flow.bound

abbrev pub AllFrom : ℕ → List Inflow → Type 0
AllFrom m [] = Unit {0}
AllFrom m (s ∷ senders) = IsFrom m s × AllFrom m senders

-- The flow of each sender is sound, and nothing that waits or comes is before the bound of the flow given. The packets
-- given, and then in order what waits and comes, are the merge of all. If the end was given, all senders have ended,
-- and the packets given are the merge.
pub record Stands (m : Merging) : Type 0 where
  pub sound : AllSound m.senders
  pub low : AllFrom m.given.bound m.senders
  pub front : (cs : List (List Timed)) → AllMayCome m.senders cs
      → m.given.packets ++ by_moment packet_moment (all_left m.senders cs)
      ≡ by_moment packet_moment (all_sent m.senders cs)
  pub ended : m.given.end ≡ Ended → list_all has_ended m.senders ≡ true
  pub whole : m.given.end ≡ Ended → m.given.packets ≡ merge (packets_of m.senders)
