-- What holds of every merge: what was given is a prefix of the merge, whatever the senders may still send.
use Rattle.std.specs.Prelude.{◌≡◌, ◌≤◌, ◌+◌, ℕ, true, List, [], ◌∷◌, length, map, Some}
use Rattle.std.specs.List.{list_all}
use mathlib.Core.List.{IsPrefix}
use Rattle.packet_record.specs.declared.packet.Timed.{Timed}
use Rattle.packet_record.specs.declared.item.Item.{Item}
use Rattle.packet_record.specs.declared.item.FlowEnd.TheVariants.{Open, Ended}
use Rattle.packet_record.specs.Moments.{AreUpTo}
use Rattle.packet_record.specs.Streams.{Stream, after_all, AllFollow, IsUpTo, MayFollow}
use Rattle.sender_merge.specs.declared.step.MergeStep.{MergeStep}
use Rattle.sender_merge.specs.declared.step.MergeStep.TheVariants.{Item as Gives, Need}
use Rattle.sender_merge.specs.Inflows.{Inflow, Merging, has_ended, sender_at}
use Rattle.sender_merge.specs.Merges.{merge}
use Rattle.sender_merge.specs.Steps.{candidate, needed}

-- the packets added of each sender
abbrev pub packets_of : List Inflow → List (List Timed)
packets_of senders = map (λ (s : Inflow). s.flow.packets) senders

-- `coming` has for each sender items that may follow what was added of it, up to `horizon`
abbrev pub MayFollowAll : ℕ → List Inflow → List (List Item) → Type 0
MayFollowAll horizon [] [] = Unit {0}
MayFollowAll horizon [] (items ∷ coming) = ⊥
MayFollowAll horizon (s ∷ senders) [] = ⊥
MayFollowAll horizon (s ∷ senders) (items ∷ coming) =
    AllFollow horizon s.flow items × MayFollowAll horizon senders coming

-- the packets of each sender, with those of the items that come
abbrev pub packets_with : List Inflow → List (List Item) → List (List Timed)
packets_with [] coming = []
packets_with (s ∷ senders) [] = []
packets_with (s ∷ senders) (items ∷ coming) = (after_all s.flow items).packets ∷ packets_with senders coming

-- Whatever the senders still send, the packets given are a prefix of the merge of all that they then have sent. If the
-- end was given, all senders have ended, and the packets given are the merge.
pub record IsMergeFront (m : Merging) : Type 0 where
  pub front : (horizon : ℕ) (coming : List (List Item)) → MayFollowAll horizon m.senders coming
      → IsPrefix m.given.packets (merge (packets_with m.senders coming))
  pub ended : m.given.end ≡ Ended → list_all has_ended m.senders ≡ true
  pub whole : m.given.end ≡ Ended → m.given.packets ≡ merge (packets_of m.senders)

-- every packet added is at `horizon` or before, and every bound at most 1 above it
abbrev pub AllUpTo : ℕ → List Inflow → Type 0
AllUpTo horizon [] = Unit {0}
AllUpTo horizon (s ∷ senders) =
    (AreUpTo horizon s.flow.packets × (s.flow.bound ≤ horizon + 1)) × AllUpTo horizon senders

-- an item that the step gives is up to `horizon`
abbrev pub IsStepUpTo : ℕ → MergeStep → Type 0
IsStepUpTo horizon (Gives x) = IsUpTo horizon x
IsStepUpTo horizon (Need sender) = Unit {0}

-- an item that the step gives may come next in the flow `f`
abbrev pub MayFollowStep : Stream → MergeStep → Type 0
MayFollowStep f (Gives x) = MayFollow f x
MayFollowStep f (Need sender) = Unit {0}

-- `p` holds of the sender that the step needs, if it needs one
abbrev pub IfNeeds : MergeStep → (ℕ → Type 0) → Type 0
IfNeeds (Gives x) p = Unit {0}
IfNeeds (Need sender) p = p sender

-- `sender` is the least sender that hasn't ended, has no head and, if there is a candidate, doesn't clear it. It may
-- still send.
pub record IsNeeded (senders : List Inflow) (sender : ℕ) : Type 0 where
  pub is : needed (candidate senders) senders ≡ Some sender
  pub some : 1 ≤ sender
  pub few : sender ≤ length senders
  pub going : (sender_at senders sender).flow.end ≡ Open
