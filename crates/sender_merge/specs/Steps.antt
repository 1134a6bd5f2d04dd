-- What a merge does next: the first of five cases that holds decides.
use Rattle.std.specs.Prelude.{ℕ, ◌+◌, ◌-◌, Bool, true, ◌&&◌, ◌||◌, not, List, [], ◌∷◌, Option, Some, None, set}
use Rattle.std.specs.Prelude.{option_map, is_some, is_none, nat_lt, ◌==◌, if◌then◌else◌, unwrap_or}
use Rattle.std.specs.List.{list_any, list_all}
use Rattle.packet_record.specs.declared.packet.Timed.{Timed}
use Rattle.packet_record.specs.declared.item.Item.{Item}
use Rattle.packet_record.specs.declared.item.Item.TheVariants.{Packet, Mark, End, Broken}
use Rattle.packet_record.specs.Streams.{after}
use Rattle.sender_merge.specs.declared.step.Head.{Head}
use Rattle.sender_merge.specs.declared.step.MergeStep.{MergeStep}
use Rattle.sender_merge.specs.declared.step.MergeStep.TheVariants.{Item as Gives, Need}
use Rattle.sender_merge.specs.Inflows.{Inflow, Merging, merging, sender_at, with_passed, has_ended, is_broken, head_of}

abbrev pub head : ℕ → Timed → Head
head sender packet = record { sender = sender; packet = packet }

-- the earlier one of two heads, or the first if both have the same moment
abbrev pub earlier : Option Head → Option Head → Option Head
earlier None b = b
earlier (Some a) None = Some a
earlier (Some a) (Some b) = if nat_lt b.packet.moment a.packet.moment then Some b else Some a

-- the head that is least by moment, then sender; `number` is that of the first sender
abbrev pub candidate_from : ℕ → List Inflow → Option Head
candidate_from number [] = None
candidate_from number (s ∷ senders) =
    earlier (option_map (head number) (head_of s)) (candidate_from (number + 1) senders)

-- the candidate: the least head of all senders
abbrev pub candidate : List Inflow → Option Head
candidate senders = candidate_from 1 senders

-- Whether sender `number` clears the candidate: it has a head, or has ended, or its bound is above the candidate's
-- moment; or its bound is at that moment, and `number` is above that of the candidate's sender.
abbrev pub clears : Head → ℕ → Inflow → Bool
clears c number s = is_some (head_of s) || has_ended s || nat_lt c.packet.moment s.flow.bound
    || (s.flow.bound == c.packet.moment && nat_lt c.sender number)

-- whether all senders clear the candidate; `number` is that of the first sender
abbrev pub all_clear : Head → ℕ → List Inflow → Bool
all_clear c number [] = true
all_clear c number (s ∷ senders) = clears c number s && all_clear c (number + 1) senders

-- the lesser of two moments, or the one that there is
abbrev pub lesser : Option ℕ → Option ℕ → Option ℕ
lesser None b = b
lesser (Some a) None = Some a
lesser (Some a) (Some b) = if nat_lt b a then Some b else Some a

-- the packet's moment, or `bound` if there is no packet
abbrev pub moment_or : ℕ → Option Timed → ℕ
moment_or bound None = bound
moment_or bound (Some t) = t.moment

-- the moment of a sender's head, or its bound if it has no head; none if it has ended
abbrev pub bound_of : Inflow → Option ℕ
bound_of s = if has_ended s then None else Some (moment_or s.flow.bound (head_of s))

-- the merged bound: the least `bound_of` of any sender
abbrev pub merged_bound : List Inflow → Option ℕ
merged_bound [] = None
merged_bound (s ∷ senders) = lesser (bound_of s) (merged_bound senders)

-- whether sender `number` is needed: it hasn't ended, has no head and, if there is a candidate, doesn't clear it
abbrev pub is_needed : Option Head → ℕ → Inflow → Bool
is_needed None number s = not (has_ended s) && is_none (head_of s)
is_needed (Some c) number s = not (has_ended s) && is_none (head_of s) && not (clears c number s)

-- the number of the least sender that is needed; `number` is that of the first sender
abbrev pub needed_from : Option Head → ℕ → List Inflow → Option ℕ
needed_from c number [] = None
needed_from c number (s ∷ senders) =
    if is_needed c number s then Some number else needed_from c (number + 1) senders

-- the number of the least sender that is needed
abbrev pub needed : Option Head → List Inflow → Option ℕ
needed c senders = needed_from c 1 senders

-- a mark at the merged bound if that is above `given`, the bound of the flow given; otherwise the sender that is needed
abbrev pub mark_or_need : Option Head → Option ℕ → List Inflow → ℕ → MergeStep
mark_or_need c None senders given = Need (unwrap_or (needed c senders) 0)
mark_or_need c (Some bound) senders given =
    if nat_lt given bound then Gives (Mark bound) else Need (unwrap_or (needed c senders) 0)

-- the candidate if all senders clear it, or the end if there is none and all senders have ended; otherwise a mark or a
-- need
abbrev pub step_at : Option Head → List Inflow → ℕ → MergeStep
step_at (Some c) senders given =
    if all_clear c 1 senders then Gives (Packet c.packet)
    else mark_or_need (Some c) (merged_bound senders) senders given
step_at None senders given =
    if list_all has_ended senders then Gives End else mark_or_need None (merged_bound senders) senders given

-- the next step of the senders; `given` is the bound of the flow given
abbrev pub step_of : List Inflow → ℕ → MergeStep
step_of senders given =
    if list_any is_broken senders then Gives Broken else step_at (candidate senders) senders given

-- the next step of a merge
abbrev pub next_step : Merging → MergeStep
next_step m = step_of m.senders m.given.bound

-- the senders once the candidate was given
abbrev pub passing : Option Head → List Inflow → List Inflow
passing None senders = senders
passing (Some c) senders = set senders (c.sender - 1) (with_passed (sender_at senders c.sender))

-- the senders once an item was given
abbrev pub senders_after : List Inflow → Item → List Inflow
senders_after senders (Packet t) = passing (candidate senders) senders
senders_after senders (Mark bound) = senders
senders_after senders End = senders
senders_after senders Broken = senders

-- the merge after a step
abbrev pub after_step : Merging → MergeStep → Merging
after_step m (Gives x) = merging (senders_after m.senders x) (after m.given x)
after_step m (Need sender) = m
