-- What was added of the senders' flows, and what was given of them.
use Rattle.std.specs.Prelude.{ℕ, ◌+◌, ◌-◌, Bool, true, false, List, Option, slice_get, get_or, set}
use Rattle.std.specs.Prelude.{replicate}
use Rattle.packet_record.specs.declared.packet.Timed.{Timed}
use Rattle.packet_record.specs.declared.item.Item.{Item}
use Rattle.packet_record.specs.declared.item.FlowEnd.{FlowEnd}
use Rattle.packet_record.specs.declared.item.FlowEnd.TheVariants.{Open, Ended, Broken as Cut}
use Rattle.packet_record.specs.Streams.{Stream, after, no_items}

-- the flow of one sender as far as it was added, and how many of its packets were given
pub record Inflow : Type 0 where
  pub flow : Stream
  pub passed : ℕ

abbrev pub inflow : Stream → ℕ → Inflow
inflow flow passed = record { flow = flow; passed = passed }

-- the senders in the order of their numbers, counted from 1, and the flow given
pub record Merging : Type 0 where
  pub senders : List Inflow
  pub given : Stream

abbrev pub merging : List Inflow → Stream → Merging
merging senders given = record { senders = senders; given = given }

-- a sender of which nothing was added
abbrev pub fresh : Inflow
fresh = inflow no_items 0

-- a merge of which nothing was added
abbrev pub new_merging : ℕ → Merging
new_merging senders = merging (replicate senders fresh) no_items

-- the sender with the number `number`
abbrev pub sender_at : List Inflow → ℕ → Inflow
sender_at senders number = get_or senders (number - 1) fresh

-- the sender with one more item `x` added
abbrev pub with_item : Inflow → Item → Inflow
with_item s x = inflow (after s.flow x) s.passed

-- the sender with one more packet given
abbrev pub with_passed : Inflow → Inflow
with_passed s = inflow s.flow (s.passed + 1)

-- the merge with one more item `x` of sender `number` added
abbrev pub after_add : Merging → ℕ → Item → Merging
after_add m number x =
    merging (set m.senders (number - 1) (with_item (sender_at m.senders number) x)) m.given

abbrev pub is_ended : FlowEnd → Bool
is_ended Open = false
is_ended Ended = true
is_ended Cut = false

abbrev pub is_cut : FlowEnd → Bool
is_cut Open = false
is_cut Ended = false
is_cut Cut = true

-- whether the sender's flow came to its end
abbrev pub has_ended : Inflow → Bool
has_ended s = is_ended s.flow.end

-- whether the sender's flow was broken off
abbrev pub is_broken : Inflow → Bool
is_broken s = is_cut s.flow.end

-- the sender's head: its first packet that wasn't given
abbrev pub head_of : Inflow → Option Timed
head_of s = slice_get s.flow.packets s.passed
