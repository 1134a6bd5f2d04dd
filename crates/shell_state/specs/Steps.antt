-- What feeding, taking and breaking do.
use Rattle.std.specs.Prelude.{ℕ, ◌+◌, ◌-◌, ◌==◌, ◌&&◌, Bool, true, false, List, [], ◌∷◌, length, min, max, nat_le}
use Rattle.std.specs.Prelude.{nat_lt, if◌then◌else◌}
use Rattle.packet_record.specs.declared.packet.Timed.{Timed}
use Rattle.packet_record.specs.declared.item.Item.{Item}
use Rattle.packet_record.specs.declared.item.Item.TheVariants.{Packet, Mark, End, Broken}
use Rattle.packet_record.specs.declared.item.FlowEnd.{FlowEnd}
use Rattle.packet_record.specs.declared.item.FlowEnd.TheVariants.{Open, Ended, Broken as Cut}
use Rattle.packet_record.specs.Streams.{Stream, after}
use Rattle.link_core.specs.Promises.{count_to}
use Rattle.shell_state.specs.declared.taken.Taken.{Taken}
use Rattle.shell_state.specs.declared.taken.Taken.TheVariants.{Item as Gives, Again, NotYet}
use Rattle.shell_state.specs.States.{State, opps_of, ready, floor_of}

abbrev pub is_ended : FlowEnd → Bool
is_ended Open = false
is_ended Ended = true
is_ended Cut = false

abbrev pub breaks : Item → Bool
breaks (Packet t) = false
breaks (Mark m) = false
breaks End = false
breaks Broken = true

-- a packet burns every opportunity up to its moment
abbrev pub burnt_by : State → Item → ℕ
burnt_by s (Packet t) = max s.burnt (count_to (opps_of s) t.moment)
burnt_by s (Mark m) = s.burnt
burnt_by s End = s.burnt
burnt_by s Broken = s.burnt

abbrev pub fed_more : State → Item → State
fed_more s item = record {
  spec = s.spec;
  horizon = s.horizon;
  fed = after s.fed item;
  taken = s.taken;
  burnt = burnt_by s item;
  broken = breaks item;
}

-- a broken state stays as it is
unfoldable pub after_feed : State → Item → State
after_feed s item = if s.broken then s else fed_more s item

unfoldable pub after_break : State → State
after_break s = record {
  spec = s.spec;
  horizon = s.horizon;
  fed = s.fed;
  taken = s.taken;
  burnt = s.burnt;
  broken = true;
}

-- how many opportunities may be burnt: those up to the fed bound, or all where nothing more is fed
abbrev pub licensed : State → ℕ
licensed s = if is_ended s.fed.end then length (opps_of s) else count_to (opps_of s) s.fed.bound

abbrev pub burns_where : List Timed → State → ℕ → ℕ
burns_where [] s most = min most (licensed s - s.burnt)
burns_where (t ∷ ts) s most = 0

-- how many a take burns
abbrev pub burns : State → ℕ → ℕ
burns s most = if s.broken then 0 else burns_where (ready s) s most

abbrev pub with_burnt : State → ℕ → State
with_burnt s n = record {
  spec = s.spec;
  horizon = s.horizon;
  fed = s.fed;
  taken = s.taken;
  burnt = s.burnt + n;
  broken = s.broken;
}

-- the answer of a state of which a take has just burnt n opportunities
abbrev pub answer_where : List Timed → State → ℕ → ℕ → Taken
answer_where (t ∷ ts) s n most = Gives (Packet t)
answer_where [] s n most =
    if is_ended s.fed.end && nat_le (length (opps_of s)) s.burnt then Gives End
    else if nat_lt s.taken.bound (floor_of s) then Gives (Mark (floor_of s))
    else if n == most then Again n
    else NotYet s.fed.bound

abbrev pub answer_after : State → ℕ → ℕ → Taken
answer_after s n most = answer_where (ready s) s n most

unfoldable pub answer_of : State → ℕ → Taken
answer_of s most = if s.broken then Gives Broken else answer_after (with_burnt s (burns s most)) (burns s most) most

abbrev pub stream_after : Stream → Taken → Stream
stream_after f (Gives item) = after f item
stream_after f (Again n) = f
stream_after f (NotYet bound) = f

abbrev pub with_answer : State → Taken → State
with_answer s answer = record {
  spec = s.spec;
  horizon = s.horizon;
  fed = s.fed;
  taken = stream_after s.taken answer;
  burnt = s.burnt;
  broken = s.broken;
}

unfoldable pub after_take : State → ℕ → State
after_take s most = with_answer (with_burnt s (burns s most)) (answer_of s most)
