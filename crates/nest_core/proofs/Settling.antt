-- A world in which no step but the source's would change anything is one in which nobody else has anything to do, and
-- the other way round.
use Rattle.std.proofs.Common.{◌≡◌, ◌↔◌, IsTrue, ℕ, zero, suc, ◌+◌, ◌*◌, ◌/◌, ◌%◌, ◌≤◌, ◌<◌, Bool, true, cond, List, []}
use Rattle.std.proofs.Common.{◌∷◌, ◌++◌, Option, Some, None, option_to_list, length, map, ap, sym, subst, ◌∙◌, refl}
use Rattle.std.proofs.Common.{arith, rules, tests}
use Rattle.packet_record.specs.Streams.{Stream}
use Rattle.packet_record.specs.declared.item.Item.{Item}
use Rattle.packet_record.specs.declared.item.FlowEnd.{FlowEnd}
use Rattle.packet_record.specs.declared.item.FlowEnd.TheVariants.{Open, Ended, Broken as Cut}
use Rattle.shell_log.specs.declared.entry.Entry.{Entry}
use Rattle.shell_state.specs.Shells.{shell_log, whole_out, whole_log}
use Rattle.shell_state.specs.declared.taken.Taken.{Taken}
use Rattle.shell_state.specs.declared.taken.Taken.TheVariants.{Item as Gives, Again, NotYet}
use Rattle.shell_state.specs.States.{State}
use Rattle.shell_state.specs.Steps.{after_take, answer_of}
use Rattle.shell_state.specs.Standing.{Stands}
use Rattle.shell_state.specs.Causes.{Waits}
use Rattle.shell_state.proofs.Causing.{has_causes}
use Rattle.shell_state.proofs.Foretelling.{finished}
use Rattle.nest_spec.specs.Passed.{HavePassed}
use Rattle.nest_core.specs.declared.station.Station.{Station}
use Rattle.nest_core.specs.declared.actor.Actor.{Actor}
use Rattle.nest_core.specs.declared.actor.Actor.TheVariants.{Source, Receiver, Feeder, Taker, Sender}
use Rattle.nest_spec.specs.Chains.{chain_logs}
use Rattle.nest_core.specs.Channels.{ChannelParts, holding, new_channel, has_room, with_last, first_of, left_by}
use Rattle.nest_core.specs.Stations.{most, station, receives, fed_station, feeding, given}
use Rattle.nest_core.specs.Stations.{taking, taken_station, sending}
use Rattle.nest_core.specs.Stations.{sent_station}
use Rattle.nest_core.specs.Worlds.{Line, WorldParts, line, world}
use Rattle.nest_core.specs.WorldSteps.{actors_of, sourcing, collecting, receiving, behind, received, changed_at}
use Rattle.nest_core.specs.WorldSteps.{with_stations, act, step_of}
use Rattle.nest_core.specs.Actors.{actor_at, actor_of}
use Rattle.nest_core.specs.Promises.{source_stream, arrivals_of, departed_of, specs_of, states_of, state_log}
use Rattle.nest_core.specs.Promises.{sent_stream, IsFrontUntil, IsSettled, IsQuiet, IsFinished, IsWhole}
use Rattle.nest_core.specs.inside.Standing.{Arrives, LineStands, WorldStands}
use Rattle.nest_core.proofs.Leading.{fed_all, world_leads}
use Rattle.nest_core.proofs.Resting.{IdleLine, idle_first, idle_ends, idle_front, all_came}

-- the number of an actor of shell j
numbered : (i j : ℕ) → i < 4 → actor_of (4 * j + i + 1) ≡ actor_at i j
numbered i j lt =
    let next : 4 * j + i + 1 ≡ suc (4 * j + i) = omega arith in
    let rest : (4 * j + i) % 4 ≡ i = omega arith in
    let shell : (4 * j + i) / 4 ≡ j = omega arith in
    ap actor_of next ∙ ap (λ r. actor_at r ((4 * j + i) / 4)) rest ∙ ap (actor_at i) shell

settled_act : (w : WorldParts) (i j : ℕ) → IsSettled w → i < 4 → 4 * j + i + 1 < actors_of w → act w (actor_at i j) ≡ w
unfolding step_of
settled_act w i j settled lt within = ap (act w) (sym (numbered i j lt)) ∙ settled (4 * j + i + 1) (omega arith) within

first_station : List Station → Station → Station
first_station [] s = s
first_station (t ∷ stations) s = t

tail_of : List Station → List Station
tail_of [] = []
tail_of (s ∷ stations) = stations

channel_of : List Station → ChannelParts
channel_of [] = new_channel 0
channel_of (s ∷ stations) = s.channel

unbehind : Line → Line
unfolding tail_of channel_of
unbehind l = line (channel_of l.stations) (tail_of l.stations) l.collected

-- no step of a line changes it
record Stays (channel : ChannelParts) (stations : List Station) (collected : Stream) : Type 0 where
  received : (j : ℕ) → j ≤ length stations → received j channel stations collected ≡ line channel stations collected
  fed : (j : ℕ) → j < length stations → changed_at fed_station j stations ≡ stations
  taken : (j : ℕ) → j < length stations → changed_at taken_station j stations ≡ stations
  sent : (j : ℕ) → j < length stations → changed_at sent_station j stations ≡ stations

stays_behind : (channel : ChannelParts) (s : Station) (stations : List Station) (collected : Stream)
    → Stays channel (s ∷ stations) collected → Stays s.channel stations collected
unfolding unbehind tail_of channel_of
stays_behind channel s stations collected st = record {
  received = λ j le. ap unbehind (st.received (suc j) (omega arith));
  fed = λ j lt. ap tail_of (st.fed (suc j) (omega arith));
  taken = λ j lt. ap tail_of (st.taken (suc j) (omega arith));
  sent = λ j lt. ap tail_of (st.sent (suc j) (omega arith));
}

not_longer : (x : Item) (xs : List Item) → xs ≡ x ∷ xs → ⊥
not_longer x xs e = let long = ap length e in omega arith

collects_none : (capacity : ℕ) (items : List Item) (collected : Stream)
    → collecting (first_of items) (holding capacity items) collected ≡ line (holding capacity items) [] collected
    → items ≡ []
collects_none capacity [] collected e = refl
collects_none capacity (x ∷ items) collected e = absurd (not_longer x items (ap (λ (l : Line). l.channel.items) e))

feeds_none : (feeder : Option Item) (s : Station) → (feeding feeder s).feeder ≡ feeder → feeder ≡ None
feeds_none None s e = refl
feeds_none (Some x) s e = absurd (let contra : None ≡ Some x = e in cc contra)

receives_none : (feeder : Option Item) (capacity : ℕ) (items : List Item) (state : State) (drain : Option Item)
    (own : ChannelParts) → feeder ≡ None
    → (left_by (receives (first_of items) (station feeder state drain own)) (holding capacity items)).items ≡ items
    → items ≡ []
receives_none (Some x) capacity items state drain own f e = absurd (cc f)
receives_none None capacity [] state drain own f e = refl
receives_none None capacity (x ∷ items) state drain own f e = absurd (not_longer x items e)

roomy : (c : ChannelParts) → 1 ≤ c.capacity → c.items ≡ [] → has_room c ≡ true
roomy c some none = let long = ap length none in let lt : length c.items < c.capacity = omega arith
    in search (rules, tests)

sends_none : (drain : Option Item) (s : Station) → has_room s.channel ≡ true → s.drain ≡ drain
    → (sending drain s).drain ≡ drain → drain ≡ None
sends_none None s room is e = refl
sends_none (Some x) s room is e =
    absurd (let contra : None ≡ Some x =
    sym (ap (λ (b : Bool). (cond b (station s.feeder s.state None (with_last s.channel x)) s).drain) room) ∙ e
    in cc contra)

-- a take that changes nothing and gives nothing waits
takes_none : (s : State) (a : Taken) → Stands s → answer_of s most ≡ a → given a ≡ None
    → (after_take s most).burnt ≡ s.burnt → Waits s
unfolding after_take
takes_none s (Gives x) st is none same = absurd (cc none)
takes_none s (NotYet m) st is none same = (((has_causes s most st (omega arith)).not_yet m).0 is).0
takes_none s (Again n) st is none same =
    let burnt = (((has_causes s most st (omega arith)).again n).0 is).0 in
    let all = burnt.burns in
    absurd (omega arith)

taken_none : (drain : Option Item) (end : FlowEnd) (s : Station) → Stands s.state → drain ≡ None → s.drain ≡ None
    → taking drain end s ≡ s → end ≡ Open → Waits s.state
taken_none (Some x) end s st none held e going = absurd (cc none)
taken_none None Ended s st none held e going = absurd (cc going)
taken_none None Cut s st none held e going = absurd (cc going)
taken_none None Open s st none held e going =
    takes_none s.state (answer_of s.state most) st refl (ap (λ (t : Station). t.drain) e ∙ held)
    (ap (λ (t : Station). t.state.burnt) e)

stays_idle : (h : ℕ) (whole : Stream) (channel : ChannelParts) (rest : List Item) (stations : List Station)
    (collected : Stream) → Stays channel stations collected
    → LineStands h whole channel rest stations collected → IdleLine channel stations
unfolding first_station
stays_idle h whole channel rest [] collected stays l = collects_none channel.capacity channel.items collected
    (stays.received 0 (omega arith))
stays_idle h whole channel rest (s ∷ stations) collected stays l =
    let next = stays_idle h s.state.taken s.channel (option_to_list s.drain) stations collected
    (stays_behind channel s stations collected stays) l.3 in
    let fed : fed_station s ≡ s = ap (λ (l : List Station). first_station l s) (stays.fed 0 (omega arith)) in
    let taken : taken_station s ≡ s = ap (λ (l : List Station). first_station l s) (stays.taken 0 (omega arith)) in
    let sent : sent_station s ≡ s = ap (λ (l : List Station). first_station l s) (stays.sent 0 (omega arith)) in
    let feeder : s.feeder ≡ None = feeds_none s.feeder s (ap (λ (t : Station). t.feeder) fed) in
    let drain : s.drain ≡ None = sends_none s.drain s
    (roomy s.channel (room_of s stations l.3) (idle_first s.channel stations next)) refl
    (ap (λ (t : Station). t.drain) sent) in (
      receives_none s.feeder channel.capacity channel.items s.state s.drain s.channel feeder
          (ap (λ (l : Line). l.channel.items) (stays.received 0 (omega arith))),
      feeder,
      drain,
      taken_none s.drain s.state.taken.end s l.2.stands drain drain taken,
      next,
    )
  where
    room_of : (s : Station) (stations : List Station)
        → LineStands h s.state.taken s.channel (option_to_list s.drain) stations
        collected → 1 ≤ s.channel.capacity
    room_of s [] l = l.1
    room_of s (t ∷ ts) l = l.1

settled_stays : (w : WorldParts) → IsSettled w → Stays w.line.channel w.line.stations w.line.collected
settled_stays w settled = record {
  received = λ j le. ap (λ (v : WorldParts). v.line) (settled_act w 0 j settled (omega arith) (omega arith));
  fed = λ j lt. ap (λ (v : WorldParts). v.line.stations) (settled_act w 1 j settled (omega arith) (omega arith));
  taken = λ j lt. ap (λ (v : WorldParts). v.line.stations) (settled_act w 2 j settled (omega arith) (omega arith));
  sent = λ j lt. ap (λ (v : WorldParts). v.line.stations) (settled_act w 3 j settled (omega arith) (omega arith));
}

pub settled_idle : (w : WorldParts) → WorldStands w → IsSettled w → IdleLine w.line.channel w.line.stations
settled_idle w st settled =
    stays_idle w.horizon (source_stream w) w.line.channel w.unsent w.line.stations w.line.collected
    (settled_stays w settled) st.line

-- in a settled world all is collected that is before the bound of what the source has sent
pub settled_front : (w : WorldParts) → WorldStands w → IsSettled w
    → IsFrontUntil (sent_stream w).bound w.line.collected.packets (departed_of w)
settled_front w st settled = idle_front w st (settled_idle w st settled)

room_in : (w : WorldParts) (stations : List Station) → LineStands w.horizon (source_stream w) w.line.channel w.unsent
    stations w.line.collected → 1 ≤ w.line.channel.capacity
room_in w [] l = l.1
room_in w (s ∷ stations) l = l.1

all_sent : (w : WorldParts) (items : List Item) → has_room w.line.channel ≡ true → w.unsent ≡ items
    → sourcing items w ≡ w → items ≡ []
all_sent w [] room is e = refl
all_sent w (x ∷ items) room is e =
    absurd (not_longer x items
    (sym (ap (λ (b : Bool). (cond b
    (world w.horizon items (line (with_last w.line.channel x) w.line.stations w.line.collected)) w).unsent) room)
    ∙ ap (λ (v : WorldParts). v.unsent) e ∙ is))

-- a quiet world is finished
pub quiet_finished : (w : WorldParts) → WorldStands w → IsQuiet w → IsFinished w
unfolding step_of
quiet_finished w st quiet =
    let idle = settled_idle w st (λ number some lt. quiet number lt) in
    let room = roomy w.line.channel (room_in w w.line.stations st.line)
    (idle_first w.line.channel w.line.stations idle) in
    let sent = all_sent w w.unsent room refl (quiet 0 (omega arith)) in
    idle_ends w.horizon (source_stream w) w.line.channel w.unsent w.line.stations w.line.collected idle sent st.line
    st.ended

idle_receiving : (capacity : ℕ) (items : List Item) (feeder : Option Item) (state : State) (drain : Option Item)
    (own : ChannelParts) (stations : List Station) (collected : Stream)
    → items ≡ [] → feeder ≡ None
    → receiving (holding capacity items) (station feeder state drain own) stations collected ≡ line
    (holding capacity items) (station feeder state drain own ∷ stations) collected
idle_receiving capacity [] None state drain own stations collected e f = refl
idle_receiving capacity [] (Some x) state drain own stations collected e f = absurd (cc f)
idle_receiving capacity (x ∷ items) feeder state drain own stations collected e f = absurd (cc e)

idle_received : (j : ℕ) (channel : ChannelParts) (stations : List Station) (collected : Stream)
    → IdleLine channel stations
    → received j channel stations collected ≡ line channel stations collected
idle_received zero channel [] collected i = ap (λ (l : List Item). collecting (first_of l) channel collected) i
idle_received (suc j) channel [] collected i = refl
idle_received zero channel (s ∷ stations) collected i = idle_receiving channel.capacity channel.items s.feeder s.state
    s.drain s.channel stations collected i.0 i.1
idle_received (suc j) channel (s ∷ stations) collected i =
    ap (behind channel s) (idle_received j s.channel stations collected i.4)

idle_fed : (j : ℕ) (channel : ChannelParts) (stations : List Station) → IdleLine channel stations
    → changed_at fed_station j stations ≡ stations
idle_fed j channel [] i = refl
idle_fed zero channel (s ∷ stations) i = ap (λ (t : Station). t ∷ stations) (ap (λ (f : Option Item). feeding f s) i.1)
idle_fed (suc j) channel (s ∷ stations) i = ap (λ (l : List Station). s ∷ l) (idle_fed j s.channel stations i.4)

idle_sent : (j : ℕ) (channel : ChannelParts) (stations : List Station) → IdleLine channel stations
    → changed_at sent_station j stations ≡ stations
idle_sent j channel [] i = refl
idle_sent zero channel (s ∷ stations) i = ap (λ (t : Station). t ∷ stations) (ap (λ (d : Option Item). sending d s) i.2)
idle_sent (suc j) channel (s ∷ stations) i = ap (λ (l : List Station). s ∷ l) (idle_sent j s.channel stations i.4)

-- a take that waits changes nothing
pub waits_same : (s : Station) → Stands s.state → s.drain ≡ None → Waits s.state
    → station s.feeder (after_take s.state most) (given (answer_of s.state most)) s.channel ≡ s
waits_same s st held w =
    let causes = has_causes s.state most st (omega arith) in
    let answer : answer_of s.state most ≡ NotYet s.state.fed.bound = (causes.not_yet s.state.fed.bound).1 (w, refl) in
    let same : after_take s.state most ≡ s.state = causes.unchanged s.state.fed.bound answer in
    ap (λ (x : State). station s.feeder x (given (answer_of s.state most)) s.channel) same
    ∙ ap (λ (a : Taken). station s.feeder s.state (given a) s.channel) answer
    ∙ ap (λ (d : Option Item). station s.feeder s.state d s.channel) (sym held)

idle_take : (s : Station) (end : FlowEnd) → Stands s.state → s.state.taken.end ≡ end → s.drain ≡ None
    → (s.state.taken.end ≡ Open → Waits s.state) → taking None end s ≡ s
idle_take s Open st e held waits = waits_same s st held (waits e)
idle_take s Ended st e held waits = refl
idle_take s Cut st e held waits = refl

idle_taken : (j h : ℕ) (whole : Stream) (channel : ChannelParts) (rest : List Item) (stations : List Station)
    (collected : Stream) → LineStands h whole channel rest stations collected
    → IdleLine channel stations → changed_at taken_station j stations ≡ stations
idle_taken j h whole channel rest [] collected l i = refl
idle_taken zero h whole channel rest (s ∷ stations) collected l i =
    ap (λ (t : Station). t ∷ stations)
    (ap (λ (d : Option Item). taking d s.state.taken.end s) i.2 ∙ idle_take s s.state.taken.end l.2.stands refl i.2 i.3)
idle_taken (suc j) h whole channel rest (s ∷ stations) collected l i =
    ap (λ (l : List Station). s ∷ l) (idle_taken j h s.state.taken s.channel (option_to_list s.drain) stations collected
    l.3 i.4)

idle_act : (w : WorldParts) (a : Actor) → WorldStands w → IdleLine w.line.channel w.line.stations → w.unsent ≡ []
    → act w a ≡ w
idle_act w Source st i none = ap (λ (l : List Item). sourcing l w) none
idle_act w (Receiver j) st i none = ap (λ (l : Line). world w.horizon w.unsent l)
    (idle_received j w.line.channel w.line.stations w.line.collected i)
idle_act w (Feeder j) st i none = ap (λ (l : List Station). with_stations w l)
    (idle_fed j w.line.channel w.line.stations i)
idle_act w (Taker j) st i none =
    ap (λ (l : List Station). with_stations w l)
    (idle_taken j w.horizon (source_stream w) w.line.channel w.unsent w.line.stations w.line.collected st.line i)
idle_act w (Sender j) st i none = ap (λ (l : List Station). with_stations w l)
    (idle_sent j w.line.channel w.line.stations i)

nothing_follows : (h : ℕ) (whole got : Stream) (xs : List Item) → got.end ≡ Ended → Arrives h whole got xs → xs ≡ []
nothing_follows h whole got [] e a = refl
nothing_follows h whole got (x ∷ xs) e a = absurd (let contra : Ended ≡ Open = sym e ∙ a.honest.0.0 in cc contra)

first_none : (xs ys : List Item) → xs ++ ys ≡ [] → xs ≡ []
first_none [] ys e = refl
first_none (x ∷ xs) ys e = absurd (cc e)

second_none : (xs ys : List Item) → xs ++ ys ≡ [] → ys ≡ []
second_none [] ys e = e
second_none (x ∷ xs) ys e = absurd (cc e)

none_of : (x : Option Item) → option_to_list x ≡ [] → x ≡ None
none_of None e = refl
none_of (Some x) e = absurd (cc e)

-- what a line is whose collector has received the end
pub record Ends (h : ℕ) (whole : Stream) (channel : ChannelParts) (rest : List Item) (stations : List Station) : Type 0
  where
    pub ended : whole.end ≡ Ended
    pub idle : IdleLine channel stations
    pub sent : rest ≡ []
    pub passed : HavePassed h (map (λ (s : State). s.spec) (map (λ (s : Station). s.state) stations)) whole.packets
        (map (λ (s : Station). s.state) stations)
    pub logs : map state_log (map (λ (s : Station). s.state) stations) ≡ chain_logs h
        (map (λ (s : State). s.spec) (map (λ (s : Station). s.state) stations)) whole.packets

line_ends : (h : ℕ) (whole : Stream) (channel : ChannelParts) (rest : List Item) (stations : List Station)
    (collected : Stream) → LineStands h whole channel rest stations collected
    → collected.end ≡ Ended → Ends h whole channel rest stations
line_ends h whole channel rest [] collected l e =
    let none = nothing_follows h whole collected (channel.items ++ rest) e l.0 in
    record {
      ended = ap (λ (f : Stream). f.end) (sym (all_came h whole collected (channel.items ++ rest) none l.0)) ∙ e;
      idle = first_none channel.items rest none;
      sent = second_none channel.items rest none;
      passed = tt;
      logs = refl;
    }
line_ends h whole channel rest (s ∷ stations) collected l e =
    let next = line_ends h s.state.taken s.channel (option_to_list s.drain) stations collected l.3 e in
    let st = l.2.stands in
    let items = option_to_list s.feeder ++ (channel.items ++ rest) in
    let fed = st.ended next.ended in
    let none = nothing_follows h whole s.state.fed items fed.0 l.0 in
    let way = second_none (option_to_list s.feeder) (channel.items ++ rest) none in
    let all : s.state.fed ≡ whole = all_came h whole s.state.fed items none l.0 in
    let packets : s.state.fed.packets ≡ whole.packets = ap (λ (f : Stream). f.packets) all in
    let out : s.state.taken.packets ≡ whole_out s.state.spec h whole.packets =
    (finished s.state st next.ended).out ∙ ap (λ n. whole_out s.state.spec n s.state.fed.packets) l.2.horizon
    ∙ ap (λ p. whole_out s.state.spec h p) packets in
    let log : state_log s.state ≡ whole_log s.state.spec h whole.packets =
    ap (λ n. shell_log s.state.spec s.state.horizon n s.state.fed.packets) fed.1
    ∙ ap (λ n. whole_log s.state.spec n s.state.fed.packets) l.2.horizon
    ∙ ap (λ p. whole_log s.state.spec h p) packets in
    record {
      ended = ap (λ (f : Stream). f.end) (sym all) ∙ fed.0;
      idle = (
        first_none channel.items rest way,
        none_of s.feeder (first_none (option_to_list s.feeder) (channel.items ++ rest) none),
        none_of s.drain next.sent,
        λ going. absurd (let contra : Open ≡ Ended = sym going ∙ next.ended in cc contra),
        next.idle,
      );
      sent = second_none channel.items rest way;
      passed = (refl, l.2.horizon, packets, next.ended, next.passed);
      logs = ap (λ (x : List Entry). x ∷ map state_log (map (λ (s : Station). s.state) stations)) log
          ∙ ap (λ (x : List (List Entry)). whole_log s.state.spec h whole.packets ∷ x)
          (next.logs ∙ ap (λ p. chain_logs h (map (λ (s : State). s.spec) (map (λ (s : Station). s.state) stations)) p)
          out);
    }

pub world_ends : (w : WorldParts) → WorldStands w → IsFinished w
    → Ends w.horizon (source_stream w) w.line.channel w.unsent w.line.stations
world_ends w st e = line_ends w.horizon (source_stream w) w.line.channel w.unsent w.line.stations w.line.collected
    st.line e

-- a finished world is quiet, and whole
pub finished_quiet : (w : WorldParts) → WorldStands w → IsFinished w → IsQuiet w
unfolding step_of
finished_quiet w st e number lt = let ends = world_ends w st e in idle_act w (actor_of number) st ends.idle ends.sent

pub finished_whole : (w : WorldParts) → WorldStands w → IsFinished w → IsWhole w
finished_whole w st e = record {
  collected = sym (fed_all w.horizon w.line.collected (departed_of w) e (world_leads w st));
  logs = (world_ends w st e).logs;
}

-- a test for the end is one for quiet
pub quiet_if : (w v : WorldParts) (b : Bool) → w ≡ v → WorldStands w → (IsTrue b → IsFinished w)
    → (IsFinished w → IsTrue b) → IsTrue b ↔ IsQuiet v
quiet_if w v b e st there back =
    (λ t. subst IsQuiet e (finished_quiet w st (there t)), λ q. back (quiet_finished w st (subst IsQuiet (sym e) q)))

-- the states of a finished world have run
pub passed_by : (w v : WorldParts) (states : List State) → w ≡ v → WorldStands v → IsFinished v → states ≡ states_of w
    → HavePassed v.horizon (specs_of v) (arrivals_of v) states
passed_by w v states e st done is =
    subst (HavePassed v.horizon (specs_of v) (arrivals_of v)) (sym (is ∙ ap states_of e)) (world_ends v st done).passed
