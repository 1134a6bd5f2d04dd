-- Each step keeps how the streams of a world meet.
use Rattle.std.proofs.Common.{◌≡◌, inl, ℕ, zero, suc, Bool, true, false, cond, List, [], ◌∷◌, ◌++◌, Option, Some, None}
use Rattle.std.proofs.Common.{option_to_list, length, map, ap, sym, subst, ◌∙◌, refl, append_assoc, arith}
use Rattle.packet_record.specs.declared.item.Item.{Item}
use Rattle.packet_record.specs.declared.item.Item.TheVariants.{Packet, Mark, End, Broken}
use Rattle.packet_record.specs.declared.item.FlowEnd.{FlowEnd}
use Rattle.packet_record.specs.declared.item.FlowEnd.TheVariants.{Open, Ended, Broken as Cut}
use Rattle.packet_record.specs.Streams.{Stream, after, after_all, MayFollow, IsUpTo, AllFollow}
use Rattle.packet_record.proofs.MomentsLemmas.{up_to_back}
use Rattle.shell_state.specs.declared.spec.DirSpec.{DirSpec}
use Rattle.shell_state.specs.declared.taken.Taken.{Taken}
use Rattle.shell_state.specs.declared.taken.Taken.TheVariants.{Item as Gives, Again, NotYet}
use Rattle.shell_state.specs.States.{State}
use Rattle.shell_state.specs.Steps.{breaks, after_take, answer_of, answer_after, burns, with_burnt, stream_after}
use Rattle.shell_state.specs.inside.Fed.{AnswerFollows}
use Rattle.shell_state.specs.Standing.{IsHonest, Stands}
use Rattle.shell_state.proofs.Keeping.{burnt_keeps, burns-le, take_keeps, feed_keeps}
use Rattle.shell_state.proofs.Answering.{answer_follows}
use Rattle.shell_state.proofs.Equations.{feed_fed, feed_taken, feed_horizon, feed_spec, feed_breaks, take_taken}
use Rattle.shell_state.proofs.Equations.{take_fed, take_horizon, take_spec, take_broken}
use Rattle.nest_core.specs.declared.station.Station.{Station}
use Rattle.nest_core.specs.declared.actor.Actor.{Actor}
use Rattle.nest_core.specs.declared.actor.Actor.TheVariants.{Source, Receiver, Feeder, Taker, Sender}
use Rattle.nest_core.specs.Channels.{ChannelParts, holding, has_room, with_last, first_of}
use Rattle.nest_core.specs.Stations.{most, station, feeding, fed_station, given, taking}
use Rattle.nest_core.specs.Stations.{taken_station, sending, sent_station}
use Rattle.nest_core.specs.Worlds.{WorldParts, line, world}
use Rattle.nest_core.specs.WorldSteps.{sourcing, collecting, receiving, received, changed_at, act}
use Rattle.nest_core.specs.Promises.{passed_first, source_stream, specs_of}
use Rattle.nest_core.specs.inside.Standing.{Arrives, StationStands, LineStands, WorldStands}

pub after_all-append : (f : Stream) (xs ys : List Item) → after_all f (xs ++ ys) ≡ after_all (after_all f xs) ys
after_all-append f [] ys = refl
after_all-append f (x ∷ xs) ys = after_all-append (after f x) xs ys

pub follow-append : (h : ℕ) (f : Stream) (xs ys : List Item) → AllFollow h f xs → AllFollow h (after_all f xs) ys
    → AllFollow h f (xs ++ ys)
follow-append h f [] ys a b = b
follow-append h f (x ∷ xs) ys a b = (a.0, a.1, follow-append h (after f x) xs ys a.2 b)

arrives_as : (h : ℕ) (whole got : Stream) (xs ys : List Item) → xs ≡ ys → Arrives h whole got xs
    → Arrives h whole got ys
arrives_as h whole got xs ys e a = subst (Arrives h whole got) e a

arrives_more : (h : ℕ) (whole got : Stream) (xs : List Item) (x : Item) → Arrives h whole got xs → MayFollow whole x
    → IsUpTo h x → Arrives h (after whole x) got (xs ++ x ∷ [])
arrives_more h whole got xs x a may within = record {
  is = after_all-append got xs (x ∷ []) ∙ ap (λ f. after f x) a.is;
  honest = follow-append h got xs (x ∷ []) a.honest (subst (λ f. MayFollow f x) (sym a.is) may, within, tt);
}

-- one more item is sent to a line
line_more : (h : ℕ) (whole : Stream) (channel : ChannelParts) (rest : List Item) (stations : List Station)
    (collected : Stream) (x : Item)
    → LineStands h whole channel rest stations collected → MayFollow whole x → IsUpTo h x
    → LineStands h (after whole x) channel (rest ++ x ∷ []) stations collected
line_more h whole channel rest [] collected x l may within = (
  arrives_as h (after whole x) collected ((channel.items ++ rest) ++ x ∷ []) (channel.items ++ (rest ++ x ∷ []))
      (append_assoc channel.items rest (x ∷ []))
      (arrives_more h whole collected (channel.items ++ rest) x l.0 may within),
  l.1,
)
line_more h whole channel rest (s ∷ stations) collected x l may within =
    let held = option_to_list s.feeder in (
      arrives_as h (after whole x) s.state.fed ((held ++ (channel.items ++ rest)) ++ x ∷ [])
          (held ++ (channel.items ++ (rest ++ x ∷ [])))
          (append_assoc held (channel.items ++ rest) (x ∷ [])
          ∙ ap (λ l. held ++ l) (append_assoc channel.items rest (x ∷ [])))
          (arrives_more h whole s.state.fed (held ++ (channel.items ++ rest)) x l.0 may within),
      l.1,
      l.2,
      l.3,
    )

-- the first of the items that are to be sent is sent
line_sent : (h : ℕ) (whole : Stream) (channel : ChannelParts) (rest : List Item) (stations : List Station)
    (collected : Stream) (x : Item)
    → LineStands h whole channel (x ∷ rest) stations collected
    → LineStands h whole (with_last channel x) rest stations collected
line_sent h whole channel rest [] collected x l = (
  arrives_as h whole collected (channel.items ++ x ∷ rest) ((channel.items ++ x ∷ []) ++ rest)
      (sym (append_assoc channel.items (x ∷ []) rest)) l.0,
  l.1,
)
line_sent h whole channel rest (s ∷ stations) collected x l = (
  arrives_as h whole s.state.fed (option_to_list s.feeder ++ (channel.items ++ x ∷ rest)) (option_to_list s.feeder
      ++ ((channel.items ++ x ∷ []) ++ rest))
      (ap (λ l. option_to_list s.feeder ++ l) (sym (append_assoc channel.items (x ∷ []) rest))) l.0,
  l.1,
  l.2,
  l.3,
)

-- an item that is on its way in a stream that isn't broken off is not `Broken`
last_breaks : (h : ℕ) (whole got : Stream) (xs : List Item) → Arrives h whole (after got Broken) xs → whole.end ≡ Cut
last_breaks h whole got [] a = sym (ap (λ (f : Stream). f.end) a.is)
last_breaks h whole got (x ∷ xs) a = absurd (let contra : Cut ≡ Open = a.honest.0.0 in cc contra)

tail_arrives : (h : ℕ) (whole got : Stream) (x : Item) (xs : List Item) → Arrives h whole got (x ∷ xs)
    → Arrives h whole (after got x) xs
tail_arrives h whole got x xs a = record { is = a.is; honest = a.honest.2 }

pub unbroken_item : (h : ℕ) (whole got : Stream) (x : Item) (xs : List Item) → (whole.end ≡ Cut → ⊥)
    → Arrives h whole got (x ∷ xs) → breaks x ≡ false
unbroken_item h whole got (Packet t) xs contra a = refl
unbroken_item h whole got (Mark m) xs contra a = refl
unbroken_item h whole got End xs contra a = refl
unbroken_item h whole got Broken xs contra a =
    absurd (contra (last_breaks h whole got xs (tail_arrives h whole got Broken xs a)))

pub taken_goes : (h : ℕ) (s : Station) → StationStands h s → s.state.taken.end ≡ Cut → ⊥
taken_goes h s st e = let x = st.stands.taken_broken e in let y = st.unbroken in let contra : true ≡ false = sym x ∙ y
    in cc contra

-- the feeder of a shell feeds
fed_local : (h : ℕ) (whole : Stream) (channel : ChannelParts) (rest : List Item) (feeder : Option Item)
    (state : State) (drain : Option Item) (own : ChannelParts) (stations : List Station)
    (collected : Stream) → (whole.end ≡ Cut → ⊥)
    → LineStands h whole channel rest (station feeder state drain own ∷ stations) collected
    → LineStands h whole channel rest (feeding feeder (station feeder state drain own) ∷ stations) collected
fed_local h whole channel rest None state drain own stations collected contra l = l
fed_local h whole channel rest (Some x) state drain own stations collected contra l =
    let a = l.0 in
    let st = l.2 in
    let way = channel.items ++ rest in
    let within : IsUpTo state.horizon x = subst (λ n. IsUpTo n x) (sym st.horizon) a.honest.1 in (
      subst (λ (f : Stream). Arrives h whole f way) (sym (feed_fed state x st.unbroken))
          (tail_arrives h whole state.fed x way a),
      l.1,
      record {
        stands = feed_keeps state x st.stands (inl a.honest.0) within;
        horizon = feed_horizon state x ∙ st.horizon;
        unbroken = feed_breaks state x st.unbroken ∙ unbroken_item h whole state.fed x way contra a;
      },
      subst (λ (f : Stream). LineStands h f own (option_to_list drain) stations collected) (sym (feed_taken state x))
          l.3,
    )

-- the drain of a shell sends
sent_local : (h : ℕ) (whole : Stream) (channel : ChannelParts) (rest : List Item) (feeder : Option Item)
    (state : State) (drain : Option Item) (own : ChannelParts) (stations : List Station)
    (collected : Stream) → LineStands h whole channel rest (station feeder state drain own ∷ stations) collected
    → LineStands h whole channel rest (sending drain (station feeder state drain own) ∷ stations) collected
sent_local h whole channel rest feeder state None own stations collected l = l
sent_local h whole channel rest feeder state (Some x) own stations collected l = by (has_room own)
  where
    by : (b : Bool) → LineStands h whole channel rest
        (cond b (station feeder state None (with_last own x)) (station feeder state (Some x) own) ∷ stations) collected
    by true = (
      l.0,
      l.1,
      record { stands = l.2.stands; horizon = l.2.horizon; unbroken = l.2.unbroken },
      line_sent h state.taken own [] stations collected x l.3,
    )
    by false = l

AnswerWithin : ℕ → Taken → Type 0
AnswerWithin h (Gives x) = IsUpTo h x
AnswerWithin h (Again n) = Unit {0}
AnswerWithin h (NotYet m) = Unit {0}

item_within : (h : ℕ) (f : Stream) (x : Item) → IsHonest h (after f x) → IsUpTo h x
item_within h f (Packet t) hon = (up_to_back h f.packets (t ∷ []) hon.within).0
item_within h f (Mark m) hon = hon.bound
item_within h f End hon = tt
item_within h f Broken hon = tt

answer_within : (h : ℕ) (f : Stream) (a : Taken) → IsHonest h (stream_after f a) → AnswerWithin h a
unfolding AnswerWithin
answer_within h f (Gives x) hon = item_within h f x hon
answer_within h f (Again n) hon = tt
answer_within h f (NotYet m) hon = tt

pub take_follows : (s : State) (n : ℕ) → Stands s → s.taken.end ≡ Open → s.broken ≡ false
    → AnswerFollows s.taken.bound (answer_of s n)
unfolding answer_of
take_follows s n st going whole =
    subst (λ (b : Bool). AnswerFollows s.taken.bound
    (cond b (Gives Broken) (answer_after (with_burnt s (burns s n)) (burns s n) n))) (sym whole)
    (answer_follows (with_burnt s (burns s n)) (burns s n) n (burnt_keeps s (burns s n) st going (burns-le s n)))

-- what is taken is held by the drain
next_taken : (h : ℕ) (taken : Stream) (own : ChannelParts) (stations : List Station) (collected : Stream) (a : Taken)
    → LineStands h taken own [] stations collected → taken.end ≡ Open
    → AnswerFollows taken.bound a → AnswerWithin h a
    → LineStands h (stream_after taken a) own (option_to_list (given a)) stations collected
unfolding AnswerWithin
next_taken h taken own stations collected (Gives x) l going may within = line_more h taken own [] stations collected x l
    (going, may) within
next_taken h taken own stations collected (Again n) l going may within = l
next_taken h taken own stations collected (NotYet m) l going may within = l

-- the drain of a shell takes
taken_local : (h : ℕ) (whole : Stream) (channel : ChannelParts) (rest : List Item) (feeder : Option Item)
    (state : State) (drain : Option Item) (own : ChannelParts) (stations : List Station)
    (collected : Stream) (end : FlowEnd) → state.taken.end ≡ end
    → LineStands h whole channel rest (station feeder state drain own ∷ stations) collected
    → LineStands h whole channel rest (taking drain end (station feeder state drain own) ∷ stations) collected
taken_local h whole channel rest feeder state (Some x) own stations collected end e l = l
taken_local h whole channel rest feeder state None own stations collected Ended e l = l
taken_local h whole channel rest feeder state None own stations collected Cut e l = l
taken_local h whole channel rest feeder state None own stations collected Open e l =
    let st = l.2 in
    let a = answer_of state most in
    let stands = take_keeps state most st.stands e in
    let is = take_taken state most in
    let horizon : (after_take state most).horizon ≡ h = take_horizon state most ∙ st.horizon in
    let honest : IsHonest h (stream_after state.taken a) = subst (λ (f : Stream). IsHonest h f) is
    (subst (λ n. IsHonest n (after_take state most).taken) horizon stands.honest_taken) in (
      subst (λ (f : Stream). Arrives h whole f (option_to_list feeder ++ (channel.items ++ rest)))
          (sym (take_fed state most)) l.0,
      l.1,
      record { stands = stands; horizon = horizon; unbroken = take_broken state most ∙ st.unbroken },
      subst (λ (f : Stream). LineStands h f own (option_to_list (given a)) stations collected) (sym is)
          (next_taken h state.taken own stations collected a l.3 e (take_follows state most st.stands e st.unbroken)
          (answer_within h state.taken a honest)),
    )

Local : (Station → Station) → Type 0
Local f = (h : ℕ) (whole : Stream) (channel : ChannelParts) (rest : List Item) (s : Station) (stations : List Station)
    (collected : Stream) → (whole.end ≡ Cut → ⊥)
    → LineStands h whole channel rest (s ∷ stations) collected
    → LineStands h whole channel rest (f s ∷ stations) collected

fed_keeps : Local fed_station
unfolding Local
fed_keeps h whole channel rest s stations collected contra l = fed_local h whole channel rest s.feeder s.state s.drain
    s.channel stations collected contra l

sent_keeps : Local sent_station
unfolding Local
sent_keeps h whole channel rest s stations collected contra l = sent_local h whole channel rest s.feeder s.state s.drain
    s.channel stations collected l

taken_keeps : Local taken_station
unfolding Local
taken_keeps h whole channel rest s stations collected contra l = taken_local h whole channel rest s.feeder s.state
    s.drain s.channel stations collected s.state.taken.end refl l

-- a shell of a line changes
line_changed : (f : Station → Station) → Local f
    → (j h : ℕ) (whole : Stream) (channel : ChannelParts) (rest : List Item)
    (stations : List Station) (collected : Stream)
    → (whole.end ≡ Cut → ⊥) → LineStands h whole channel rest stations collected
    → LineStands h whole channel rest (changed_at f j stations) collected
unfolding Local
line_changed f local j h whole channel rest [] collected contra l = l
line_changed f local zero h whole channel rest (s ∷ stations) collected contra l = local h whole channel rest s stations
    collected contra l
line_changed f local (suc j) h whole channel rest (s ∷ stations) collected contra l = (
  l.0,
  l.1,
  l.2,
  line_changed f local j h s.state.taken s.channel (option_to_list s.drain) stations collected
      (taken_goes h s l.2) l.3,
)

collects : (h : ℕ) (whole : Stream) (capacity : ℕ) (items rest : List Item) (collected : Stream)
    → LineStands h whole (holding capacity items) rest [] collected
    → let r = collecting (first_of items) (holding capacity items) collected
    in LineStands h whole r.channel rest r.stations r.collected
collects h whole capacity [] rest collected l = l
collects h whole capacity (x ∷ items) rest collected l = (tail_arrives h whole collected x (items ++ rest) l.0, l.1)

feeder_receives : (h : ℕ) (whole : Stream) (capacity : ℕ) (items rest : List Item) (feeder : Option Item)
    (state : State) (drain : Option Item) (own : ChannelParts) (stations : List Station) (collected : Stream)
    → LineStands h whole (holding capacity items) rest (station feeder state drain own ∷ stations) collected
    → let r = receiving (holding capacity items) (station feeder state drain own) stations collected
    in LineStands h whole r.channel rest r.stations r.collected
feeder_receives h whole capacity items rest (Some held) state drain own stations collected l = l
feeder_receives h whole capacity [] rest None state drain own stations collected l = l
feeder_receives h whole capacity (x ∷ items) rest None state drain own stations collected l =
    (l.0, l.1, record { stands = l.2.stands; horizon = l.2.horizon; unbroken = l.2.unbroken }, l.3)

line_received : (j h : ℕ) (whole : Stream) (channel : ChannelParts) (rest : List Item) (stations : List Station)
    (collected : Stream) → LineStands h whole channel rest stations collected
    → let r = received j channel stations collected in LineStands h whole r.channel rest r.stations r.collected
line_received zero h whole channel rest [] collected l = collects h whole channel.capacity channel.items rest
    collected l
line_received (suc j) h whole channel rest [] collected l = l
line_received zero h whole channel rest (s ∷ stations) collected l = feeder_receives h whole channel.capacity
    channel.items rest s.feeder s.state s.drain s.channel stations collected l
line_received (suc j) h whole channel rest (s ∷ stations) collected l = (
  l.0,
  l.1,
  record { stands = l.2.stands; horizon = l.2.horizon; unbroken = l.2.unbroken },
  line_received j h s.state.taken s.channel (option_to_list s.drain) stations collected l.3,
)

-- what has come to a line, is in its first channel and will be sent is the whole stream
pub whole_is : (h : ℕ) (whole : Stream) (channel : ChannelParts) (rest : List Item) (stations : List Station)
    (collected : Stream) → LineStands h whole channel rest stations collected
    → after_all (after_all (passed_first stations collected) channel.items) rest ≡ whole
whole_is h whole channel rest [] collected l = sym (after_all-append collected channel.items rest) ∙ l.0.is
whole_is h whole channel rest (s ∷ stations) collected l =
    let held = option_to_list s.feeder in
    sym (after_all-append s.state.fed held (channel.items ++ rest)
    ∙ after_all-append (after_all s.state.fed held) channel.items rest) ∙ l.0.is

KeepsSpec : (Station → Station) → Type 0
KeepsSpec f = (s : Station) → (f s).state.spec ≡ s.state.spec

specs_in : List Station → List DirSpec
specs_in stations = map (λ (s : State). s.spec) (map (λ (s : Station). s.state) stations)

specs-changed_at : (f : Station → Station) → KeepsSpec f → (j : ℕ) (stations : List Station)
    → specs_in (changed_at f j stations) ≡ specs_in stations
unfolding KeepsSpec specs_in
specs-changed_at f keeps j [] = refl
specs-changed_at f keeps zero (s ∷ stations) =
    ap (λ (c : DirSpec). c ∷ map (λ (s : State). s.spec) (map (λ (s : Station). s.state) stations)) (keeps s)
specs-changed_at f keeps (suc j) (s ∷ stations) = ap (λ (l : List DirSpec). s.state.spec ∷ l)
    (specs-changed_at f keeps j stations)

feeding_spec : (feeder : Option Item) (s : Station) → (feeding feeder s).state.spec ≡ s.state.spec
feeding_spec None s = refl
feeding_spec (Some x) s = feed_spec s.state x

taking_spec : (drain : Option Item) (end : FlowEnd) (s : Station) → (taking drain end s).state.spec ≡ s.state.spec
taking_spec (Some x) end s = refl
taking_spec None Open s = take_spec s.state most
taking_spec None Ended s = refl
taking_spec None Cut s = refl

sending_spec : (drain : Option Item) (s : Station) → (sending drain s).state.spec ≡ s.state.spec
sending_spec None s = refl
sending_spec (Some x) s = by (has_room s.channel)
  where
    by : (b : Bool) → (cond b (station s.feeder s.state None (with_last s.channel x)) s).state.spec ≡ s.state.spec
    by true = refl
    by false = refl

specs-collecting : (first : Option Item) (channel : ChannelParts) (collected : Stream)
    → specs_in (collecting first channel collected).stations ≡ []
unfolding specs_in
specs-collecting None channel collected = refl
specs-collecting (Some x) channel collected = refl

specs-received : (j : ℕ) (channel : ChannelParts) (stations : List Station) (collected : Stream)
    → specs_in (received j channel stations collected).stations ≡ specs_in stations
unfolding specs_in
specs-received zero channel [] collected = specs-collecting (first_of channel.items) channel collected
specs-received (suc j) channel [] collected = refl
specs-received zero channel (s ∷ stations) collected = refl
specs-received (suc j) channel (s ∷ stations) collected = ap (λ (l : List DirSpec). s.state.spec ∷ l)
    (specs-received j s.channel stations collected)

sourcing_stations : (items : List Item) (w : WorldParts) → (sourcing items w).line.stations ≡ w.line.stations
sourcing_stations [] w = refl
sourcing_stations (x ∷ items) w = by (has_room w.line.channel)
  where
    by : (b : Bool) → (cond b (world w.horizon items
        (line (with_last w.line.channel x) w.line.stations w.line.collected)) w).line.stations ≡ w.line.stations
    by true = refl
    by false = refl

pub act_specs : (w : WorldParts) (a : Actor) → specs_of (act w a) ≡ specs_of w
unfolding specs_in KeepsSpec
act_specs w Source = ap (λ (l : List Station). map (λ (s : State). s.spec) (map (λ (s : Station). s.state) l))
    (sourcing_stations w.unsent w)
act_specs w (Receiver j) = specs-received j w.line.channel w.line.stations w.line.collected
act_specs w (Feeder j) = specs-changed_at fed_station (λ s. feeding_spec s.feeder s) j w.line.stations
act_specs w (Taker j) = specs-changed_at taken_station (λ s. taking_spec s.drain s.state.taken.end s) j w.line.stations
act_specs w (Sender j) = specs-changed_at sent_station (λ s. sending_spec s.drain s) j w.line.stations

length-specs : (stations : List Station) → length
    (map (λ (s : State). s.spec) (map (λ (s : Station). s.state) stations)) ≡
    length stations
length-specs [] = refl
length-specs (s ∷ stations) = ap suc (length-specs stations)

-- how many shells there are
pub act_stations : (w : WorldParts) (a : Actor) → length (act w a).line.stations ≡ length w.line.stations
act_stations w a = sym (length-specs (act w a).line.stations) ∙ ap (λ (l : List DirSpec). length l) (act_specs w a)
    ∙ length-specs w.line.stations

sourcing_keeps : (h : ℕ) (whole : Stream) (items : List Item) (w : WorldParts)
    → LineStands h whole w.line.channel items w.line.stations w.line.collected → w.unsent ≡ items
    → let v = sourcing items w in LineStands h whole v.line.channel v.unsent v.line.stations v.line.collected
sourcing_keeps h whole [] w l e =
    subst (λ (items : List Item). LineStands h whole w.line.channel items w.line.stations w.line.collected) (sym e) l
sourcing_keeps h whole (x ∷ items) w l e = by (has_room w.line.channel)
  where
    by : (b : Bool) → let v = cond b
        (world w.horizon items (line (with_last w.line.channel x) w.line.stations w.line.collected)) w in
        LineStands h whole v.line.channel v.unsent v.line.stations v.line.collected
    by true = line_sent h whole w.line.channel items w.line.stations w.line.collected x l
    by false = subst (λ (items : List Item). LineStands h whole w.line.channel items w.line.stations w.line.collected)
        (sym e) l

act_line : (w : WorldParts) (a : Actor) (whole : Stream) → (whole.end ≡ Cut → ⊥)
    → LineStands w.horizon whole w.line.channel w.unsent w.line.stations w.line.collected
    → let v = act w a in LineStands w.horizon whole v.line.channel v.unsent v.line.stations v.line.collected
act_line w Source whole contra l = sourcing_keeps w.horizon whole w.unsent w l refl
act_line w (Receiver j) whole contra l = line_received j w.horizon whole w.line.channel w.unsent w.line.stations
    w.line.collected l
act_line w (Feeder j) whole contra l = line_changed fed_station fed_keeps j w.horizon whole w.line.channel w.unsent
    w.line.stations w.line.collected contra l
act_line w (Taker j) whole contra l = line_changed taken_station taken_keeps j w.horizon whole w.line.channel w.unsent
    w.line.stations w.line.collected contra l
act_line w (Sender j) whole contra l = line_changed sent_station sent_keeps j w.horizon whole w.line.channel w.unsent
    w.line.stations w.line.collected contra l

sourcing_horizon : (items : List Item) (w : WorldParts) → (sourcing items w).horizon ≡ w.horizon
sourcing_horizon [] w = refl
sourcing_horizon (x ∷ items) w = by (has_room w.line.channel)
  where
    by : (b : Bool) → (cond b (world w.horizon items
        (line (with_last w.line.channel x) w.line.stations w.line.collected)) w).horizon ≡ w.horizon
    by true = refl
    by false = refl

pub act_horizon : (w : WorldParts) (a : Actor) → (act w a).horizon ≡ w.horizon
act_horizon w Source = sourcing_horizon w.unsent w
act_horizon w (Receiver j) = refl
act_horizon w (Feeder j) = refl
act_horizon w (Taker j) = refl
act_horizon w (Sender j) = refl

goes : (w : WorldParts) → WorldStands w → (source_stream w).end ≡ Cut → ⊥
goes w st e = let contra : Ended ≡ Cut = sym st.ended ∙ e in cc contra

-- a step keeps what the source sends in all
pub act_source : (w : WorldParts) (a : Actor) → WorldStands w → source_stream (act w a) ≡ source_stream w
act_source w a st =
    let v = act w a in
    whole_is w.horizon (source_stream w) v.line.channel v.unsent v.line.stations v.line.collected
    (act_line w a (source_stream w) (goes w st) st.line)

pub act_stands : (w : WorldParts) (a : Actor) → WorldStands w → WorldStands (act w a)
act_stands w a st =
    let v = act w a in
    let is = act_source w a st in
    record {
      ended = ap (λ (f : Stream). f.end) is ∙ st.ended;
      line = subst (λ (f : Stream). LineStands v.horizon f v.line.channel v.unsent v.line.stations v.line.collected)
          (sym is)
          (subst (λ n. LineStands n (source_stream w) v.line.channel v.unsent v.line.stations v.line.collected)
          (sym (act_horizon w a)) (act_line w a (source_stream w) (goes w st) st.line));
      few = let same = act_stations w a in let few = st.few in omega arith;
    }
