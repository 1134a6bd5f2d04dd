-- A step that changes a world lowers what is left for it to do, and one that changes nothing leaves it as it was.
use Rattle.std.proofs.Common.{◌≡◌, inl, inr, ℕ, zero, suc, ◌+◌, ◌*◌, ◌≤◌, ◌<◌, ◌&&◌, Bool, true, false, cond}
use Rattle.std.proofs.Common.{List, [], ◌∷◌, ◌++◌, Option, Some, None, option_to_list, is_some, length}
use Rattle.std.proofs.Common.{ap, sym, subst, ◌∙◌, refl, arith}
use Rattle.std.proofs.lemmas.List.{length-append}
use Rattle.packet_record.specs.declared.packet.Timed.{Timed}
use Rattle.packet_record.specs.Streams.{Stream}
use Rattle.packet_record.specs.declared.item.Item.{Item}
use Rattle.packet_record.specs.declared.item.FlowEnd.{FlowEnd}
use Rattle.packet_record.specs.declared.item.FlowEnd.TheVariants.{Open, Ended, Broken as Cut}
use Rattle.shell_state.specs.Shells.{whole_out}
use Rattle.shell_state.specs.declared.taken.Taken.{Taken}
use Rattle.shell_state.specs.declared.taken.Taken.TheVariants.{Item as Gives, Again, NotYet}
use Rattle.shell_state.specs.States.{State}
use Rattle.shell_state.specs.Steps.{after_take, answer_of}
use Rattle.shell_state.specs.Standing.{Stands}
use Rattle.shell_state.specs.Promises.{takes_left}
use Rattle.shell_state.proofs.Causing.{has_causes}
use Rattle.shell_state.proofs.GoingOn.{take_leaves_fewer, feed_leaves_no_more}
use Rattle.shell_state.proofs.Equations.{feed_spec, feed_horizon, take_spec, take_horizon}
use Rattle.nest_core.specs.declared.station.Station.{Station}
use Rattle.nest_core.specs.declared.actor.Actor.{Actor}
use Rattle.nest_core.specs.declared.actor.Actor.TheVariants.{Source, Receiver, Feeder, Taker, Sender}
use Rattle.nest_core.specs.Channels.{ChannelParts, holding, has_room, with_last, first_of}
use Rattle.nest_core.specs.Stations.{most, station, receives, fed_station, feeding, given}
use Rattle.nest_core.specs.Stations.{taking, taken_station, sending}
use Rattle.nest_core.specs.Stations.{sent_station}
use Rattle.nest_core.specs.inside.Stations.{goes_on, takes_where}
use Rattle.nest_core.specs.Worlds.{Line, WorldParts, line, world}
use Rattle.nest_core.specs.WorldSteps.{sourcing, collecting, receiving, behind, received}
use Rattle.nest_core.specs.WorldSteps.{changed_at, with_stations, act}
use Rattle.nest_core.specs.Promises.{source_stream, arrivals_of}
use Rattle.nest_core.specs.Left.{count_held, left_at, left_in, left_of}
use Rattle.nest_core.specs.inside.Standing.{Arrives, StationStands, LineStands, WorldStands}
use Rattle.nest_core.specs.inside.Does.{feeds, takes, sends, at_station, receives_at, does}
use Rattle.nest_core.proofs.Meeting.{act_source}
use Rattle.nest_core.proofs.Leading.{Leads, fed_leads, next_leads, source_leads}
use Rattle.nest_core.proofs.Settling.{waits_same}

-- one more item in a line's first channel
left_in-with_last : (all : List Timed) (channel : ChannelParts) (stations : List Station) (x : Item)
    → left_in all (with_last channel x) stations ≡ 2 + left_in all channel stations
left_in-with_last all channel [] x = let long = length-append channel.items (x ∷ []) in omega arith
left_in-with_last all channel (s ∷ stations) x = let long = length-append channel.items (x ∷ []) in omega arith

collecting_less : (all : List Timed) (capacity : ℕ) (items : List Item) (collected : Stream)
    → is_some (first_of items) ≡ true
    → let r = collecting (first_of items) (holding capacity items) collected
    in left_in all r.channel r.stations < left_in all (holding capacity items) []
collecting_less all capacity [] collected e = absurd (cc e)
collecting_less all capacity (x ∷ items) collected e = omega arith

receiving_less : (all : List Timed) (capacity : ℕ) (items : List Item) (feeder : Option Item) (state : State)
    (drain : Option Item) (own : ChannelParts) (stations : List Station) (collected : Stream)
    → receives (first_of items) (station feeder state drain own) ≡ true
    → let r = receiving (holding capacity items) (station feeder state drain own) stations collected
    in left_in all r.channel r.stations < left_in all (holding capacity items)
    (station feeder state drain own ∷ stations)
receiving_less all capacity items (Some held) state drain own stations collected e = absurd (cc e)
receiving_less all capacity [] None state drain own stations collected e = absurd (cc e)
receiving_less all capacity (x ∷ items) None state drain own stations collected e = omega arith

received_less : (j : ℕ) (all : List Timed) (channel : ChannelParts) (stations : List Station) (collected : Stream)
    → receives_at j channel stations ≡ true
    → let r = received j channel stations collected in left_in all r.channel r.stations < left_in all channel stations
received_less zero all channel [] collected e = collecting_less all channel.capacity channel.items collected e
received_less (suc j) all channel [] collected e = absurd (cc e)
received_less zero all channel (s ∷ stations) collected e = receiving_less all channel.capacity channel.items s.feeder
    s.state s.drain s.channel stations collected e
received_less (suc j) all channel (s ∷ stations) collected e =
    let rest = received_less j (whole_out s.state.spec s.state.horizon all) s.channel stations collected e in omega
    arith

-- a shell that changes has less left, and what it lets out stays
record Lowers (all : List Timed) (stations : List Station) (s t : Station) : Type 0 where
  spec : t.state.spec ≡ s.state.spec
  horizon : t.state.horizon ≡ s.state.horizon
  less : left_at all t + left_in (whole_out s.state.spec s.state.horizon all) t.channel stations < left_at all s +
      left_in (whole_out s.state.spec s.state.horizon all) s.channel stations

lowers_line : (all : List Timed) (channel : ChannelParts) (stations : List Station) (s t : Station)
    → Lowers all stations s t
    → left_in all channel (t ∷ stations) < left_in all channel (s ∷ stations)
lowers_line all channel stations s t l =
    let less = l.less in
    let same : left_in (whole_out t.state.spec t.state.horizon all) t.channel stations ≡ left_in
    (whole_out s.state.spec s.state.horizon all) t.channel stations =
    ap (λ c. left_in (whole_out c t.state.horizon all) t.channel stations) l.spec
    ∙ ap (λ n. left_in (whole_out s.state.spec n all) t.channel stations) l.horizon in
    omega arith

Lowering : (Station → Station) → (Station → Bool) → Type 0
Lowering f p = (h : ℕ) (whole : Stream) (channel : ChannelParts) (rest : List Item) (s : Station)
    (stations : List Station)
    (collected : Stream) (all : List Timed)
    → LineStands h whole channel rest (s ∷ stations) collected → Leads h whole all → p s ≡ true
    → Lowers all stations s (f s)

changed_less : (f : Station → Station) (p : Station → Bool) → Lowering f p
    → (j h : ℕ) (whole : Stream) (channel : ChannelParts) (rest : List Item) (stations : List Station)
    (collected : Stream) (all : List Timed)
    → LineStands h whole channel rest stations collected → Leads h whole all → at_station p j stations ≡ true
    → left_in all channel (changed_at f j stations) < left_in all channel stations
unfolding Lowering
changed_less f p low j h whole channel rest [] collected all l leads e = absurd (cc e)
changed_less f p low zero h whole channel rest (s ∷ stations) collected all l leads e =
    lowers_line all channel stations s (f s) (low h whole channel rest s stations collected all l leads e)
changed_less f p low (suc j) h whole channel rest (s ∷ stations) collected all l leads e =
    let next = next_leads h whole s (option_to_list s.feeder ++ (channel.items ++ rest)) all l.0 l.2 leads in
    let less = changed_less f p low j h s.state.taken s.channel (option_to_list s.drain) stations collected
    (whole_out s.state.spec s.state.horizon all) l.3 next e in
    omega arith

fed_lowers : (all : List Timed) (feeder : Option Item) (s : Station) (stations : List Station) → s.feeder ≡ feeder
    → s.state.broken ≡ false → is_some feeder ≡ true → Lowers all stations s (feeding feeder s)
fed_lowers all None s stations is whole e = absurd (cc e)
fed_lowers all (Some x) s stations is whole e =
    let fewer = feed_leaves_no_more s.state x all in
    let one : count_held s.feeder ≡ 1 = ap count_held is in
    record { spec = feed_spec s.state x; horizon = feed_horizon s.state x; less = omega arith }

fed_lowering : Lowering fed_station feeds
unfolding Lowering
fed_lowering h whole channel rest s stations collected all l leads e = fed_lowers all s.feeder s stations refl
    l.2.unbroken e

sent_lowers : (all : List Timed) (drain : Option Item) (room : Bool) (s : Station) (stations : List Station)
    → s.drain ≡ drain → has_room s.channel ≡ room → (is_some drain && room) ≡ true
    → Lowers all stations s (sending drain s)
sent_lowers all None room s stations is r e = absurd (cc e)
sent_lowers all (Some x) false s stations is r e = absurd (cc e)
sent_lowers all (Some x) true s stations is r e =
    subst (λ (b : Bool). Lowers all stations s (cond b (station s.feeder s.state None (with_last s.channel x)) s))
    (sym r)
    (let one : count_held s.drain ≡ 1 = ap count_held is in
    let two = left_in-with_last (whole_out s.state.spec s.state.horizon all) s.channel stations x in
    record { spec = refl; horizon = refl; less = omega arith })

sent_lowering : Lowering sent_station sends
unfolding Lowering
sent_lowering h whole channel rest s stations collected all l leads e = sent_lowers all s.drain (has_room s.channel) s
    stations refl refl e

held_one : (x : Option Item) → count_held x ≤ 1
held_one None = omega arith
held_one (Some x) = omega arith

gives_something : (s : State) (a : Taken) → goes_on a ≡ true → a ≡ NotYet s.fed.bound → ⊥
gives_something s a e is = let contra : true ≡ false = sym e ∙ ap goes_on is in cc contra

taken_lowers : (h : ℕ) (whole : Stream) (s : Station) (items : List Item) (stations : List Station) (all : List Timed)
    (drain : Option Item) (end : FlowEnd) → s.drain ≡ drain → s.state.taken.end ≡ end
    → Arrives h whole s.state.fed items → StationStands h s → Leads h whole all → takes_where drain end s ≡ true
    → Lowers all stations s (taking drain end s)
taken_lowers h whole s items stations all (Some x) end held is a st leads e = absurd (cc e)
taken_lowers h whole s items stations all None Ended held is a st leads e = absurd (cc e)
taken_lowers h whole s items stations all None Cut held is a st leads e = absurd (cc e)
taken_lowers h whole s items stations all None Open held is a st leads e =
    let l = fed_leads h whole s items all a st leads in
    let one = held_one (given (answer_of s.state most)) in
    elim (take_leaves_fewer s.state most l.others st.stands is (omega arith)
    (record { rises = l.rises; later = l.later; open' = l.going })) [
      | inl not_yet ↦ absurd (gives_something s.state (answer_of s.state most) e not_yet)
      | inr fewer ↦
          let less : takes_left all (after_take s.state most) < takes_left all s.state =
          subst (λ (p : List Timed). takes_left p (after_take s.state most) < takes_left p s.state) (sym l.is) fewer in
          record { spec = take_spec s.state most; horizon = take_horizon s.state most; less = omega arith }
    ]

taken_lowering : Lowering taken_station takes
unfolding Lowering
taken_lowering h whole channel rest s stations collected all l leads e =
    taken_lowers h whole s (option_to_list s.feeder ++ (channel.items ++ rest)) stations all s.drain s.state.taken.end
    refl refl l.0 l.2 leads e

sourcing_less : (all : List Timed) (items : List Item) (room : Bool) (w : WorldParts) → w.unsent ≡ items
    → has_room w.line.channel ≡ room → (room && is_some (first_of items)) ≡ true
    → let v = sourcing items w in 3 * length v.unsent + left_in all v.line.channel v.line.stations < 3 * length
    w.unsent + left_in all w.line.channel w.line.stations
sourcing_less all items false w is r e = absurd (cc e)
sourcing_less all [] true w is r e = absurd (cc e)
sourcing_less all (x ∷ items) true w is r e =
    subst (λ (b : Bool). let v = cond b
    (world w.horizon items (line (with_last w.line.channel x) w.line.stations w.line.collected)) w in
    3 * length v.unsent + left_in all v.line.channel v.line.stations < 3 * length w.unsent + left_in all w.line.channel
    w.line.stations) (sym r)
    (let two = left_in-with_last all w.line.channel w.line.stations x in
    let long = ap length is in
    omega arith)

-- over the first list as it was
act_left : (w : WorldParts) (a : Actor) → WorldStands w → does w a ≡ true → let v = act w a in
    3 * length v.unsent + left_in (arrivals_of w) v.line.channel v.line.stations < 3 * length w.unsent + left_in
    (arrivals_of w) w.line.channel w.line.stations
act_left w Source st e = sourcing_less (arrivals_of w) w.unsent (has_room w.line.channel) w refl refl e
act_left w (Receiver j) st e = let less = received_less j (arrivals_of w) w.line.channel w.line.stations
    w.line.collected e in omega arith
act_left w (Feeder j) st e =
    let less = changed_less fed_station feeds fed_lowering j w.horizon (source_stream w) w.line.channel w.unsent
    w.line.stations w.line.collected (arrivals_of w) st.line (source_leads w) e in
    omega arith
act_left w (Taker j) st e =
    let less = changed_less taken_station takes taken_lowering j w.horizon (source_stream w) w.line.channel w.unsent
    w.line.stations w.line.collected (arrivals_of w) st.line (source_leads w) e in
    omega arith
act_left w (Sender j) st e =
    let less = changed_less sent_station sends sent_lowering j w.horizon (source_stream w) w.line.channel w.unsent
    w.line.stations w.line.collected (arrivals_of w) st.line (source_leads w) e in
    omega arith

pub act_less : (w : WorldParts) (a : Actor) → WorldStands w → does w a ≡ true → left_of (act w a) < left_of w
unfolding left_of
act_less w a st e =
    let less = act_left w a st e in
    let v = act w a in
    let same : left_in (arrivals_of v) v.line.channel v.line.stations ≡ left_in (arrivals_of w) v.line.channel
    v.line.stations =
    ap (λ (f : Stream). left_in f.packets v.line.channel v.line.stations) (act_source w a st) in
    omega arith

collecting_same : (capacity : ℕ) (items : List Item) (collected : Stream) → is_some (first_of items) ≡ false
    → collecting (first_of items) (holding capacity items) collected ≡ line (holding capacity items) [] collected
collecting_same capacity [] collected e = refl
collecting_same capacity (x ∷ items) collected e = absurd (cc e)

receiving_same : (capacity : ℕ) (items : List Item) (feeder : Option Item) (state : State) (drain : Option Item)
    (own : ChannelParts) (stations : List Station) (collected : Stream)
    → receives (first_of items) (station feeder state drain own) ≡ false
    → receiving (holding capacity items) (station feeder state drain own) stations collected ≡ line
    (holding capacity items) (station feeder state drain own ∷ stations) collected
receiving_same capacity items (Some held) state drain own stations collected e = refl
receiving_same capacity [] None state drain own stations collected e = refl
receiving_same capacity (x ∷ items) None state drain own stations collected e = absurd (cc e)

received_same : (j : ℕ) (channel : ChannelParts) (stations : List Station) (collected : Stream)
    → receives_at j channel stations ≡ false → received j channel stations collected ≡ line channel stations collected
received_same zero channel [] collected e = collecting_same channel.capacity channel.items collected e
received_same (suc j) channel [] collected e = refl
received_same zero channel (s ∷ stations) collected e = receiving_same channel.capacity channel.items s.feeder s.state
    s.drain s.channel stations collected e
received_same (suc j) channel (s ∷ stations) collected e =
    ap (behind channel s) (received_same j s.channel stations collected e)

feeding_same : (feeder : Option Item) (s : Station) → is_some feeder ≡ false → feeding feeder s ≡ s
feeding_same None s e = refl
feeding_same (Some x) s e = absurd (cc e)

sending_same : (drain : Option Item) (room : Bool) (s : Station) → has_room s.channel ≡ room
    → (is_some drain && room) ≡ false → sending drain s ≡ s
sending_same None room s r e = refl
sending_same (Some x) true s r e = absurd (cc e)
sending_same (Some x) false s r e = ap (λ (b : Bool). cond b (station s.feeder s.state None (with_last s.channel x)) s)
    r

not_yet : (s : Station) (a : Taken) → Stands s.state → s.drain ≡ None → answer_of s.state most ≡ a → goes_on a ≡ false
    → station s.feeder (after_take s.state most) (given (answer_of s.state most)) s.channel ≡ s
not_yet s (Gives x) st held is e = absurd (cc e)
not_yet s (Again n) st held is e = absurd (cc e)
not_yet s (NotYet m) st held is e = waits_same s st held (((has_causes s.state most st (omega arith)).not_yet m).0 is).0

taking_same : (drain : Option Item) (end : FlowEnd) (s : Station) → Stands s.state → s.drain ≡ drain
    → takes_where drain end s ≡ false → taking drain end s ≡ s
taking_same (Some x) end s st held e = refl
taking_same None Open s st held e = not_yet s (answer_of s.state most) st held refl e
taking_same None Ended s st held e = refl
taking_same None Cut s st held e = refl

changed_same : (f : Station → Station) (p : Station → Bool) → ((s : Station) → Stands s.state → p s ≡ false → f s ≡ s)
    → (j h : ℕ) (whole : Stream) (channel : ChannelParts) (rest : List Item)
    (stations : List Station) (collected : Stream) → LineStands h whole channel rest stations collected
    → at_station p j stations ≡ false → changed_at f j stations ≡ stations
changed_same f p same j h whole channel rest [] collected l e = refl
changed_same f p same zero h whole channel rest (s ∷ stations) collected l e =
    ap (λ (t : Station). t ∷ stations) (same s l.2.stands e)
changed_same f p same (suc j) h whole channel rest (s ∷ stations) collected l e =
    ap (λ (x : List Station). s ∷ x) (changed_same f p same j h s.state.taken s.channel (option_to_list s.drain)
    stations
    collected l.3 e)

sourcing_same : (items : List Item) (room : Bool) (w : WorldParts) → has_room w.line.channel ≡ room
    → (room && is_some (first_of items)) ≡ false → sourcing items w ≡ w
sourcing_same [] room w r e = refl
sourcing_same (x ∷ items) true w r e = absurd (cc e)
sourcing_same (x ∷ items) false w r e =
    ap (λ (b : Bool). cond b (world w.horizon items
    (line (with_last w.line.channel x) w.line.stations w.line.collected)) w) r

pub act_same : (w : WorldParts) (a : Actor) → WorldStands w → does w a ≡ false → act w a ≡ w
act_same w Source st e = sourcing_same w.unsent (has_room w.line.channel) w refl e
act_same w (Receiver j) st e = ap (λ (l : Line). world w.horizon w.unsent l)
    (received_same j w.line.channel w.line.stations w.line.collected e)
act_same w (Feeder j) st e =
    ap (λ (l : List Station). with_stations w l)
    (changed_same fed_station feeds (λ s stands is. feeding_same s.feeder s is) j w.horizon (source_stream w)
    w.line.channel w.unsent w.line.stations w.line.collected st.line e)
act_same w (Taker j) st e =
    ap (λ (l : List Station). with_stations w l)
    (changed_same taken_station takes (λ s stands is. taking_same s.drain s.state.taken.end s stands refl is) j
    w.horizon (source_stream w) w.line.channel w.unsent w.line.stations w.line.collected st.line e)
act_same w (Sender j) st e =
    ap (λ (l : List Station). with_stations w l)
    (changed_same sent_station sends (λ s stands is. sending_same s.drain (has_room s.channel) s refl is) j w.horizon
    (source_stream w) w.line.channel w.unsent w.line.stations w.line.collected st.line e)
