-- What a step of one shell does to a world, and that it may be taken.
use Rattle.std.proofs.Common.{◌≡◌, ℕ, zero, suc, ◌+◌, ◌*◌, ◌-◌, ◌/◌, ◌%◌, ◌<◌, Bool, true, cond, List, [], ◌∷◌, ◌++◌}
use Rattle.std.proofs.Common.{Option, Some, None, option_to_list, IfSome, Result, Ok, Err, OnOk, OnErr, IfOk, length}
use Rattle.std.proofs.Common.{get_or, slice_set, ap, sym, subst, ◌∙◌, refl, arith}
use Rattle.packet_record.specs.declared.item.Item.{Item}
use Rattle.packet_record.specs.Streams.{Stream, MayFollow, IsUpTo}
use Rattle.text_base.specs.declared.OutOfMemory.{OutOfMemory}
use Rattle.shell_state.specs.States.{State}
use Rattle.nest_core.specs.declared.station.Station.{Station}
use Rattle.nest_core.specs.declared.actor.Actor.TheVariants.{Source}
use Rattle.nest_core.specs.Channels.{ChannelParts, has_room, with_last, first_of}
use Rattle.nest_core.specs.inside.Stations.{MayFeed}
use Rattle.nest_core.specs.Worlds.{Line, WorldParts, line, world}
use Rattle.nest_core.specs.WorldSteps.{sourcing, received, changed_at, with_stations, act}
use Rattle.nest_core.specs.Actors.{actor_at, actor_of}
use Rattle.nest_core.specs.inside.Standing.{Arrives, LineStands, WorldStands}
use Rattle.nest_core.specs.inside.Does.{at_station, receives_at, MayCollect, IsAmong}

pub set-changed_at : (f : Station → Station) (stations : List Station) (j : ℕ) (old new : Station) → j < length stations
    → old ≡ get_or stations j old → new ≡ f old
    → slice_set stations j new ≡ changed_at f j stations
set-changed_at f [] j old new lt is e = absurd (omega arith)
set-changed_at f (s ∷ stations) zero old new lt is e = ap (λ (x : Station). x ∷ stations) (e ∙ ap f is)
set-changed_at f (s ∷ stations) (suc j) old new lt is e =
    ap (λ (l : List Station). s ∷ l) (set-changed_at f stations j old new (omega arith) is e)

pub set-same : (stations : List Station) (j : ℕ) (old new : Station) → j < length stations → old ≡ get_or stations j old
    → new ≡ old → slice_set stations j new ≡ stations
set-same [] j old new lt is e = absurd (omega arith)
set-same (s ∷ stations) zero old new lt is e = ap (λ (x : Station). x ∷ stations) (e ∙ is)
set-same (s ∷ stations) (suc j) old new lt is e =
    ap (λ (l : List Station). s ∷ l) (set-same stations j old new (omega arith) is e)

pub at_station-is : (p : Station → Bool) (stations : List Station) (j : ℕ) (old : Station) → j < length stations
    → old ≡ get_or stations j old → p old ≡ at_station p j stations
at_station-is p [] j old lt is = absurd (omega arith)
at_station-is p (s ∷ stations) zero old lt is = ap p is
at_station-is p (s ∷ stations) (suc j) old lt is = at_station-is p stations j old (omega arith) is

held_may : (h : ℕ) (whole : Stream) (feeder : Option Item) (state : State) (items : List Item) → state.horizon ≡ h
    → Arrives h whole state.fed (option_to_list feeder ++ items)
    → IfSome feeder (λ item. MayFollow state.fed item × IsUpTo state.horizon item)
held_may h whole None state items e a = tt
held_may h whole (Some x) state items e a = (a.honest.0, subst (λ n. IsUpTo n x) (sym e) a.honest.1)

-- what a feeder holds may be fed
may_feed_in : (h : ℕ) (whole : Stream) (channel : ChannelParts) (rest : List Item) (stations : List Station)
    (collected : Stream) (j : ℕ) (old : Station)
    → LineStands h whole channel rest stations collected → j < length stations → old ≡ get_or stations j old
    → MayFeed old
may_feed_in h whole channel rest [] collected j old l lt is = absurd (omega arith)
may_feed_in h whole channel rest (s ∷ stations) collected zero old l lt is =
    subst MayFeed (sym is) (held_may h whole s.feeder s.state (channel.items ++ rest) l.2.horizon l.0)
may_feed_in h whole channel rest (s ∷ stations) collected (suc j) old l lt is =
    may_feed_in h s.state.taken s.channel (option_to_list s.drain) stations collected j old l.3 (omega arith) is

pub may_feed_at : (w : WorldParts) (j : ℕ) (old : Station) → WorldStands w → j < length w.line.stations
    → old ≡ get_or w.line.stations j old → MayFeed old
may_feed_at w j old st lt is = may_feed_in w.horizon _ w.line.channel w.unsent w.line.stations w.line.collected j old
    st.line lt is

first_may : (h : ℕ) (whole : Stream) (items rest : List Item) (collected : Stream)
    → Arrives h whole collected (items ++ rest) → IfSome (first_of items) (MayFollow collected)
first_may h whole [] rest collected a = tt
first_may h whole (x ∷ items) rest collected a = a.honest.0

may_collect_in : (h : ℕ) (whole : Stream) (channel : ChannelParts) (rest : List Item) (stations : List Station)
    (collected : Stream)
    → LineStands h whole channel rest stations collected → MayCollect channel stations collected
may_collect_in h whole channel rest [] collected l = first_may h whole channel.items rest collected l.0
may_collect_in h whole channel rest (s ∷ stations) collected l = may_collect_in h s.state.taken s.channel
    (option_to_list s.drain) stations collected l.3

-- and what the collector would receive may be collected
pub may_collect : (w : WorldParts) → WorldStands w → MayCollect w.line.channel w.line.stations w.line.collected
may_collect w st = may_collect_in w.horizon _ w.line.channel w.unsent w.line.stations w.line.collected st.line

-- a world in which one shell changed, or memory was wanting
pub changed_stands : (f : Station → Station) (w : WorldParts) (j : ℕ) (old new : Station) (r : Result Bool OutOfMemory)
    → j < length w.line.stations → old ≡ get_or w.line.stations j old
    → OnOk r (new ≡ f old) → OnErr r (new ≡ old) → WorldStands w
    → WorldStands (with_stations w (changed_at f j w.line.stations))
    → WorldStands (with_stations w (slice_set w.line.stations j new))
changed_stands f w j old new (Ok did) lt is ok err st next = subst (λ l. WorldStands (with_stations w l))
    (sym (set-changed_at f w.line.stations j old new lt is ok)) next
changed_stands f w j old new (Err e) lt is ok err st next = subst (λ l. WorldStands (with_stations w l))
    (sym (set-same w.line.stations j old new lt is err)) st

pub changed_ok : (f : Station → Station) (w v : WorldParts) (j : ℕ) (old new : Station) (r : Result Bool OutOfMemory)
    → w ≡ v → j < length w.line.stations → old ≡ get_or w.line.stations j old
    → OnOk r (new ≡ f old) → OnOk r
    (with_stations w (slice_set w.line.stations j new) ≡ with_stations v (changed_at f j v.line.stations))
changed_ok f w v j old new (Ok did) e lt is ok =
    ap (λ (l : List Station). with_stations w l) (set-changed_at f w.line.stations j old new lt is ok)
    ∙ ap (λ (u : WorldParts). with_stations u (changed_at f j u.line.stations)) e
changed_ok f w v j old new (Err x) e lt is ok = tt

pub changed_did : (p : Station → Bool) (w v : WorldParts) (j : ℕ) (old : Station) (r : Result Bool OutOfMemory) → w ≡ v
    → j < length w.line.stations → old ≡ get_or w.line.stations j old
    → IfOk r (λ did. did ≡ p old) → IfOk r (λ did. did ≡ at_station p j v.line.stations)
changed_did p w v j old (Ok did) e lt is ok = ok ∙ at_station-is p w.line.stations j old lt is
    ∙ ap (λ (u : WorldParts). at_station p j u.line.stations) e
changed_did p w v j old (Err x) e lt is ok = tt

among_at : (r j n k : ℕ) → n ≡ 4 * j + r → n < 4 * k + 1 → IsAmong k (actor_at r j)
among_at zero j n k e lt = tt
among_at (suc zero) j n k e lt = omega arith
among_at (suc (suc zero)) j n k e lt = omega arith
among_at (suc (suc (suc r))) j n k e lt = omega arith

-- a number names an actor of the shells that there are
pub among : (number k : ℕ) → number < 4 * k + 2 → IsAmong k (actor_of number)
among zero k lt = tt
among (suc n) k lt = among_at (n % 4) (n / 4) n k (omega arith) (omega arith)

-- a world of which an actor received, or memory was wanting
pub received_stands : (w : WorldParts) (j : ℕ) (channel : ChannelParts) (old stations : List Station)
    (collected : Stream)
    (r : Result Bool OutOfMemory) → old ≡ w.line.stations
    → OnOk r (line channel stations collected ≡ received j w.line.channel old w.line.collected)
    → OnErr r ((channel ≡ w.line.channel) × (stations ≡ old) × (collected ≡ w.line.collected)) → WorldStands w
    → WorldStands (world w.horizon w.unsent (received j w.line.channel w.line.stations w.line.collected))
    → WorldStands (world w.horizon w.unsent (line channel stations collected))
received_stands w j channel old stations collected (Ok did) is ok err st next =
    subst (λ (l : Line). WorldStands (world w.horizon w.unsent l))
    (sym (ok ∙ ap (λ (l : List Station). received j w.line.channel l w.line.collected) is)) next
received_stands w j channel old stations collected (Err e) is ok err st next =
    let same : w.line ≡ line channel stations collected =
    ap (λ (c : ChannelParts). line c w.line.stations w.line.collected) (sym err.0)
    ∙ ap (λ (l : List Station). line channel l w.line.collected) (sym is ∙ sym err.1)
    ∙ ap (λ (f : Stream). line channel stations f) (sym err.2) in
    subst (λ (l : Line). WorldStands (world w.horizon w.unsent l)) same st

pub receives_behind : (j : ℕ) (channel : ChannelParts) (stations : List Station) (s : Station) (rest : List Station)
    → stations ≡ s ∷ rest → (j ≡ 0 → ⊥) → receives_at j channel stations ≡ receives_at (j - 1) s.channel rest
receives_behind zero channel stations s rest is some = absurd (some refl)
receives_behind (suc j) channel stations s rest is some =
    ap (λ (l : List Station). receives_at (suc j) channel l) is
    ∙ ap (λ n. receives_at n s.channel rest) (let e : j ≡ suc j - 1 = omega arith in e)

-- the source has sent its next item
pub sourced : (w : WorldParts) (x : Item) (items : List Item) → has_room w.line.channel ≡ true → w.unsent ≡ x ∷ items
    → (act w Source ≡ world w.horizon items (line (with_last w.line.channel x) w.line.stations w.line.collected))
sourced w x items room is =
    ap (λ (l : List Item). sourcing l w) is
    ∙ ap (λ (b : Bool). cond b (world w.horizon items
    (line (with_last w.line.channel x) w.line.stations w.line.collected)) w) room
