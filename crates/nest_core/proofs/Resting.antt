-- Worlds in which nothing but the source can step, and worlds that are finished.
use Rattle.std.proofs.Common.{◌≡◌, ◌⊎◌, inl, inr, ℕ, ◌≤◌, List, [], ◌∷◌}
use Rattle.std.proofs.Common.{◌++◌, Option, None, option_to_list, ap, sym, ◌∙◌, refl, arith}
use Rattle.std.proofs.lemmas.List.{append-nil}
use Rattle.packet_record.specs.declared.item.Item.{Item}
use Rattle.packet_record.specs.declared.item.FlowEnd.{FlowEnd}
use Rattle.packet_record.specs.declared.item.FlowEnd.TheVariants.{Open, Ended, Broken as Cut}
use Rattle.packet_record.specs.Streams.{Stream, after_all}
use Rattle.packet_record.proofs.MomentsLemmas.{from_lower}
use Rattle.shell_state.proofs.GoingOn.{keeps_up}
use Rattle.shell_state.specs.Causes.{Waits}
use Rattle.nest_core.specs.declared.station.Station.{Station}
use Rattle.nest_core.specs.Channels.{ChannelParts}
use Rattle.nest_core.specs.Worlds.{WorldParts}
use Rattle.nest_core.specs.Promises.{passed_first, sent_stream, source_stream, departed_of, IsFrontUntil}
use Rattle.nest_core.specs.inside.Standing.{Arrives, StationStands, LineStands, WorldStands}
use Rattle.nest_core.proofs.Meeting.{taken_goes}
use Rattle.nest_core.proofs.Leading.{fed_all, world_leads}

-- nobody but the source has anything to do
abbrev pub IdleLine : ChannelParts → List Station → Type 0
IdleLine channel [] = channel.items ≡ []
IdleLine channel (s ∷ stations) = (channel.items ≡ []) × (s.feeder ≡ None) × (s.drain ≡ None)
    × (s.state.taken.end ≡ Open → Waits s.state) × IdleLine s.channel stations

pub idle_first : (channel : ChannelParts) (stations : List Station) → IdleLine channel stations → channel.items ≡ []
idle_first channel [] i = i
idle_first channel (s ∷ stations) i = i.0

none_comes : (s : Station) (items rest : List Item) → s.feeder ≡ None → items ≡ [] → rest ≡ [] → option_to_list s.feeder
    ++ (items ++ rest) ≡ []
none_comes s items rest e e' e'' =
    ap (λ (f : Option Item). option_to_list f ++ (items ++ rest)) e ∙ ap (λ (l : List Item). l ++ rest) e' ∙ e''

pub all_came : (h : ℕ) (whole got : Stream) (xs : List Item) → xs ≡ [] → Arrives h whole got xs → got ≡ whole
all_came h whole got xs e a = ap (λ (l : List Item). after_all got l) (sym e) ∙ a.is

ended_only : (s : Station) (h : ℕ) (end : FlowEnd) → s.state.taken.end ≡ end → StationStands h s
    → (s.state.taken.end ≡ Open → Waits s.state) → s.state.fed.end ≡ Ended → s.state.taken.end ≡ Ended
ended_only s h Open e st waits ended = absurd ((waits e).open' ended)
ended_only s h Ended e st waits ended = e
ended_only s h Cut e st waits ended = absurd (taken_goes h s st e)

-- where nobody has anything to do and the whole stream is sent, it is collected to its end
pub idle_ends : (h : ℕ) (whole : Stream) (channel : ChannelParts) (rest : List Item) (stations : List Station)
    (collected : Stream) → IdleLine channel stations → rest ≡ []
    → LineStands h whole channel rest stations collected → whole.end ≡ Ended → collected.end ≡ Ended
idle_ends h whole channel rest [] collected i none l e =
    ap (λ (f : Stream). f.end) (all_came h whole collected (channel.items ++ rest)
    (ap (λ (l : List Item). l ++ rest) i ∙ none) l.0) ∙ e
idle_ends h whole channel rest (s ∷ stations) collected i none l e =
    let fed : s.state.fed ≡ whole = all_came h whole s.state.fed (option_to_list s.feeder ++ (channel.items ++ rest))
    (none_comes s channel.items rest i.1 i.0 none) l.0 in
    let ended : s.state.fed.end ≡ Ended = ap (λ (f : Stream). f.end) fed ∙ e in
    idle_ends h s.state.taken s.channel (option_to_list s.drain) stations collected i.4
    (ap (λ (d : Option Item). option_to_list d) i.2) l.3
    (ended_only s h s.state.taken.end refl l.2 i.3 ended)

-- and else the bound of what has come to it is collected
idle_bound : (h : ℕ) (whole : Stream) (channel : ChannelParts) (rest : List Item) (stations : List Station)
    (collected : Stream) → IdleLine channel stations
    → LineStands h whole channel rest stations collected → ((passed_first stations collected).bound ≤ collected.bound)
    ⊎ (collected.end ≡ Ended)
idle_bound h whole channel rest [] collected i l = inl (omega arith)
idle_bound h whole channel rest (s ∷ stations) collected i l =
    by s.state.taken.end refl i (idle_bound h s.state.taken s.channel (option_to_list s.drain)
    stations collected i.4 l.3)
  where
    got : IdleLine channel (s ∷ stations) → (after_all s.state.fed (option_to_list s.feeder)).bound ≡ s.state.fed.bound
    got i = ap (λ (f : Option Item). (after_all s.state.fed (option_to_list f)).bound) i.1

    held : IdleLine channel (s ∷ stations) → option_to_list s.drain ≡ []
    held i = ap (λ (d : Option Item). option_to_list d) i.2

    next : (stations : List Station) → IdleLine s.channel stations
        → LineStands h s.state.taken s.channel (option_to_list s.drain) stations collected → option_to_list s.drain ≡ []
        → (passed_first stations collected).bound ≡ s.state.taken.bound
    next [] j l none =
        ap (λ (f : Stream). f.bound) (all_came h s.state.taken collected (s.channel.items ++ option_to_list s.drain)
        (ap (λ (l : List Item). l ++ option_to_list s.drain) j ∙ none) l.0)
    next (t ∷ ts) j l none =
        ap (λ (f : Option Item). (after_all t.state.fed (option_to_list f)).bound) j.1
        ∙ ap (λ (f : Stream). f.bound)
        (all_came h s.state.taken t.state.fed (option_to_list t.feeder ++ (s.channel.items ++ option_to_list s.drain))
        (none_comes t s.channel.items (option_to_list s.drain) j.1 j.0 none) l.0)

    by : (end : FlowEnd) → s.state.taken.end ≡ end → IdleLine channel (s ∷ stations)
        → ((passed_first stations collected).bound ≤ collected.bound) ⊎ (collected.end ≡ Ended)
        → ((after_all s.state.fed (option_to_list s.feeder)).bound ≤ collected.bound) ⊎ (collected.end ≡ Ended)
    by Open e i behind =
        let w = i.3 e in
        let up = (keeps_up s.state l.2.stands).floor w.spent in
        let floor = w.floor in
        let here = got i in
        let there = next stations i.4 l.3 (held i) in
        elim behind [ inl le ↦ inl (omega arith) | inr ended ↦ inr ended ]
    by Ended e i behind = inr (idle_ends h s.state.taken s.channel (option_to_list s.drain) stations collected i.4
        (held i) l.3 e)
    by Cut e i behind = absurd (taken_goes h s l.2 e)

none_after : (w : WorldParts) → IdleLine w.line.channel w.line.stations
    → (sent_stream w).bound ≡ (passed_first w.line.stations w.line.collected).bound
none_after w i = ap (λ (l : List Item). (after_all (passed_first w.line.stations w.line.collected) l).bound)
    (idle_first w.line.channel w.line.stations i)

pub idle_front : (w : WorldParts) → WorldStands w → IdleLine w.line.channel w.line.stations
    → IsFrontUntil (sent_stream w).bound w.line.collected.packets (departed_of w)
idle_front w st i =
    let leads = world_leads w st in
    let same = none_after w i in
    elim (idle_bound w.horizon (source_stream w) w.line.channel w.unsent w.line.stations w.line.collected i st.line) [
      | inl le ↦ record {
        others = leads.others;
        is = leads.is;
        later = from_lower (sent_stream w).bound w.line.collected.bound leads.others (omega arith) leads.later;
      }
      | inr ended ↦ record {
        others = [];
        is = fed_all w.horizon w.line.collected (departed_of w) ended leads
            ∙ sym (append-nil w.line.collected.packets);
        later = tt;
      }
    ]
