-- A stream that has come so far leads to the whole list: what a shell let out leads to all that it lets out.
use Rattle.std.proofs.Common.{◌≡◌, ◌⊎◌, inl, inr, ℕ, true, false, List, [], ◌∷◌, ◌++◌, option_to_list, length, map, ap}
use Rattle.std.proofs.Common.{sym, subst, ◌∙◌, refl, append_assoc, arith}
use Rattle.std.proofs.lemmas.List.{append-nil, length-append, nil_from_length}
use Rattle.packet_record.specs.declared.packet.Timed.{Timed}
use Rattle.packet_record.specs.declared.item.Item.{Item}
use Rattle.packet_record.specs.declared.item.Item.TheVariants.{Packet, Mark, End, Broken}
use Rattle.packet_record.specs.declared.item.FlowEnd.{FlowEnd}
use Rattle.packet_record.specs.declared.item.FlowEnd.TheVariants.{Open, Ended, Broken as Cut}
use Rattle.packet_record.specs.Streams.{Stream, after, after_all, MayFollow, IsUpTo, AllFollow}
use Rattle.packet_record.specs.Moments.{AreFrom, AreUpTo, Rise}
use Rattle.packet_record.proofs.MomentsLemmas.{from_lower, up_to-append, up_to_back, rise-append, rise_rest}
use Rattle.shell_state.specs.Shells.{whole_out, whole_log, opportunities}
use Rattle.shell_state.proofs.Laws.{out_rises, out_within}
use Rattle.shell_state.specs.States.{State}
use Rattle.shell_state.specs.Standing.{Stands, Foretells}
use Rattle.shell_state.proofs.Foretelling.{foretells_more, finished}
use Rattle.nest_core.specs.declared.station.Station.{Station}
use Rattle.nest_spec.specs.Chains.{last_departed, chain_logs}
use Rattle.nest_core.specs.Channels.{ChannelParts}
use Rattle.nest_core.specs.Worlds.{WorldParts}
use Rattle.nest_core.specs.Promises.{source_stream, arrivals_of, AreUnderWay, Keeps}
use Rattle.nest_core.specs.inside.Standing.{Arrives, StationStands, LineStands, WorldStands}

-- all is what came and others, none of which is before the bound, in order and within the horizon; where nothing more
-- may come, there are no others
pub record Leads (h : ℕ) (f : Stream) (all : List Timed) : Type 0 where
  pub others : List Timed
  pub is : all ≡ f.packets ++ others
  pub later : AreFrom f.bound others
  pub rises : Rise others
  pub within : AreUpTo h others
  pub going : (f.end ≡ Open) ⊎ (others ≡ [])

-- before an item
step_leads : (h : ℕ) (f : Stream) (x : Item) (all : List Timed) → MayFollow f x → IsUpTo h x → Leads h (after f x) all
    → Leads h f all
step_leads h f (Packet t) all may within l = record {
  others = t ∷ l.others;
  is = l.is ∙ append_assoc f.packets (t ∷ []) l.others;
  later = (may.1, from_lower f.bound t.moment l.others may.1 l.later);
  rises = (l.later, l.rises);
  within = (within, l.within);
  going = inl may.0;
}
step_leads h f (Mark m) all may within l = record {
  others = l.others;
  is = l.is;
  later = from_lower f.bound m l.others may.1 l.later;
  rises = l.rises;
  within = l.within;
  going = inl may.0;
}
step_leads h f End all may within l = record {
  others = l.others;
  is = l.is;
  later = l.later;
  rises = l.rises;
  within = l.within;
  going = inl may.0;
}
step_leads h f Broken all may within l = record {
  others = l.others;
  is = l.is;
  later = l.later;
  rises = l.rises;
  within = l.within;
  going = inl may.0;
}

items_lead : (h : ℕ) (f : Stream) (xs : List Item) (all : List Timed) → AllFollow h f xs
    → Leads h (after_all f xs) all → Leads h f all
items_lead h f [] all a l = l
items_lead h f (x ∷ xs) all a l = step_leads h f x all a.0 a.1 (items_lead h (after f x) xs all a.2 l)

pub arrived_leads : (h : ℕ) (whole got : Stream) (xs : List Item) (all : List Timed) → Arrives h whole got xs
    → Leads h whole all → Leads h got all
arrived_leads h whole got xs all a l =
    items_lead h got xs all a.honest (subst (λ (f : Stream). Leads h f all) (sym a.is) l)

-- what a state says of all that arrives
pub foretold : (s : State) (all : List Timed) → Stands s → Leads s.horizon s.fed all → Foretells s all
foretold s all st l = subst (Foretells s) (sym l.is)
    (foretells_more s st l.others (record { rises = l.rises; later = l.later; open' = l.going }))

nothing_more : (xs ys : List Timed) → xs ≡ xs ++ ys → ys ≡ []
nothing_more xs ys e = let long = ap length e ∙ length-append xs ys in nil_from_length ys (omega arith)

-- where what was fed has ended, it is all
pub fed_all : (h : ℕ) (f : Stream) (all : List Timed) → f.end ≡ Ended → Leads h f all → all ≡ f.packets
fed_all h f all e l = by l.going
  where
    by : (f.end ≡ Open) ⊎ (l.others ≡ []) → all ≡ f.packets
    by (inl going) = absurd (let contra : Ended ≡ Open = sym e ∙ going in cc contra)
    by (inr none) = l.is ∙ ap (λ (o : List Timed). f.packets ++ o) none ∙ append-nil f.packets

-- what was taken of a shell leads to all that it lets out
pub taken_leads : (s : State) (all : List Timed) → Stands s → s.broken ≡ false → Leads s.horizon s.fed all
    → Leads s.horizon s.taken (whole_out s.spec s.horizon all)
taken_leads s all st whole l =
    let f = foretold s all st l in
    let n = length (opportunities s.spec s.horizon) in
    let rises = subst Rise (sym l.is) (rise-append s.fed.bound s.fed.packets l.others st.honest_fed.rises
    st.honest_fed.bounded l.later l.rises) in
    let within = subst (AreUpTo s.horizon) (sym l.is)
    (up_to-append s.horizon s.fed.packets l.others st.honest_fed.within l.within) in
    record {
      others = f.more;
      is = f.departs;
      later = f.later;
      rises = rise_rest s.taken.packets f.more (subst Rise f.departs (out_rises s.spec s.horizon n all st.built rises));
      within = up_to_back s.horizon s.taken.packets f.more
          (subst (AreUpTo s.horizon) f.departs (out_within s.spec s.horizon n all st.built within));
      going = by f s.taken.end refl;
    }
  where
    by : (f : Foretells s all) (end : FlowEnd) → s.taken.end ≡ end → (s.taken.end ≡ Open) ⊎ (f.more ≡ [])
    by f Open e = inl e
    by f Ended e =
        let whole = finished s st e in
        let fed : all ≡ s.fed.packets = fed_all s.horizon s.fed all whole.fed l in
        inr (nothing_more s.taken.packets f.more (whole.out ∙ ap (λ a. whole_out s.spec s.horizon a) (sym fed)
        ∙ f.departs))
    by f Cut e = absurd (let contra : true ≡ false = sym (st.taken_broken e) ∙ whole in cc contra)

-- a shell of a line: what it was fed leads to what arrives, and what was taken to what it lets out
pub fed_leads : (h : ℕ) (whole : Stream) (s : Station) (items : List Item) (all : List Timed)
    → Arrives h whole s.state.fed items → StationStands h s → Leads h whole all
    → Leads s.state.horizon s.state.fed all
fed_leads h whole s items all a st l = subst (λ n. Leads n s.state.fed all) (sym st.horizon)
    (arrived_leads h whole s.state.fed items all a l)

pub next_leads : (h : ℕ) (whole : Stream) (s : Station) (items : List Item) (all : List Timed)
    → Arrives h whole s.state.fed items → StationStands h s → Leads h whole all
    → Leads h s.state.taken (whole_out s.state.spec s.state.horizon all)
next_leads h whole s items all a st l =
    subst (λ n. Leads n s.state.taken (whole_out s.state.spec s.state.horizon all)) st.horizon
    (taken_leads s.state all st.stands st.unbroken (fed_leads h whole s items all a st l))

line_logs : (h : ℕ) (whole : Stream) (channel : ChannelParts) (rest : List Item) (stations : List Station)
    (collected : Stream) (all : List Timed)
    → LineStands h whole channel rest stations collected → Leads h whole all
    → AreUnderWay (map (λ (s : Station). s.state) stations)
    (chain_logs h (map (λ (s : State). s.spec) (map (λ (s : Station). s.state) stations)) all)
line_logs h whole channel rest [] collected all l leads = tt
line_logs h whole channel rest (s ∷ stations) collected all l leads =
    let items = option_to_list s.feeder ++ (channel.items ++ rest) in
    let f = foretold s.state all l.2.stands (fed_leads h whole s items all l.0 l.2 leads) in
    let next = subst (λ n. Leads h s.state.taken (whole_out s.state.spec n all)) l.2.horizon
    (next_leads h whole s items all l.0 l.2 leads) in (
      record {
        stands = l.2.stands;
        entries = f.entries;
        log = ap (λ n. whole_log s.state.spec n all) (sym l.2.horizon) ∙ f.log;
      },
      line_logs h s.state.taken s.channel (option_to_list s.drain) stations collected (whole_out s.state.spec h all) l.3
          next,
    )

pub line_collected : (h : ℕ) (whole : Stream) (channel : ChannelParts) (rest : List Item) (stations : List Station)
    (collected : Stream) (all : List Timed)
    → LineStands h whole channel rest stations collected → Leads h whole all
    → Leads h collected (last_departed h (map (λ (s : State). s.spec) (map (λ (s : Station). s.state) stations)) all)
line_collected h whole channel rest [] collected all l leads = arrived_leads h whole collected (channel.items ++ rest)
    all l.0 leads
line_collected h whole channel rest (s ∷ stations) collected all l leads =
    let next = next_leads h whole s (option_to_list s.feeder ++ (channel.items ++ rest)) all l.0 l.2 leads in
    line_collected h s.state.taken s.channel (option_to_list s.drain) stations collected (whole_out s.state.spec h all)
    l.3
    (subst (λ n. Leads h s.state.taken (whole_out s.state.spec n all)) l.2.horizon next)

-- all that the source sends is the first list
pub source_leads : (w : WorldParts) → Leads w.horizon (source_stream w) (arrivals_of w)
source_leads w = record {
  others = [];
  is = sym (append-nil (source_stream w).packets);
  later = tt;
  rises = tt;
  within = tt;
  going = inr refl;
}

pub world_leads : (w : WorldParts) → WorldStands w
    → Leads w.horizon w.line.collected
    (last_departed w.horizon (map (λ (s : State). s.spec) (map (λ (s : Station). s.state) w.line.stations))
    (arrivals_of w))
world_leads w st = line_collected w.horizon (source_stream w) w.line.channel w.unsent w.line.stations w.line.collected
    (arrivals_of w) st.line (source_leads w)

pub world_keeps : (w : WorldParts) → WorldStands w → Keeps w
world_keeps w st =
    let l = world_leads w st in
    record {
      shells = line_logs w.horizon (source_stream w) w.line.channel w.unsent w.line.stations w.line.collected
          (arrivals_of w) st.line (source_leads w);
      collected = record { others = l.others; is = l.is; later = l.later };
    }
