-- What has left the last shell of a line.
use Rattle.std.proofs.Common.{◌≡◌, ◌⊎◌, inl, inr, ℕ, ◌+◌, ◌≤◌, ◌<◌, Bool, true, false, cond, List, [], ◌∷◌, ◌++◌}
use Rattle.std.proofs.Common.{length, nat_le, ap, sym, subst, ◌∙◌, refl, arith, rules, tests}
use Rattle.std.proofs.lemmas.List.{append-nil, length-append, nil_from_length}
use Rattle.std.proofs.lemmas.List.Elements.{filter-append}
use Rattle.packet_record.specs.declared.packet.Packet.{Packet}
use Rattle.packet_record.specs.declared.packet.Timed.{Timed}
use Rattle.packet_record.specs.Streams.{Stream}
use Rattle.packet_record.specs.declared.item.FlowEnd.{FlowEnd}
use Rattle.packet_record.specs.declared.item.FlowEnd.TheVariants.{Open, Ended, Broken as Cut}
use Rattle.packet_record.specs.Moments.{AreFrom, Rise}
use Rattle.packet_record.proofs.MomentsLemmas.{from_lower, up_to_higher, rise-append, rise_rest}
use Rattle.packet_record.specs.Packets.{number}
use Rattle.link_core.specs.Promises.{count_to}
use Rattle.link_core.specs.inside.Promises.{Extends}
use Rattle.shell_state.specs.Shells.{whole_out}
use Rattle.shell_state.specs.Wholes.{IsLink}
use Rattle.shell_state.proofs.Laws.{out_fed, out_rises, floor_from, floor_grows, number_once, link_or_not, none_of}
use Rattle.shell_state.specs.States.{State, opps_of, departures, ready, floor_of}
use Rattle.shell_state.specs.Steps.{licensed}
use Rattle.shell_state.specs.Causes.{Waits}
use Rattle.shell_state.specs.Standing.{Stands}
use Rattle.shell_state.specs.Promises.{MayCome}
use Rattle.shell_state.proofs.Keeping.{licensed_open, licensed-le}
use Rattle.shell_state.proofs.Foretelling.{foretells_more, out_goes_on, finished}
use Rattle.shell_state.proofs.GoingOn.{keeps_up}
use Rattle.nest_spec.specs.Passed.{HavePassed}
use Rattle.live_relay.specs.Lines.{IsFront, last_out, number_all, up_to}
use Rattle.live_relay.specs.inside.Meeting.{Rests, Meet}
use Rattle.live_relay.specs.views.Meeting.{last_taken, lost_of, specs_of}

le_or_lt : (m n : ℕ) → (m ≤ n) ⊎ (n < m)
le_or_lt m n = by (nat_le m n) refl
  where
    by : (b : Bool) → nat_le m n ≡ b → (m ≤ n) ⊎ (n < m)
    by true e = inl (search (rules, tests))
    by false e = inr (search (rules, tests))

-- all is what was taken, and others that are after this moment and not before the bound of what was taken
pub record Later (s : State) (m : ℕ) (all : List Timed) : Type 0 where
  pub more : List Timed
  pub is : all ≡ s.taken.packets ++ more
  pub beyond : AreFrom (m + 1) more
  pub later : AreFrom s.taken.bound more

-- nothing is ready, so all that departed was taken
all_taken : (s : State) → Stands s → ready s ≡ [] → departures s ≡ s.taken.packets
all_taken s st none = st.taken ∙ ap (λ (l : List Timed). s.taken.packets ++ l) none ∙ append-nil s.taken.packets

later_of : (s : State) (m low : ℕ) (all : List Timed) → Stands s → Waits s → m + 1 ≤ low → s.taken.bound ≤ low
    → Extends all (departures s) low → Later s m all
later_of s m low all st w above bound ext = record {
  more = ext.more;
  is = ext.is ∙ ap (λ (l : List Timed). l ++ ext.more) (all_taken s st w.ready);
  beyond = from_lower (m + 1) low ext.more above ext.later;
  later = from_lower s.taken.bound low ext.more bound ext.later;
}

pub goes_open : (s : State) → Stands s → s.broken ≡ false → Waits s → s.fed.end ≡ Open
goes_open s st whole w = by s.fed.end refl
  where
    by : (x : FlowEnd) → s.fed.end ≡ x → s.fed.end ≡ Open
    by Open e = e
    by Ended e = absurd (w.open' e)
    by Cut e = absurd (let contra : true ≡ false = sym (st.fed_broken e) ∙ whole in cc contra)

-- Where a shell rests, what departs with packets that come after this moment is after it too.
pub stays_later : (s : State) (m : ℕ) (coming : List Timed) → Stands s → s.broken ≡ false → Waits s → m ≤ s.fed.bound
    → m ≤ s.horizon → MayCome s.fed coming → AreFrom (m + 1) coming
    → Later s m (whole_out s.spec s.horizon (s.fed.packets ++ coming))
stays_later s m coming st whole w le within come beyond = by_kind (link_or_not s.spec)
  where
    all : List Timed
    all = whole_out s.spec s.horizon (s.fed.packets ++ coming)

    up : s.fed.bound ≤ floor_of s
    up = (keeps_up s st).floor w.spent

    ext : Extends all (departures s) (floor_of s)
    ext = out_goes_on s coming st come

    counted : licensed s ≡ count_to (opps_of s) s.fed.bound
    counted = licensed_open s (goes_open s st whole w)

    -- the bound of what was fed is this moment, and no opportunity is
    at_bound : (IsLink s.spec → ⊥) → s.fed.bound ≤ m → Later s m all
    at_bound not low =
        let none : count_to (opps_of s) s.fed.bound ≡ 0 = none_of s.spec s.horizon s.fed.bound not in
        let none_then : count_to (opps_of s) (m + 1) ≡ 0 = none_of s.spec s.horizon (m + 1) not in
        let allowed = st.allowed in
        let long = licensed-le s in
        let c : licensed s ≡ count_to (opps_of s) s.fed.bound = counted in
        let before : s.burnt ≤ count_to (opps_of s) (m + 1) = omega arith in
        let fits : s.burnt ≤ length (opps_of s) = omega arith in
        let ext' = out_fed s.spec s.horizon s.burnt (length (opps_of s)) (m + 1) s.fed.packets coming st.built fits
        before st.covered st.honest_fed.rises
        (up_to_higher s.fed.bound (m + 1) s.fed.packets (omega arith) st.honest_fed.bounded) beyond come.rises in
        let from = floor_from s.spec s.horizon s.burnt (m + 1) st.built (omega arith) (omega arith) in
        let grows = floor_grows s.spec s.horizon s.burnt s.burnt s.fed.bound (m + 1) st.built (omega arith)
        (omega arith) in
        let floor = st.floor in
        later_of s m _ all st w from (omega arith) ext'

    by_bound : (s.fed.bound ≤ m) ⊎ (m < s.fed.bound) → (IsLink s.spec → ⊥) → Later s m all
    by_bound (inl low) not = at_bound not low
    by_bound (inr high) not = let u : s.fed.bound ≤ floor_of s = up in later_of s m (floor_of s) all st w (omega arith)
        st.floor ext

    by_link : (s.fed.bound ≤ s.horizon) ⊎ (s.horizon < s.fed.bound) → IsLink s.spec → Later s m all
    by_link (inl low) link =
        let above = (keeps_up s st).above w.spent link low in later_of s m (floor_of s) all st w (omega arith) st.floor
        ext
    by_link (inr high) link = let u : s.fed.bound ≤ floor_of s = up in later_of s m (floor_of s) all st w (omega arith)
        st.floor ext

    by_kind : (IsLink s.spec) ⊎ (IsLink s.spec → ⊥) → Later s m all
    by_kind (inl link) = by_link (le_or_lt s.fed.bound s.horizon) link
    by_kind (inr not) = by_bound (le_or_lt s.fed.bound m) not

pub taken_open : (h : ℕ) (s : State) → Rests h s → s.fed.end ≡ Open → s.taken.end ≡ Open
taken_open h s r going = by s.taken.end refl
  where
    by : (x : FlowEnd) → s.taken.end ≡ x → s.taken.end ≡ Open
    by Open e = e
    by Ended e = absurd (let contra : Ended ≡ Open = sym (r.sound.stands.ended e).0 ∙ going in cc contra)
    by Cut e = absurd (let contra : true ≡ false = sym (r.sound.stands.taken_broken e) ∙ r.sound.unbroken in cc contra)

pub taken_ended : (h : ℕ) (s : State) → Rests h s → s.fed.end ≡ Ended → s.taken.end ≡ Ended
taken_ended h s r ended = by s.taken.end refl
  where
    by : (x : FlowEnd) → s.taken.end ≡ x → s.taken.end ≡ Ended
    by Open e = absurd ((r.waits e).open' ended)
    by Ended e = e
    by Cut e = absurd (let contra : true ≡ false = sym (r.sound.stands.taken_broken e) ∙ r.sound.unbroken in cc contra)

-- what came to the last shell and beyond, and what is still to come past it
pub record Goes (h m : ℕ) (taken all : List Timed) : Type 0 where
  pub more : List Timed
  pub is : all ≡ taken ++ more
  pub beyond : AreFrom (m + 1) more

-- what comes of these packets may come after what was taken
next_come : (s : State) (coming more : List Timed) → Stands s → (s.taken.end ≡ Open) ⊎ (more ≡ [])
    → MayCome s.fed coming
    → whole_out s.spec s.horizon (s.fed.packets ++ coming) ≡ s.taken.packets ++ more → AreFrom s.taken.bound more
    → MayCome s.taken more
next_come s coming more st going come is later =
    let fed = rise-append s.fed.bound s.fed.packets coming st.honest_fed.rises st.honest_fed.bounded come.later
    come.rises in
    let rises = out_rises s.spec s.horizon (length (opps_of s)) (s.fed.packets ++ coming) st.built fed in
    record {
      rises = rise_rest s.taken.packets more (subst Rise is rises);
      later = later;
      open' = going;
    }

pub line_goes : (h m : ℕ) (whole : Stream) (states : List State) (coming : List Timed) → Meet h whole states
    → whole.end ≡ Open → m ≤ whole.bound → m ≤ h → MayCome whole coming → AreFrom (m + 1) coming
    → Goes h m (last_taken whole.packets states) (last_out h (specs_of states) (whole.packets ++ coming))
line_goes h m whole [] coming meet going le within come beyond = record { more = coming; is = refl; beyond = beyond }
line_goes h m whole (s ∷ states) coming meet going le within come beyond =
    let r = meet.1 in
    let st = r.sound.stands in
    let same : s.horizon ≡ h = r.sound.horizon in
    let is : s.fed ≡ whole = meet.0 in
    let fed_open : s.fed.end ≡ Open = ap (λ (f : Stream). f.end) is ∙ going in
    let open' = taken_open h s r fed_open in
    let w = r.waits open' in
    let come' : MayCome s.fed coming = subst (λ (f : Stream). MayCome f coming) (sym is) come in
    let le' : m ≤ s.fed.bound = subst (λ (f : Stream). m ≤ f.bound) (sym is) le in
    let within' : m ≤ s.horizon = subst (λ n. m ≤ n) (sym same) within in
    let l = stays_later s m coming st r.sound.unbroken w le' within' come' beyond in
    let up = (keeps_up s st).floor w.spent in
    let floor = w.floor in
    let rest = line_goes h m s.taken states l.more meet.2 open' (omega arith) within
    (next_come s coming l.more st (inl open') come' l.is l.later) l.beyond in
    let out_is : whole_out s.spec h (whole.packets ++ coming) ≡ s.taken.packets ++ l.more =
    ap (λ n. whole_out s.spec n (whole.packets ++ coming)) (sym same)
    ∙ ap (λ (f : Stream). whole_out s.spec s.horizon (f.packets ++ coming)) (sym is) ∙ l.is in
    record {
      more = rest.more;
      is = ap (λ (a : List Timed). last_out h (specs_of states) a) out_is ∙ rest.is;
      beyond = rest.beyond;
    }

pub none_up_to : (m : ℕ) (ts : List Timed) → AreFrom (m + 1) ts → up_to m ts ≡ []
none_up_to m [] from = refl
none_up_to m (t ∷ ts) from =
    let le = from.0 in
    let not : nat_le t.moment m ≡ false = search (rules, tests) in
    ap (λ b. cond b (t ∷ up_to m ts) (up_to m ts)) not ∙ none_up_to m ts from.1

pub up_to-append : (m : ℕ) (xs ys : List Timed) → up_to m (xs ++ ys) ≡ up_to m xs ++ up_to m ys
up_to-append m xs ys = filter-append _ xs ys

-- up to a moment that the stream has reached, what left the last shell is what leaves the shells
pub line_settled : (h m : ℕ) (whole : Stream) (states : List State) → Meet h whole states → whole.end ≡ Open
    → m ≤ whole.bound → m ≤ h
    → up_to m (last_taken whole.packets states) ≡ up_to m (last_out h (specs_of states) whole.packets)
line_settled h m whole states meet going le within =
    let g = line_goes h m whole states [] meet going le within
    (record { rises = tt; later = tt; open' = inl going }) tt in
    let taken = last_taken whole.packets states in
    let is : last_out h (specs_of states) whole.packets ≡ taken ++ g.more =
    ap (λ (a : List Timed). last_out h (specs_of states) a) (sym (append-nil whole.packets)) ∙ g.is in
    sym (ap (up_to m) is ∙ up_to-append m taken g.more ∙ ap (λ (l : List Timed). up_to m taken ++ l)
    (none_up_to m g.more g.beyond) ∙ append-nil (up_to m taken))

-- where all was fed, all has left
pub line_ended : (h : ℕ) (whole : Stream) (states : List State) → Meet h whole states → whole.end ≡ Ended
    → last_taken whole.packets states ≡ last_out h (specs_of states) whole.packets
line_ended h whole [] meet ended = refl
line_ended h whole (s ∷ states) meet ended =
    let r = meet.1 in
    let is : s.fed ≡ whole = meet.0 in
    let fed_ended : s.fed.end ≡ Ended = ap (λ (f : Stream). f.end) is ∙ ended in
    let end = taken_ended h s r fed_ended in
    let out_is : s.taken.packets ≡ whole_out s.spec h whole.packets =
    (finished s r.sound.stands end).out ∙ ap (λ n. whole_out s.spec n s.fed.packets) r.sound.horizon
    ∙ ap (λ (f : Stream). whole_out s.spec h f.packets) is in
    line_ended h s.taken states meet.2 end ∙ ap (λ (a : List Timed). last_out h (specs_of states) a) out_is

pub line_passed : (h : ℕ) (whole : Stream) (states : List State) → Meet h whole states → whole.end ≡ Ended
    → HavePassed h (specs_of states) whole.packets states
line_passed h whole [] meet ended = tt
line_passed h whole (s ∷ states) meet ended =
    let r = meet.1 in
    let fed_ended : s.fed.end ≡ Ended = ap (λ (f : Stream). f.end) meet.0 ∙ ended in
    let end = taken_ended h s r fed_ended in
    (refl, r.sound.horizon, ap (λ (f : Stream). f.packets) meet.0, end, line_passed h s.taken states meet.2 end)

pub last_rises : (h : ℕ) (whole : Stream) (states : List State) → Meet h whole states → Rise whole.packets
    → Rise (last_taken whole.packets states)
last_rises h whole [] meet rises = rises
last_rises h whole (s ∷ states) meet rises = last_rises h s.taken states meet.2 meet.1.sound.stands.honest_taken.rises

-- a line's end tells that all was fed, or that it goes on
pub settled_at : (h m : ℕ) (whole : Stream) (states : List State) → Meet h whole states → (whole.end ≡ Cut → ⊥)
    → m ≤ whole.bound → m ≤ h
    → up_to m (last_taken whole.packets states) ≡ up_to m (last_out h (specs_of states) whole.packets)
settled_at h m whole states meet not le within = by whole.end refl
  where
    by : (x : FlowEnd) → whole.end ≡ x
        → up_to m (last_taken whole.packets states) ≡ up_to m (last_out h (specs_of states) whole.packets)
    by Open e = line_settled h m whole states meet e le within
    by Ended e = ap (up_to m) (line_ended h whole states meet e)
    by Cut e = absurd (not e)

number-append : (p : Packet → Bool) (xs ys : List Timed) → number p (xs ++ ys) ≡ number p xs + number p ys
number-append p [] ys = omega arith
number-append p (x ∷ xs) ys = let rest = number-append p xs ys in omega arith

taken_entered : (p : Packet → Bool) (s : State) → Stands s → number p s.fed.packets ≡ 0
    → number p s.taken.packets ≡ 0
taken_entered p s st none =
    let once = number_once p s.spec s.horizon s.burnt s.fed.packets st.built in
    let parts : number p (departures s) ≡ number p s.taken.packets + number p (ready s) =
    ap (number p) st.taken ∙ number-append p s.taken.packets (ready s) in
    omega arith

-- no packet leaves the last shell that didn't come to the first
pub line_entered : (p : Packet → Bool) (h : ℕ) (whole : Stream) (states : List State) → Meet h whole states
    → number p whole.packets ≡ 0 → number p (last_taken whole.packets states) ≡ 0
line_entered p h whole [] meet none = none
line_entered p h whole (s ∷ states) meet none =
    line_entered p h s.taken states meet.2 (taken_entered p s meet.1.sound.stands
    (ap (λ (f : Stream). number p f.packets) meet.0 ∙ none))

-- each packet that came to the first shell is lost or has left the last once at most
pub line_once : (p : Packet → Bool) (h : ℕ) (whole : Stream) (states : List State) → Meet h whole states
    → number_all p (lost_of states) + number p (last_taken whole.packets states) ≤ number p whole.packets
line_once p h whole [] meet = omega arith
line_once p h whole (s ∷ states) meet =
    let rest = line_once p h s.taken states meet.2 in
    let st = meet.1.sound.stands in
    let once = number_once p s.spec s.horizon s.burnt s.fed.packets st.built in
    let parts : number p (departures s) ≡ number p s.taken.packets + number p (ready s) =
    ap (number p) st.taken ∙ number-append p s.taken.packets (ready s) in
    let fed : number p s.fed.packets ≡ number p whole.packets = ap (λ (f : Stream). number p f.packets) meet.0 in
    omega arith

pub not_cut : (h : ℕ) (whole : Stream) (s : State) (states : List State) → Meet h whole (s ∷ states) → whole.end ≡ Cut
    → ⊥
not_cut h whole s states meet cut =
    let fed : s.fed.end ≡ Cut = ap (λ (f : Stream). f.end) meet.0 ∙ cut in
    let contra : true ≡ false = sym (meet.1.sound.stands.fed_broken fed) ∙ meet.1.sound.unbroken in cc contra

nothing_more : (xs ys : List Timed) → xs ≡ xs ++ ys → ys ≡ []
nothing_more xs ys e = let long = ap length e ∙ length-append xs ys in nil_from_length ys (omega arith)

-- where nothing may come, nothing may come of it
none_on : (h : ℕ) (s : State) (coming more : List Timed) → Rests h s → (s.fed.end ≡ Open) ⊎ (coming ≡ [])
    → whole_out s.spec s.horizon (s.fed.packets ++ coming) ≡ s.taken.packets ++ more
    → (s.taken.end ≡ Open) ⊎ (more ≡ [])
none_on h s coming more r going is = by s.taken.end refl going
  where
    by : (x : FlowEnd) → s.taken.end ≡ x → (s.fed.end ≡ Open) ⊎ (coming ≡ []) → (s.taken.end ≡ Open) ⊎ (more ≡ [])
    by Open e g = inl e
    by Ended e (inl g) = absurd (let contra : Ended ≡ Open = sym (r.sound.stands.ended e).0 ∙ g in cc contra)
    by Ended e (inr none) =
        let out_is = (finished s r.sound.stands e).out in
        let fed_is : s.fed.packets ++ coming ≡ s.fed.packets =
        ap (λ (l : List Timed). s.fed.packets ++ l) none ∙ append-nil s.fed.packets in
        inr (nothing_more s.taken.packets more
        (out_is ∙ ap (whole_out s.spec s.horizon) (sym fed_is) ∙ is))
    by Cut e g = absurd (let contra : true ≡ false = sym (r.sound.stands.taken_broken e) ∙ r.sound.unbroken
        in cc contra)

-- whatever may still come, what has left is a prefix of what leaves
pub line_front : (h : ℕ) (whole : Stream) (states : List State) (coming : List Timed) → Meet h whole states
    → MayCome whole coming
    → IsFront (last_taken whole.packets states) (last_out h (specs_of states) (whole.packets ++ coming))
line_front h whole [] coming meet come = record { more = coming; is = refl }
line_front h whole (s ∷ states) coming meet come =
    let r = meet.1 in
    let st = r.sound.stands in
    let is : s.fed ≡ whole = meet.0 in
    let come' : MayCome s.fed coming = subst (λ (f : Stream). MayCome f coming) (sym is) come in
    let f = foretells_more s st coming come' in
    let next = next_come s coming f.more st (none_on h s coming f.more r come'.open' f.departs) come' f.departs
    f.later in
    let rest = line_front h s.taken states f.more meet.2 next in
    let out_is : whole_out s.spec h (whole.packets ++ coming) ≡ s.taken.packets ++ f.more =
    ap (λ n. whole_out s.spec n (whole.packets ++ coming)) (sym r.sound.horizon)
    ∙ ap (λ (g : Stream). whole_out s.spec s.horizon (g.packets ++ coming)) (sym is) ∙ f.departs in
    record {
      more = rest.more;
      is = ap (λ (a : List Timed). last_out h (specs_of states) a) out_is ∙ rest.is;
    }
