-- The code's parts and the state that they make.
use Rattle.std.proofs.Common.{◌≡◌, ◌⊎◌, inl, inr, ℕ, zero, suc, ◌-◌, ◌≤◌, ◌<◌, ◌==◌, ◌&&◌, Bool, true, false, cond}
use Rattle.std.proofs.Common.{List, [], ◌∷◌, length, drop, nat_le, nat_lt, ap, sym, subst, ◌∙◌, refl, arith, rules}
use Rattle.std.proofs.Common.{tests}
use Rattle.packet_record.specs.declared.packet.Timed.{Timed}
use Rattle.packet_record.specs.declared.item.Item.{Item}
use Rattle.packet_record.specs.declared.item.Item.TheVariants.{Packet, Mark, End, Broken}
use Rattle.packet_record.specs.declared.item.FlowEnd.TheVariants.{Open, Ended, Broken as Cut}
use Rattle.packet_record.specs.declared.reach.Reach.{Reach}
use Rattle.packet_record.specs.Streams.{stream, MayFollow, IsUpTo}
use Rattle.packet_record.specs.Reaches.{nowhere, reach_after, IsNext}
use Rattle.packet_record.specs.Moments.{AreFrom, AreUpTo}
use Rattle.packet_record.proofs.MomentsLemmas.{up_to_higher}
use Rattle.shell_state.specs.declared.spec.DirSpec.{DirSpec}
use Rattle.link_core.specs.Promises.{count_to}
use Rattle.shell_state.specs.Shells.{IsBuilt, opportunities}
use Rattle.shell_state.specs.CoreParts.{CorePart, new_part, with_burnt as core_burnt}
use Rattle.shell_state.proofs.Laws.{all_at_horizon}
use Rattle.shell_state.proofs.Counting.{count_to-grows}
use Rattle.shell_state.specs.declared.front.Front.{Front}
use Rattle.shell_state.specs.declared.taken.Taken.{Taken}
use Rattle.shell_state.specs.declared.taken.Taken.TheVariants.{Item as Gives, Again, NotYet}
use Rattle.shell_state.specs.States.{State, new_state, opps_of, ready, floor_of}
use Rattle.shell_state.specs.Steps.{is_ended, licensed, burns, burns_where, with_burnt, with_answer, answer_where}
use Rattle.shell_state.specs.Steps.{answer_after, answer_of, after_take, after_feed, fed_more, breaks}
use Rattle.shell_state.specs.Standing.{Stands}
use Rattle.shell_state.specs.inside.Fronts.{no_front}
use Rattle.shell_state.specs.views.Whole.{departed_of, state_of}
use Rattle.shell_state.specs.inside.Fed.{core_fed, IsState, IsWhole, front_with, AnswerFollows}
use Rattle.shell_state.proofs.FrontLemmas.{same_ready, front_stays, front_within, next}
use Rattle.shell_state.proofs.Keeping.{burnt_keeps, fed_keeps, answer_keeps, burns-le}

-- answers
pub nothing_burns : (core : CorePart) (fed : Reach) (taken : Front) (most : ℕ)
    → taken.count < length (departed_of core) → 0 ≡ burns (state_of core fed taken false) most
nothing_burns core fed taken most lt =
    let d = departed_of core in
    sym (ap (λ r. burns_where r s most) (same_ready taken.count d lt) ∙ by d taken.count lt)
  where
    s : State
    s = state_of core fed taken false

    by : (d : List Timed) (k : ℕ) → k < length d → burns_where (drop k d) s most ≡ 0
    by [] k lt = absurd (omega arith)
    by (t ∷ ts) zero lt = refl
    by (t ∷ ts) (suc k) lt = by ts k (omega arith)

pub answer_follows : (s : State) (n most : ℕ) → Stands s → AnswerFollows s.taken.bound (answer_after s n most)
answer_follows s n most st = by (ready s) refl
  where
    third : (b : Bool) → AnswerFollows s.taken.bound (cond b (Again n) (NotYet s.fed.bound))
    third true = tt
    third false = tt

    second : (b : Bool) → nat_lt s.taken.bound (floor_of s) ≡ b
        → AnswerFollows s.taken.bound (cond b (Gives (Mark (floor_of s)))
        (cond (n == most) (Again n) (NotYet s.fed.bound)))
    second true e = let lt : s.taken.bound < floor_of s = search (rules, tests) in omega arith
    second false e = third (n == most)

    first : (b : Bool) → AnswerFollows s.taken.bound
        (cond b (Gives End) (cond (nat_lt s.taken.bound (floor_of s)) (Gives (Mark (floor_of s)))
        (cond (n == most) (Again n) (NotYet s.fed.bound))))
    first true = tt
    first false = second (nat_lt s.taken.bound (floor_of s)) refl

    by : (r : List Timed) → ready s ≡ r → AnswerFollows s.taken.bound (answer_where r s n most)
    by [] e = first (is_ended s.fed.end && nat_le (length (opps_of s)) s.burnt)
    by (t ∷ ts) e = (subst (AreFrom s.taken.bound) e st.waits).0

-- a state with another front
abbrev with_front : State → List Timed → State
with_front s l = record {
  spec = s.spec;
  horizon = s.horizon;
  fed = s.fed;
  taken = stream l s.taken.bound s.taken.end;
  burnt = s.burnt;
  broken = s.broken;
}

-- the first state
from_zero : (ts : List Timed) → AreFrom 0 ts
from_zero [] = tt
from_zero (t ∷ ts) = (omega arith, from_zero ts)

pub new_stands : (c : DirSpec) (h : ℕ) → IsBuilt c → Stands (new_state c h)
new_stands c h built = record {
  built = built;
  honest_fed = record { rises = tt; bounded = tt; within = tt; bound = omega arith };
  honest_taken = record { rises = tt; bounded = tt; within = tt; bound = omega arith };
  covered = tt;
  allowed = omega arith;
  taken = refl;
  waits = from_zero (ready (new_state c h));
  floor = omega arith;
  ended = λ e. absurd (let no : Open ≡ Ended = e in cc no);
  fed_broken = λ e. absurd (let no : Open ≡ Cut = e in cc no);
  taken_broken = λ e. absurd (let no : Open ≡ Cut = e in cc no);
}

pub whole_new : (c : DirSpec) (h : ℕ) (core : CorePart) (fed : Reach) (taken : Front) → IsBuilt c
    → core ≡ new_part c h → fed ≡ nowhere → taken ≡ no_front → IsWhole core fed taken false
whole_new c h core fed taken built ec ef et =
    subst (λ (k : CorePart). IsWhole k fed taken false) (sym ec)
    (subst (λ (r : Reach). IsWhole (new_part c h) r taken false) (sym ef)
    (subst (λ (f : Front). IsWhole (new_part c h) nowhere f false) (sym et)
    (record { counted = omega arith; stands = new_stands c h built })))

pub follows_packet : (r : Reach) (item : Item) (t : Timed) → item ≡ Packet t → IsNext r item → IsNext r (Packet t)
follows_packet r item t e m = subst (IsNext r) e m

pub arrives_in_order : (core : CorePart) (fed : Reach) (t : Timed) → IsState core fed → fed.bound ≤ t.moment
    → AreUpTo t.moment core.arrivals
arrives_in_order core fed t is le = up_to_higher fed.bound t.moment core.arrivals le is.bounded

pub arrives_burnt : (core : CorePart) (fed : Reach) (t : Timed) → IsState core fed → IsNext fed (Packet t)
    → core.burnt ≤ count_to (opportunities core.spec core.horizon) t.moment
arrives_burnt core fed t is m = let a = is.allowed m.0
    in let g = count_to-grows (opportunities core.spec core.horizon) fed.bound t.moment m.1 in omega arith

pub not_broken : (core : CorePart) (fed : Reach) (taken : Front) (b : Bool) → b ≡ false → IsWhole core fed taken b
    → IsWhole core fed taken false
not_broken core fed taken b e w = subst (IsWhole core fed taken) e w

pub may_feed : (s v : State) (item : Item) → s ≡ v → s.broken ≡ false → MayFollow v.fed item ⊎ (v.broken ≡ true)
    → MayFollow s.fed item
may_feed s v item e whole (inl m) = subst (λ (x : State). MayFollow x.fed item) (sym e) m
may_feed s v item e whole (inr b) = absurd (let no : true ≡ false = sym b ∙ ap (λ (x : State). x.broken) (sym e)
    ∙ whole in cc no)

-- after a feed
fed_state : (core : CorePart) (fed : Reach) (taken : Front) (item : Item) → IsWhole core fed taken false
    → IsNext fed item → IsUpTo core.horizon item
    → state_of (core_fed core item) (reach_after fed item) taken (breaks item) ≡ fed_more
    (state_of core fed taken false) item
fed_state core fed taken (Packet t) w m u =
    let s' = fed_more (state_of core fed taken false) (Packet t) in
    let st = fed_keeps (state_of core fed taken false) (Packet t) w.stands refl m u in
    ap (with_front s') (front_stays taken.count (departed_of core) (departed_of (core_fed core (Packet t))) (ready s')
    w.counted st.taken)
fed_state core fed taken (Mark n) w m u = refl
fed_state core fed taken End w m u = refl
fed_state core fed taken Broken w m u = refl

fed_counted : (core : CorePart) (fed : Reach) (taken : Front) (item : Item) → IsWhole core fed taken false
    → IsNext fed item → IsUpTo core.horizon item → taken.count ≤ length (departed_of (core_fed core item))
fed_counted core fed taken (Packet t) w m u =
    let s' = fed_more (state_of core fed taken false) (Packet t) in
    let st = fed_keeps (state_of core fed taken false) (Packet t) w.stands refl m u in
    front_within taken.count (departed_of core) (departed_of (core_fed core (Packet t))) (ready s') w.counted st.taken
fed_counted core fed taken (Mark n) w m u = w.counted
fed_counted core fed taken End w m u = w.counted
fed_counted core fed taken Broken w m u = w.counted

pub whole_fed : (core : CorePart) (fed : Reach) (taken : Front) (item : Item) (core' : CorePart) (fed' : Reach)
    (b' : Bool) → IsWhole core fed taken false → IsNext fed item → IsUpTo core.horizon item
    → core' ≡ core_fed core item → fed' ≡ reach_after fed item → b' ≡ breaks item → IsWhole core' fed' taken b'
whole_fed core fed taken item core' fed' b' w m u ec ef eb =
    subst (λ (k : CorePart). IsWhole k fed' taken b') (sym ec)
    (subst (λ (r : Reach). IsWhole (core_fed core item) r taken b') (sym ef)
    (subst (λ (b : Bool). IsWhole (core_fed core item) (reach_after fed item) taken b) (sym eb)
    (record {
      counted = fed_counted core fed taken item w m u;
      stands = subst Stands (sym (fed_state core fed taken item w m u))
          (fed_keeps (state_of core fed taken false) item w.stands refl m u);
    })))

pub fed_is : (core : CorePart) (fed : Reach) (taken : Front) (item : Item) (b : Bool) (core' : CorePart)
    (fed' : Reach) (b' : Bool) → b ≡ false → IsWhole core fed taken b → IsNext fed item → IsUpTo core.horizon item
    → core' ≡ core_fed core item → fed' ≡ reach_after fed item → b' ≡ breaks item
    → state_of core' fed' taken b' ≡ after_feed (state_of core fed taken b) item
unfolding after_feed
fed_is core fed taken item b core' fed' b' whole w m u ec ef eb =
    ap (λ (k : CorePart). state_of k fed' taken b') ec
    ∙ ap (λ (r : Reach). state_of (core_fed core item) r taken b') ef
    ∙ ap (λ (x : Bool). state_of (core_fed core item) (reach_after fed item) taken x) eb
    ∙ fed_state core fed taken item (not_broken core fed taken b whole w) m u
    ∙ sym (ap (λ (x : Bool). cond x (state_of core fed taken x) (fed_more (state_of core fed taken x) item)) whole)

-- after burning
burnt_keeps_whole : (core : CorePart) (fed : Reach) (taken : Front) (n most : ℕ) → IsWhole core fed taken false
    → taken.reach.end ≡ Open → n ≡ burns (state_of core fed taken false) most
    → Stands (with_burnt (state_of core fed taken false) n)
burnt_keeps_whole core fed taken n most w open' en =
    let s = state_of core fed taken false in
    burnt_keeps s n w.stands open' (subst (λ k. k ≤ licensed s - s.burnt) (sym en) (burns-le s most))

burnt_is : (core : CorePart) (fed : Reach) (taken : Front) (n most : ℕ) → IsWhole core fed taken false
    → taken.reach.end ≡ Open → n ≡ burns (state_of core fed taken false) most
    → state_of (core_burnt core n) fed taken false ≡ with_burnt (state_of core fed taken false) n
burnt_is core fed taken n most w open' en =
    let s' = with_burnt (state_of core fed taken false) n in
    let st = burnt_keeps_whole core fed taken n most w open' en in
    ap (with_front s') (front_stays taken.count (departed_of core) (departed_of (core_burnt core n)) (ready s')
    w.counted st.taken)

burnt_whole : (core : CorePart) (fed : Reach) (taken : Front) (core' : CorePart) (n most : ℕ)
    → IsWhole core fed taken false → taken.reach.end ≡ Open → n ≡ burns (state_of core fed taken false) most
    → core' ≡ core_burnt core n
    → IsWhole core' fed taken false
burnt_whole core fed taken core' n most w open' en ec =
    let s' = with_burnt (state_of core fed taken false) n in
    let st = burnt_keeps_whole core fed taken n most w open' en in
    subst (λ (k : CorePart). IsWhole k fed taken false) (sym ec)
    (record {
      counted = front_within taken.count (departed_of core) (departed_of (core_burnt core n)) (ready s') w.counted
          st.taken;
      stands = subst Stands (sym (burnt_is core fed taken n most w open' en)) st;
    })

-- the packet of an answer is the first that is ready
abbrev Tells : List Timed → Taken → Type 0
Tells r (Gives (Packet t)) = (ts : List Timed) × (r ≡ t ∷ ts)
Tells r (Gives (Mark m)) = Unit {0}
Tells r (Gives End) = Unit {0}
Tells r (Gives Broken) = Unit {0}
Tells r (Again n) = Unit {0}
Tells r (NotYet m) = Unit {0}

tells : (s : State) (n most : ℕ) → Tells (ready s) (answer_after s n most)
tells s n most = by (ready s)
  where
    third : (b : Bool) → Tells [] (cond b (Again n) (NotYet s.fed.bound))
    third true = tt
    third false = tt

    second : (b : Bool) → Tells [] (cond b (Gives (Mark (floor_of s)))
        (cond (n == most) (Again n) (NotYet s.fed.bound)))
    second true = tt
    second false = third (n == most)

    first : (b : Bool) → Tells [] (cond b (Gives End)
        (cond (nat_lt s.taken.bound (floor_of s)) (Gives (Mark (floor_of s)))
        (cond (n == most) (Again n) (NotYet s.fed.bound))))
    first true = tt
    first false = second (nat_lt s.taken.bound (floor_of s))

    by : (r : List Timed) → Tells r (answer_where r s n most)
    by [] = first (is_ended s.fed.end && nat_le (length (opps_of s)) s.burnt)
    by (t ∷ ts) = (ts, refl)

-- after an answer
put_state : (core : CorePart) (fed : Reach) (taken : Front) (a : Taken) → IsWhole core fed taken false
    → Tells (ready (state_of core fed taken false)) a
    → state_of core fed (front_with taken a) false ≡ with_answer (state_of core fed taken false) a
put_state core fed taken (Gives (Packet t)) w told =
    let s = state_of core fed taken false in
    ap (with_front (with_answer s (Gives (Packet t))))
    (next taken.count (departed_of core) t told.0 (ready s) w.counted w.stands.taken told.1).is
put_state core fed taken (Gives (Mark m)) w told = refl
put_state core fed taken (Gives End) w told = refl
put_state core fed taken (Gives Broken) w told = refl
put_state core fed taken (Again n) w told = refl
put_state core fed taken (NotYet m) w told = refl

put_counted : (core : CorePart) (fed : Reach) (taken : Front) (a : Taken) → IsWhole core fed taken false
    → Tells (ready (state_of core fed taken false)) a → (front_with taken a).count ≤ length (departed_of core)
put_counted core fed taken (Gives (Packet t)) w told =
    (next taken.count (departed_of core) t told.0 (ready (state_of core fed taken false)) w.counted w.stands.taken
    told.1).counted
put_counted core fed taken (Gives (Mark m)) w told = w.counted
put_counted core fed taken (Gives End) w told = w.counted
put_counted core fed taken (Gives Broken) w told = w.counted
put_counted core fed taken (Again n) w told = w.counted
put_counted core fed taken (NotYet m) w told = w.counted

-- after a take
told_by : (s : State) (n most : ℕ) (a : Taken) → a ≡ answer_after s n most → Tells (ready s) a
told_by s n most a e = subst (Tells (ready s)) (sym e) (tells s n most)

-- what the steps of a take make
pub record Steps (core : CorePart) (fed : Reach) (taken : Front) (core' : CorePart) (taken' : Front) (n most : ℕ)
    (answer : Taken) : Type 0 where
  pub open' : taken.reach.end ≡ Open
  pub burnt : n ≡ burns (state_of core fed taken false) most
  pub core_is : core' ≡ core_burnt core n
  pub answer_is : answer ≡ answer_after (state_of core' fed taken false) n most
  pub taken_is : taken' ≡ front_with taken answer

pub take_follows : (core : CorePart) (fed : Reach) (taken : Front) (core' : CorePart) (n most : ℕ) (answer : Taken)
    → IsWhole core fed taken false → taken.reach.end ≡ Open
    → n ≡ burns (state_of core fed taken false) most → core' ≡ core_burnt core n
    → answer ≡ answer_after (state_of core' fed taken false) n most → AnswerFollows taken.reach.bound answer
take_follows core fed taken core' n most answer w open' en ec ea =
    subst (AnswerFollows taken.reach.bound) (sym ea)
    (answer_follows (state_of core' fed taken false) n most
    (burnt_whole core fed taken core' n most w open' en ec).stands)

pub whole_taken : (core : CorePart) (fed : Reach) (taken : Front) (core' : CorePart) (taken' : Front) (n most : ℕ)
    (answer : Taken) → IsWhole core fed taken false → Steps core fed taken core' taken' n most answer
    → IsWhole core' fed taken' false
whole_taken core fed taken core' taken' n most answer w e =
    let s = state_of core' fed taken false in
    let wb = burnt_whole core fed taken core' n most w e.open' e.burnt e.core_is in
    let told = told_by s n most answer e.answer_is in
    let st = subst (λ (a : Taken). Stands (with_answer s a)) (sym e.answer_is)
    (answer_keeps s n most wb.stands e.open') in
    subst (λ (f : Front). IsWhole core' fed f false) (sym e.taken_is)
    (record {
      counted = put_counted core' fed taken answer wb told;
      stands = subst Stands (sym (put_state core' fed taken answer wb told)) st;
    })

burnt_state : (core : CorePart) (fed : Reach) (taken : Front) (core' : CorePart) (taken' : Front) (n most : ℕ)
    (answer : Taken) → IsWhole core fed taken false → Steps core fed taken core' taken' n most answer
    → state_of core' fed taken false ≡ with_burnt (state_of core fed taken false) n
burnt_state core fed taken core' taken' n most answer w e =
    ap (λ (k : CorePart). state_of k fed taken false) e.core_is ∙ burnt_is core fed taken n most w e.open' e.burnt

taken_state : (core : CorePart) (fed : Reach) (taken : Front) (core' : CorePart) (taken' : Front) (n most : ℕ)
    (answer : Taken) → IsWhole core fed taken false → Steps core fed taken core' taken' n most answer
    → state_of core' fed taken' false ≡ with_answer (with_burnt (state_of core fed taken false) n) answer
taken_state core fed taken core' taken' n most answer w e =
    let wb = burnt_whole core fed taken core' n most w e.open' e.burnt e.core_is in
    let told = told_by (state_of core' fed taken false) n most answer e.answer_is in
    ap (λ (f : Front). state_of core' fed f false) e.taken_is
    ∙ put_state core' fed taken answer wb told
    ∙ ap (λ (v : State). with_answer v answer) (burnt_state core fed taken core' taken' n most answer w e)

answered : (core : CorePart) (fed : Reach) (taken : Front) (core' : CorePart) (taken' : Front) (n most : ℕ)
    (answer : Taken) → IsWhole core fed taken false → Steps core fed taken core' taken' n most answer
    → answer ≡ answer_of (state_of core fed taken false) most
unfolding answer_of
answered core fed taken core' taken' n most answer w e =
    let s = state_of core fed taken false in
    e.answer_is
    ∙ ap (λ (v : State). answer_after v n most) (burnt_state core fed taken core' taken' n most answer w e)
    ∙ ap (λ k. answer_after (with_burnt s k) k most) e.burnt

took : (core : CorePart) (fed : Reach) (taken : Front) (core' : CorePart) (taken' : Front) (n most : ℕ)
    (answer : Taken) → IsWhole core fed taken false → Steps core fed taken core' taken' n most answer
    → state_of core' fed taken' false ≡ after_take (state_of core fed taken false) most
unfolding after_take
took core fed taken core' taken' n most answer w e =
    let s = state_of core fed taken false in
    taken_state core fed taken core' taken' n most answer w e
    ∙ ap (λ k. with_answer (with_burnt s k) answer) e.burnt
    ∙ ap (with_answer (with_burnt s (burns s most))) (answered core fed taken core' taken' n most answer w e)

pub take_is : (core : CorePart) (fed : Reach) (taken : Front) (b : Bool) (core' : CorePart) (taken' : Front)
    (n most : ℕ) (answer : Taken) → b ≡ false → IsWhole core fed taken b
    → Steps core fed taken core' taken' n most answer
    → (answer ≡ answer_of (state_of core fed taken b) most)
    × (state_of core' fed taken' b ≡ after_take (state_of core fed taken b) most)
take_is core fed taken b core' taken' n most answer whole w e =
    let Is : Bool → Type 0 = λ x. (answer ≡ answer_of (state_of core fed taken x) most)
    × (state_of core' fed taken' x ≡ after_take (state_of core fed taken x) most) in
    let w' = not_broken core fed taken b whole w in
    subst Is (sym whole) (
      answered core fed taken core' taken' n most answer w' e,
      took core fed taken core' taken' n most answer w' e,
    )

pub licence_ended : (s : State) (m : ℕ) → s.fed.end ≡ Ended → m ≡ s.horizon → count_to (opps_of s) m ≡ licensed s
licence_ended s m e h =
    ap (count_to (opps_of s)) h ∙ all_at_horizon s.spec s.horizon
    ∙ ap (λ x. cond (is_ended x) (length (opps_of s)) (count_to (opps_of s) s.fed.bound)) (sym e)
