-- A merge without the packets that were given takes the steps of the whole merge.
use Rattle.std.proofs.Common.{◌≡◌, ℕ, zero, suc, ◌+◌, ◌-◌, ◌<◌, Bool, not, ◌&&◌, ◌||◌, cond, ltb, eqb}
use Rattle.std.proofs.Common.{List, [], ◌∷◌, length, map, get_or, set, drop, replicate, refl, ap, sym, subst, ◌∙◌}
use Rattle.std.proofs.Common.{Option, Some, None, is_some, is_none, option_map, slice_get, unwrap_or, arith}
use Rattle.std.specs.List.{list_all, list_any}
use Rattle.std.proofs.Math.ListN.{get_or-map, length-set}
use Rattle.std.proofs.lemmas.List.{length-map, map-set, set-get_or}
use Rattle.packet_record.specs.declared.packet.Timed.{Timed}
use Rattle.packet_record.specs.declared.item.Item.{Item}
use Rattle.packet_record.specs.declared.item.Item.TheVariants.{Packet, Mark, End, Broken}
use Rattle.packet_record.specs.declared.item.FlowEnd.TheVariants.{Open}
use Rattle.packet_record.specs.declared.reach.Reach.{Reach}
use Rattle.packet_record.specs.Reaches.{IsNext, reach_after}
use Rattle.packet_record.specs.Streams.{Stream, after, stream, MayFollow}
use Rattle.mark_channel.specs.Ends.{End as ChannelEnd, IsSameEnd}
use Rattle.sender_merge.specs.declared.inlet.Inlet.{Inlet}
use Rattle.sender_merge.specs.declared.thin_merge.ThinMerge.{ThinMerge}
use Rattle.sender_merge.specs.declared.step.Head.{Head}
use Rattle.sender_merge.specs.declared.step.MergeStep.{MergeStep}
use Rattle.sender_merge.specs.declared.step.MergeStep.TheVariants.{Item as Gives, Need}
use Rattle.sender_merge.specs.Inflows.{Inflow, Merging, after_add, fresh, has_ended, head_of, inflow, is_broken}
use Rattle.sender_merge.specs.Inflows.{sender_at, with_item, with_passed}
use Rattle.sender_merge.specs.Laws.{IfNeeds, IsNeeded, MayFollowStep}
use Rattle.sender_merge.specs.Steps.{all_clear, bound_of, candidate, candidate_from, clears, earlier, head, is_needed}
use Rattle.sender_merge.specs.Steps.{lesser, mark_or_need, merged_bound, moment_or, needed_from, passing}
use Rattle.sender_merge.specs.Steps.{after_step, next_step, senders_after, step_at, step_of}
use Rattle.sender_merge.specs.inside.Inlets.{AllClosed, AllSame, AllWithin, AreAdded, IsMerged}
use Rattle.sender_merge.specs.inside.Laws.{SomeOpen}
use Rattle.sender_merge.specs.inside.Standing.{AllSound, IsSound, Stands}
use Rattle.sender_merge.specs.inside.Thins.{IsThin, Keeps, MaySend, forgetting, senders_left, thin, without_first}
use Rattle.sender_merge.proofs.Adding.{added_at, drop-append, front, stands-added}
use Rattle.sender_merge.proofs.Inletting.{Goes, added-at, added-long, added-set, added-step, added-within, end-after}
use Rattle.sender_merge.proofs.Inletting.{merged, received-on, sent-on}
use Rattle.sender_merge.proofs.Keeping.{given_at}
use Rattle.sender_merge.proofs.Stepping.{get_or_any, some_open, stands-step, step_follows, step_needs}

head-drop : (n : ℕ) (xs : List Timed) → slice_get (drop n xs) 0 ≡ slice_get xs n
head-drop zero [] = refl
head-drop (suc n) [] = refl
head-drop zero (x ∷ xs) = refl
head-drop (suc n) (x ∷ xs) = head-drop n xs

head-thin : (s : Inflow) → head_of (thin s) ≡ head_of s
head-thin s = head-drop s.passed s.flow.packets

candidate-thin : (k : ℕ) (ss : List Inflow) → candidate_from k (map thin ss) ≡ candidate_from k ss
candidate-thin k [] = refl
candidate-thin k (s ∷ ss) =
    ap (λ (h : Option Timed). earlier (option_map (head k) h) (candidate_from (k + 1) (map thin ss))) (head-thin s)
    ∙ ap (earlier (option_map (head k) (head_of s))) (candidate-thin (k + 1) ss)

broken-thin : (ss : List Inflow) → list_any is_broken (map thin ss) ≡ list_any is_broken ss
broken-thin [] = refl
broken-thin (s ∷ ss) = ap (λ (t : Bool). is_broken s || t) (broken-thin ss)

ended-thin : (ss : List Inflow) → list_all has_ended (map thin ss) ≡ list_all has_ended ss
ended-thin [] = refl
ended-thin (s ∷ ss) = ap (λ (t : Bool). has_ended s && t) (ended-thin ss)

clears-thin : (c : Head) (k : ℕ) (s : Inflow) → clears c k (thin s) ≡ clears c k s
clears-thin c k s = ap (λ (h : Option Timed). is_some h || has_ended s || ltb c.packet.moment s.flow.bound
    || (eqb s.flow.bound c.packet.moment && ltb c.sender k)) (head-thin s)

clear-thin : (c : Head) (k : ℕ) (ss : List Inflow) → all_clear c k (map thin ss) ≡ all_clear c k ss
clear-thin c k [] = refl
clear-thin c k (s ∷ ss) = ap (λ (t : Bool). t && all_clear c (k + 1) (map thin ss)) (clears-thin c k s)
    ∙ ap (λ (t : Bool). clears c k s && t) (clear-thin c (k + 1) ss)

merged_bound-thin : (ss : List Inflow) → merged_bound (map thin ss) ≡ merged_bound ss
merged_bound-thin [] = refl
merged_bound-thin (s ∷ ss) =
    ap (λ (h : Option Timed). lesser (cond (has_ended s) None (Some (moment_or s.flow.bound h)))
    (merged_bound (map thin ss))) (head-thin s)
    ∙ ap (lesser (bound_of s)) (merged_bound-thin ss)

is_needed-thin : (o : Option Head) (k : ℕ) (s : Inflow) → is_needed o k (thin s) ≡ is_needed o k s
is_needed-thin None k s = ap (λ (h : Option Timed). not (has_ended s) && is_none h) (head-thin s)
is_needed-thin (Some c) k s =
    ap (λ (h : Option Timed). not (has_ended s) && is_none h && not (clears c k (thin s))) (head-thin s)
    ∙ ap (λ (t : Bool). not (has_ended s) && is_none (head_of s) && not t) (clears-thin c k s)

needed-thin : (o : Option Head) (k : ℕ) (ss : List Inflow) → needed_from o k (map thin ss) ≡ needed_from o k ss
needed-thin o k [] = refl
needed-thin o k (s ∷ ss) =
    ap (λ (t : Bool). cond t (Some k) (needed_from o (k + 1) (map thin ss))) (is_needed-thin o k s)
    ∙ ap (λ (r : Option ℕ). cond (is_needed o k s) (Some k) r) (needed-thin o (k + 1) ss)

mark_or_need-thin : (o : Option Head) (r : Option ℕ) (ss : List Inflow) (g : ℕ)
    → mark_or_need o r (map thin ss) g ≡ mark_or_need o r ss g
mark_or_need-thin o None ss g = ap (λ (n : Option ℕ). Need (unwrap_or n 0)) (needed-thin o 1 ss)
mark_or_need-thin o (Some b) ss g =
    ap (λ (n : Option ℕ). cond (ltb g b) (Gives (Mark b)) (Need (unwrap_or n 0))) (needed-thin o 1 ss)

mark-thin : (o : Option Head) (ss : List Inflow) (g : ℕ)
    → mark_or_need o (merged_bound (map thin ss)) (map thin ss) g ≡ mark_or_need o (merged_bound ss) ss g
mark-thin o ss g = ap (λ (r : Option ℕ). mark_or_need o r (map thin ss) g) (merged_bound-thin ss)
    ∙ mark_or_need-thin o (merged_bound ss) ss g

step_at-thin : (o : Option Head) (ss : List Inflow) (g : ℕ) → step_at o (map thin ss) g ≡ step_at o ss g
step_at-thin None ss g =
    ap (λ (t : Bool). cond t (Gives End) (mark_or_need None (merged_bound (map thin ss)) (map thin ss) g))
    (ended-thin ss)
    ∙ ap (λ (r : MergeStep). cond (list_all has_ended ss) (Gives End) r) (mark-thin None ss g)
step_at-thin (Some c) ss g =
    ap (λ (t : Bool). cond t (Gives (Packet c.packet))
    (mark_or_need (Some c) (merged_bound (map thin ss)) (map thin ss) g)) (clear-thin c 1 ss)
    ∙ ap (λ (r : MergeStep). cond (all_clear c 1 ss) (Gives (Packet c.packet)) r) (mark-thin (Some c) ss g)

-- it takes the same step
pub step-thin : (ss : List Inflow) (g : ℕ) → step_of (map thin ss) g ≡ step_of ss g
step-thin ss g =
    ap (λ (t : Bool). cond t (Gives Broken) (step_at (candidate (map thin ss)) (map thin ss) g)) (broken-thin ss)
    ∙ ap (λ (o : Option Head). cond (list_any is_broken ss) (Gives Broken) (step_at o (map thin ss) g))
    (candidate-thin 1 ss)
    ∙ ap (λ (r : MergeStep). cond (list_any is_broken ss) (Gives Broken) r) (step_at-thin (candidate ss) ss g)

item-thin : (s : Inflow) (x : Item) → IsSound s → with_item (thin s) x ≡ thin (with_item s x)
item-thin s (Packet t) sound = ap (λ (ts : List Timed). inflow (stream ts t.moment s.flow.end) 0)
    (sym (drop-append s.passed s.flow.packets (t ∷ []) sound.few))
item-thin s (Mark m) sound = refl
item-thin s End sound = refl
item-thin s Broken sound = refl

sound-at : (i : ℕ) (ss : List Inflow) → i < length ss → AllSound ss → IsSound (get_or ss i fresh)
sound-at i [] lt all = absurd (omega arith)
sound-at zero (s ∷ ss) lt all = all.0
sound-at (suc i) (s ∷ ss) lt all = sound-at i ss (omega arith) all.1

-- the sender at an index
pub at-thin : (i : ℕ) (ss : List Inflow) → get_or (map thin ss) i fresh ≡ thin (get_or ss i fresh)
at-thin i ss = get_or-map thin ss i fresh

-- one item more is added to the same senders
pub added-thin : (i : ℕ) (ss : List Inflow) (x : Item) → i < length ss → AllSound ss
    → added_at (map thin ss) i x ≡ map thin (added_at ss i x)
added-thin i ss x lt all =
    ap (λ (s : Inflow). set (map thin ss) i (with_item s x)) (at-thin i ss)
    ∙ ap (set (map thin ss) i) (item-thin (get_or ss i fresh) x (sound-at i ss lt all))
    ∙ sym (map-set thin ss i (with_item (get_or ss i fresh) x))

drop-one : (n : ℕ) (xs : List Timed) → drop 1 (drop n xs) ≡ drop (suc n) xs
drop-one zero [] = refl
drop-one (suc n) [] = refl
drop-one zero (x ∷ xs) = refl
drop-one (suc n) (x ∷ xs) = drop-one n xs

first-thin : (s : Inflow) → without_first (thin s) ≡ thin (with_passed s)
first-thin s = let e : suc s.passed ≡ s.passed + 1 = omega arith in
    ap (λ (ts : List Timed). inflow (stream ts s.flow.bound s.flow.end) 0)
    (drop-one s.passed s.flow.packets ∙ ap (λ (n : ℕ). drop n s.flow.packets) e)

given-thin : (i : ℕ) (ss : List Inflow)
    → set (map thin ss) i (without_first (get_or (map thin ss) i fresh)) ≡ map thin (given_at ss i)
given-thin i ss =
    ap (λ (s : Inflow). set (map thin ss) i (without_first s)) (at-thin i ss)
    ∙ ap (set (map thin ss) i) (first-thin (get_or ss i fresh))
    ∙ sym (map-set thin ss i (with_passed (get_or ss i fresh)))

forgetting-thin : (o : Option Head) (ss : List Inflow) → forgetting o (map thin ss) ≡ map thin (passing o ss)
forgetting-thin None ss = refl
forgetting-thin (Some c) ss = given-thin (c.sender - 1) ss

-- the same packet is given
pub left-thin : (ss : List Inflow) (x : Item) → senders_left (map thin ss) x ≡ map thin (senders_after ss x)
left-thin ss (Packet t) = ap (λ (o : Option Head). forgetting o (map thin ss)) (candidate-thin 1 ss)
    ∙ forgetting-thin (candidate ss) ss
left-thin ss (Mark m) = refl
left-thin ss End = refl
left-thin ss Broken = refl

-- nothing is left out before anything was added
pub fresh-thin : (n : ℕ) → map thin (replicate n fresh) ≡ replicate n fresh
fresh-thin zero = refl
fresh-thin (suc n) = ap (λ (ss : List Inflow). fresh ∷ ss) (fresh-thin n)

-- a merge takes the same step without the packets that were given
pub next-thin : (m : Merging) (core : ThinMerge) → IsThin m core
    → step_of core.senders.items core.given.bound ≡ next_step m
next-thin m core is = ap (λ (ss : List Inflow). step_of ss core.given.bound) is.senders
    ∙ ap (step_of (map thin m.senders)) is.bound
    ∙ step-thin m.senders m.given.bound

reach-thin : (r : Reach) (f : Stream) (x : Item) → r.bound ≡ f.bound → r.end ≡ f.end
    → ((reach_after r x).bound ≡ (after f x).bound) × ((reach_after r x).end ≡ (after f x).end)
reach-thin r f (Packet t) bound end = (refl, end)
reach-thin r f (Mark b) bound end = (refl, end)
reach-thin r f End bound end = (bound, refl)
reach-thin r f Broken bound end = (bound, refl)

-- it is that merge after a step too
pub after-thin : (m : Merging) (core new : ThinMerge) (x : Item) → IsThin m core
    → new.senders.items ≡ senders_left core.senders.items x → new.given ≡ reach_after core.given x
    → IsThin (after_step m (Gives x)) new
after-thin m core new x is senders given =
    let reach = reach-thin core.given m.given x is.bound is.end in
    record {
      senders = senders ∙ ap (λ (ss : List Inflow). senders_left ss x) is.senders ∙ left-thin m.senders x;
      bound = ap (λ (r : Reach). r.bound) given ∙ reach.0;
      end = ap (λ (r : Reach). r.end) given ∙ reach.1;
    }

is_next : (r : Reach) (f : Stream) (x : Item) → r.bound ≡ f.bound → r.end ≡ f.end → MayFollow f x → IsNext r x
is_next r f (Packet t) bound end may = (end ∙ may.0, let le = may.1 in omega arith)
is_next r f (Mark b) bound end may = (end ∙ may.0, let le = may.1 in omega arith)
is_next r f End bound end may = (end ∙ may.0, tt)
is_next r f Broken bound end may = (end ∙ may.0, tt)

-- an item that a step gives may come next
pub next-follows : (m : Merging) (x : Item) → Stands m → m.given.end ≡ Open → next_step m ≡ Gives x
    → MayFollow m.given x
next-follows m x stands going is = subst (MayFollowStep m.given) is (step_follows m stands going)

pub next-reach : (m : Merging) (core : ThinMerge) (x : Item) → Stands m → IsThin m core → m.given.end ≡ Open
    → next_step m ≡ Gives x → IsNext core.given x
next-reach m core x stands is going gives =
    is_next core.given m.given x is.bound is.end (next-follows m x stands going gives)

-- there is a sender for each of the whole merge
long-thin : (m : Merging) (core : ThinMerge) → IsThin m core → length core.senders.items ≡ length m.senders
long-thin m core is = ap (length {A = Inflow}) is.senders ∙ length-map m.senders thin

-- the senders after an item was added of one of them
pub add-thin : (m : Merging) (core : ThinMerge) (i : ℕ) (x : Item) (old new : Inflow) → IsThin m core → Stands m
    → i < length core.senders.items → old ≡ get_or core.senders.items i old → new ≡ with_item old x
    → set core.senders.items i new ≡ map thin (added_at m.senders i x)
add-thin m core i x old new is stands lt at one =
    let long = long-thin m core is in
    ap (set core.senders.items i) (one ∙ ap (λ (s : Inflow). with_item s x)
    (at ∙ get_or_any core.senders.items i old fresh lt))
    ∙ ap (λ (ss : List Inflow). added_at ss i x) is.senders
    ∙ added-thin i m.senders x (omega arith) stands.sound

-- the senders where one of them stays as it was
pub same-item : (ss : List Inflow) (i : ℕ) (old new : Inflow) → old ≡ get_or ss i old → new ≡ old → set ss i new ≡ ss
same-item ss i old new at one = ap (set ss i) (one ∙ at) ∙ set-get_or ss i old

-- there is a sender for each inlet
pub keeps-long : (m : Merging) (inlets : List Inlet) (core : ThinMerge) → Keeps m inlets core
    → length core.senders.items ≡ length inlets
keeps-long m inlets core keeps = long-thin m core keeps.thin ∙ added-long inlets m.senders keeps.added

may-whole : (m : Merging) (inlets : List Inlet) (core : ThinMerge) (place : ℕ) (d : Inlet) (x : Item)
    → Keeps m inlets core → place < length inlets → MayFollow (get_or inlets place d).from.flow x
    → MayFollow (sender_at m.senders (place + 1)).flow x
may-whole m inlets core place d x keeps lt may =
    let e : place + 1 - 1 ≡ place = omega arith in
    subst (λ (n : ℕ). MayFollow (get_or m.senders n fresh).flow x) (sym e)
    (subst (λ (f : Stream). MayFollow f x) (sym (added-at place inlets m.senders d lt keeps.added)) may)

-- what was received may be added
pub may-thin : (m : Merging) (inlets : List Inlet) (core : ThinMerge) (place : ℕ) (d : Inlet) (x : Item)
    → Keeps m inlets core → place < length inlets → MayFollow (get_or inlets place d).from.flow x
    → MayFollow (sender_at core.senders.items (place + 1)).flow x
may-thin m inlets core place d x keeps lt may =
    let i = place + 1 - 1 in
    let whole : MayFollow (thin (get_or m.senders i fresh)).flow x = may-whole m inlets core place d x keeps lt may in
    subst (λ (ss : List Inflow). MayFollow (get_or ss i fresh).flow x) (sym keeps.thin.senders)
    (subst (λ (s : Inflow). MayFollow s.flow x) (sym (at-thin i m.senders)) whole)

-- one item more, received and added
pub received-thin : (m : Merging) (inlets : List Inlet) (core added : ThinMerge) (place : ℕ) (new d : Inlet) (x : Item)
    → Keeps m inlets core → place < length inlets → MayFollow (get_or inlets place d).from.flow x
    → new.from.flow ≡ after (get_or inlets place d).from.flow x → IsThin (after_add m (place + 1) x) added
    → ((n : Merging) × Keeps n (set inlets place new) added × (n.given ≡ m.given))
received-thin m inlets core added place new d x keeps lt may is one =
    let e : place + 1 - 1 ≡ place = omega arith in
    let long = added-long inlets m.senders keeps.added in
    let same = added-at place inlets m.senders d lt keeps.added in
    let all : AreAdded (set inlets place new)
    (set m.senders (place + 1 - 1) (with_item (get_or m.senders (place + 1 - 1) fresh) x)) =
    subst (λ (n : ℕ). AreAdded (set inlets place new)
    (set m.senders n (with_item (get_or m.senders n fresh) x))) (sym e)
    (added-set place inlets m.senders new (with_item (get_or m.senders place fresh) x) keeps.added
    (ap (λ (f : Stream). after f x) same ∙ sym is)) in (
      after_add m (place + 1) x,
      record {
        stands = stands-added m (place + 1) x (omega arith) (omega arith)
            (may-whole m inlets core place d x keeps lt may) keeps.stands;
        added = all;
        thin = one;
      },
      refl,
    )

-- what holds while a merge goes on: the whole merge goes on with what was received and what was sent
pub record Runs (before inlets : List Inlet) (core : ThinMerge) (first to : ChannelEnd) : Type 0 where
  pub whole : Merging
  pub stands : Stands whole
  pub thin : IsThin whole core
  pub goes : Goes before inlets whole first to

pub runs-going : (before inlets : List Inlet) (core : ThinMerge) (first to : ChannelEnd)
    (r : Runs before inlets core first to) → r.whole.given.end ≡ Open
runs-going before inlets core first to r = ap (λ (f : Stream). f.end) r.goes.1 ∙ r.goes.0

pub runs-keeps : (before inlets : List Inlet) (core : ThinMerge) (first to : ChannelEnd)
    (r : Runs before inlets core first to) → Keeps r.whole inlets core
runs-keeps before inlets core first to r = record { stands = r.stands; added = r.goes.2; thin = r.thin }

pub runs-send : (before inlets : List Inlet) (core : ThinMerge) (first to : ChannelEnd)
    (r : Runs before inlets core first to) → MaySend r.whole core to
runs-send before inlets core first to r = record {
  stands = r.stands;
  thin = r.thin;
  going = runs-going before inlets core first to r;
  alike = sym r.goes.1;
  within = added-within to.horizon inlets r.whole.senders r.goes.2 r.goes.3;
}

-- where a sender is needed, some sender is open
pub need-open : (m : Merging) (step : MergeStep) (n : ℕ) → step ≡ next_step m → step ≡ Need n → SomeOpen m.senders
need-open m step n is need = some_open m.senders n
    (subst (λ (s : MergeStep). IfNeeds s (IsNeeded m.senders)) (sym is ∙ need) (step_needs m))

step-stands : (m : Merging) (step : MergeStep) → Stands m → m.given.end ≡ Open → step ≡ next_step m
    → Stands (after_step m step)
step-stands m step stands going is = subst (λ (s : MergeStep). Stands (after_step m s)) (sym is)
    (stands-step m stands going)

-- a merge still runs where a step gives an item that is sent
pub sent-runs : (before inlets : List Inlet) (core new : ThinMerge) (first to sent : ChannelEnd) (step : MergeStep)
    (x : Item) (r : Runs before inlets core first to) → step ≡ next_step r.whole
    → IsThin (after_step r.whole step) new → step ≡ Gives x → (after r.whole.given x).end ≡ r.whole.given.end
    → sent.flow ≡ (after_step r.whole step).given → IsSameEnd to sent → Runs before inlets new first sent
sent-runs before inlets core new first to sent step x r is thin gives goes alike same = record {
  whole = after_step r.whole step;
  stands = step-stands r.whole step r.stands (runs-going before inlets core first to r) is;
  thin = thin;
  goes = sent-on before inlets r.whole (after_step r.whole step) first to sent step x r.goes refl gives goes alike same;
}

-- a merge still runs where a sender is needed, nothing is sent, and one item more is received
pub received-runs : (before inlets received : List Inlet) (core new : ThinMerge) (first to sent : ChannelEnd)
    (r : Runs before inlets core first to) → ((n : Merging) × Keeps n received new × (n.given ≡ r.whole.given))
    → sent.flow ≡ r.whole.given → IsSameEnd to sent → AllWithin to.horizon received → AllSame inlets received
    → Runs before received new first sent
received-runs before inlets received core new first to sent r n alike same within same' = record {
  whole = n.0;
  stands = n.1.stands;
  thin = n.1.thin;
  goes = received-on before inlets received r.whole r.whole n.0 first to sent r.goes refl alike same n.2 n.1.added
      within same';
}

-- what was sent to the end is the merge of what was received
pub end-runs : (before inlets : List Inlet) (core : ThinMerge) (first to : ChannelEnd) (sent : Stream)
    (step : MergeStep) (x : Item) (r : Runs before inlets core first to) → step ≡ next_step r.whole → step ≡ Gives x
    → x ≡ End → sent ≡ (after_step r.whole step).given → AllClosed inlets × IsMerged inlets sent
end-runs before inlets core first to sent step x r is gives over alike =
    let m = after_step r.whole step in
    merged inlets m sent (added-step inlets r.whole m step refl r.goes.2)
    (front m (step-stands r.whole step r.stands (runs-going before inlets core first to r) is))
    (end-after r.whole m step x refl gives ∙ ap (λ (y : Item). (after r.whole.given y).end) over)
    alike

forgetting-long : (o : Option Head) (ss : List Inflow) → length (forgetting o ss) ≡ length ss
forgetting-long None ss = refl
forgetting-long (Some c) ss = length-set ss (c.sender - 1) _

pub left-long : (ss : List Inflow) (x : Item) → length (senders_left ss x) ≡ length ss
left-long ss (Packet t) = forgetting-long (candidate ss) ss
left-long ss (Mark b) = refl
left-long ss End = refl
left-long ss Broken = refl
