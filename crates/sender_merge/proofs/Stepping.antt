-- The steps of a merge: what each keeps, and what it may give or need.
use Rattle.std.proofs.Common.{◌≡◌, ◌⊎◌, inl, inr, ⊎_elim, ℕ, zero, suc, ◌+◌, ◌-◌, ◌<◌, ◌≤◌, Bool, true, false}
use Rattle.std.proofs.Common.{cond, ltb}
use Rattle.std.proofs.Common.{List, [], ◌∷◌, length, get_or, drop, refl, ap, sym, subst, ◌∙◌}
use Rattle.std.proofs.Common.{Option, Some, None, IsSome, arith, rules, is_none, not}
use Rattle.std.proofs.Common.{unwrap_or}
use Rattle.std.proofs.Common.{◌&&◌}
use Rattle.std.proofs.Common.{◌||◌}
use Rattle.std.specs.List.{list_all, list_any}
use Rattle.std.proofs.lemmas.Bool.{and_parts, ltb-true}
use Rattle.packet_record.specs.declared.packet.Timed.{Timed}
use Rattle.packet_record.specs.declared.item.Item.{Item}
use Rattle.packet_record.specs.declared.item.Item.TheVariants.{Packet, Mark, End, Broken}
use Rattle.packet_record.specs.declared.item.FlowEnd.TheVariants.{Open, Ended, Broken as Cut}
use Rattle.packet_record.specs.Moments.{AreFrom, AreUpTo}
use Rattle.packet_record.specs.Streams.{Stream, after, MayFollow, IsUpTo}
use Rattle.packet_record.specs.Takes.{HasRoomFor, spare_after}
use Rattle.std.proofs.Math.ListN.{length-set}
use Rattle.sender_merge.specs.declared.step.Head.{Head}
use Rattle.sender_merge.specs.declared.step.MergeStep.{MergeStep}
use Rattle.sender_merge.specs.declared.step.MergeStep.TheVariants.{Item as Gives, Need}
use Rattle.sender_merge.specs.Inflows.{Inflow, Merging, fresh, has_ended, head_of, is_broken, is_cut, is_ended, merging}
use Rattle.sender_merge.specs.Steps.{after_step, all_clear, bound_of, candidate, lesser, mark_or_need}
use Rattle.sender_merge.specs.Steps.{is_needed, merged_bound, moment_or, needed, needed_from, next_step, passing}
use Rattle.sender_merge.specs.Steps.{senders_after, step_at}
use Rattle.sender_merge.specs.Steps.{clears}
use Rattle.sender_merge.specs.Laws.{AllUpTo, IfNeeds, IsNeeded, IsStepUpTo, MayFollowStep}
use Rattle.sender_merge.specs.inside.Laws.{SomeOpen}
use Rattle.sender_merge.specs.inside.Lefts.{left_of}
use Rattle.sender_merge.specs.inside.Standing.{AllFrom, Stands}
use Rattle.sender_merge.proofs.Looking.{one_missing, one_needed}
use Rattle.sender_merge.proofs.Looking.{bound_low, bounded, found, none_found, one_waits, up_to_got, within}
use Rattle.packet_record.specs.declared.item.FlowEnd.{FlowEnd}
use Rattle.sender_merge.proofs.Keeping.{all_from_bounded, given_at, heads_least, heads_none, stands-broken, stands-end}
use Rattle.sender_merge.proofs.Keeping.{stands-mark, stands-packet}

marked : (m : Merging) (b : ℕ) (t : Bool) (o : ℕ) → Stands m → m.given.end ≡ Open → AllFrom b m.senders
    → Stands (after_step m (cond t (Gives (Mark b)) (Need o)))
marked m b true o stands going from = stands-mark m b stands going from
marked m b false o stands going from = stands

mark_or_need-stands : (m : Merging) (o : Option Head) (r : Option ℕ) → Stands m → m.given.end ≡ Open
    → ((b : ℕ) → r ≡ Some b → AllFrom b m.senders) → Stands (after_step m (mark_or_need o r m.senders m.given.bound))
mark_or_need-stands m o None stands going from = stands
mark_or_need-stands m o (Some b) stands going from =
    marked m b (ltb m.given.bound b) _ stands going (from b refl)

ended_or : (m : Merging) (t : Bool) → list_all has_ended m.senders ≡ t → candidate m.senders ≡ None → Stands m
    → m.given.end ≡ Open
    → Stands (after_step m (cond t (Gives End) (mark_or_need None (merged_bound m.senders) m.senders m.given.bound)))
ended_or m true over none stands going = stands-end m stands (none_found 1 m.senders none) over
ended_or m false over none stands going = mark_or_need-stands m None (merged_bound m.senders) stands going
    (λ b is. all_from_bounded b m.senders stands.sound (heads_none b m.senders (none_found 1 m.senders none))
    (bounded b m.senders is))

cleared_or : (m : Merging) (c : Head) (t : Bool) → all_clear c 1 m.senders ≡ t → candidate m.senders ≡ Some c
    → Stands m → m.given.end ≡ Open
    → Stands (after_step m (cond t (Gives (Packet c.packet))
    (mark_or_need (Some c) (merged_bound m.senders) m.senders m.given.bound)))
cleared_or m c true clear is stands going =
    subst (λ (o : Option Head). Stands (merging (passing o m.senders) (after m.given (Packet c.packet)))) (sym is)
    (stands-packet m c stands going is clear)
cleared_or m c false clear is stands going = mark_or_need-stands m (Some c) (merged_bound m.senders) stands going
    (λ b e. all_from_bounded b m.senders stands.sound
    (heads_least c 1 b m.senders (bound_low c 1 b m.senders clear (bounded b m.senders e))
    (found c 1 m.senders is).least) (bounded b m.senders e))

at_candidate : (m : Merging) (o : Option Head) → candidate m.senders ≡ o → Stands m → m.given.end ≡ Open
    → Stands (after_step m (step_at o m.senders m.given.bound))
at_candidate m None is stands going = ended_or m (list_all has_ended m.senders) refl is stands going
at_candidate m (Some c) is stands going = cleared_or m c (all_clear c 1 m.senders) refl is stands going

broken_or : (m : Merging) (t : Bool) (step : MergeStep) → Stands m → Stands (after_step m step)
    → Stands (after_step m (cond t (Gives Broken) step))
broken_or m true step stands next = stands-broken m stands
broken_or m false step stands next = next

-- a step keeps what every merge keeps
pub stands-step : (m : Merging) → Stands m → m.given.end ≡ Open → Stands (after_step m (next_step m))
stands-step m stands going = broken_or m (list_any is_broken m.senders) _ stands
    (at_candidate m (candidate m.senders) refl stands going)

-- `P` holds of the item that the step gives, if it gives one
abbrev pub Gives-of : (Item → Type 0) → MergeStep → Type 0
Gives-of P (Gives x) = P x
Gives-of P (Need sender) = Unit {0}

mark_or : (P : Item → Type 0) (t : Bool) (g b n : ℕ) → ltb g b ≡ t → (g < b → P (Mark b))
    → Gives-of P (cond t (Gives (Mark b)) (Need n))
mark_or P true g b n e mark = mark (ltb-true g b e)
mark_or P false g b n e mark = tt

mark_or_need-gives : (P : Item → Type 0) (ss : List Inflow) (g : ℕ) (o : Option Head) (r : Option ℕ)
    → ((b : ℕ) → r ≡ Some b → g < b → P (Mark b)) → Gives-of P (mark_or_need o r ss g)
mark_or_need-gives P ss g o None mark = tt
mark_or_need-gives P ss g o (Some b) mark = mark_or P (ltb g b) g b _ refl (mark b refl)

either_gives : (P : Item → Type 0) (t : Bool) (x : Item) (step : MergeStep) → (t ≡ true → P x) → Gives-of P step
    → Gives-of P (cond t (Gives x) step)
either_gives P true x step one rest = one refl
either_gives P false x step one rest = rest

step_at-gives : (P : Item → Type 0) (ss : List Inflow) (g : ℕ) (o : Option Head) → P End
    → ((c : Head) → o ≡ Some c → P (Packet c.packet)) → ((b : ℕ) → merged_bound ss ≡ Some b → g < b → P (Mark b))
    → Gives-of P (step_at o ss g)
step_at-gives P ss g None over packet mark = either_gives P (list_all has_ended ss) End _ (λ e. over)
    (mark_or_need-gives P ss g None (merged_bound ss) mark)
step_at-gives P ss g (Some c) over packet mark = either_gives P (all_clear c 1 ss) (Packet c.packet) _
    (λ e. packet c refl) (mark_or_need-gives P ss g (Some c) (merged_bound ss) mark)

-- what holds of each item that a step may give holds of the item that it gives
pub gives : (P : Item → Type 0) (m : Merging) → P Broken → P End
    → ((c : Head) → candidate m.senders ≡ Some c → P (Packet c.packet))
    → ((b : ℕ) → merged_bound m.senders ≡ Some b → m.given.bound < b → P (Mark b)) → Gives-of P (next_step m)
gives P m broken over packet mark = either_gives P (list_any is_broken m.senders) Broken _ (λ e. broken)
    (step_at-gives P m.senders m.given.bound (candidate m.senders) over packet mark)

-- a head is at moment `b` or later, where all that waits and comes is
from_at : (b i : ℕ) (ss : List Inflow) (t : Timed) → i < length ss → AllFrom b ss
    → head_of (get_or ss i fresh) ≡ Some t → b ≤ t.moment
from_at b i [] t lt from at = absurd (omega arith)
from_at b zero (s ∷ ss) t lt from at =
    let all : AreFrom b (t ∷ drop (s.passed + 1) s.flow.packets) =
    subst (AreFrom b) (one_waits s.flow.packets s.passed t at) from.0.waits in all.0
from_at b (suc i) (s ∷ ss) t lt from at = from_at b i ss t (omega arith) from.1 at

as_following : (f : Stream) (step : MergeStep) → Gives-of (MayFollow f) step → MayFollowStep f step
as_following f (Gives x) h = h
as_following f (Need sender) h = tt

candidate_from-low : (m : Merging) (c : Head) → Stands m → candidate m.senders ≡ Some c
    → m.given.bound ≤ c.packet.moment
candidate_from-low m c stands is =
    let f = found c 1 m.senders is in
    let high = f.high in let low = f.low in
    from_at m.given.bound (c.sender - 1) m.senders c.packet (omega arith) stands.low f.at

-- an item that a step gives may come next
pub step_follows : (m : Merging) → Stands m → m.given.end ≡ Open → MayFollowStep m.given (next_step m)
step_follows m stands going = as_following m.given (next_step m) (gives (MayFollow m.given) m (going, tt) (going, tt)
    (λ c is. (going, candidate_from-low m c stands is)) (λ b is lt. (going, omega arith)))

-- a step is up to the horizon, where the item that it gives is
as_within : (h : ℕ) (step : MergeStep) → Gives-of (IsUpTo h) step → IsStepUpTo h step
as_within h (Gives x) w = w
as_within h (Need sender) w = tt

head_within : (h i : ℕ) (ss : List Inflow) (t : Timed) → i < length ss → AllUpTo h ss
    → head_of (get_or ss i fresh) ≡ Some t → t.moment ≤ h
head_within h i [] t lt up at = absurd (omega arith)
head_within h zero (s ∷ ss) t lt up at = up_to_got h s.flow.packets s.passed t up.0.0 at
head_within h (suc i) (s ∷ ss) t lt up at = head_within h i ss t (omega arith) up.1 at

lesser_one : (a r : Option ℕ) (b : ℕ) → lesser a r ≡ Some b → (a ≡ Some b) ⊎ (r ≡ Some b)
lesser_one None r b is = inr is
lesser_one (Some a) None b is = inl is
lesser_one (Some a) (Some r) b is = go (ltb r a) is where
  go : (t : Bool) → cond t (Some r) (Some a) ≡ Some b → (Some a ≡ Some b) ⊎ (Some r ≡ Some b)
  go true e = inr e
  go false e = inl e

moment_within : (h : ℕ) (s : Inflow) (o : Option Timed) → head_of s ≡ o
    → AreUpTo h s.flow.packets × (s.flow.bound ≤ h + 1) → moment_or s.flow.bound o ≤ h + 1
moment_within h s None at up = up.1
moment_within h s (Some t) at up =
    let le : t.moment ≤ h = up_to_got h s.flow.packets s.passed t up.0 at in omega arith

one_within : (h b : ℕ) (t : Bool) (n : ℕ) → n ≤ h + 1 → cond t None (Some n) ≡ Some b → b ≤ h + 1
one_within h b true n le is = absurd cc
one_within h b false n le is = let same : n ≡ b = cc in omega arith

bound_within : (h b : ℕ) (ss : List Inflow) → AllUpTo h ss → merged_bound ss ≡ Some b → b ≤ h + 1
bound_within h b [] up is = absurd cc
bound_within h b (s ∷ ss) up is = ⊎_elim
    (λ (here : bound_of s ≡ Some b). one_within h b (has_ended s) (moment_or s.flow.bound (head_of s))
    (moment_within h s (head_of s) refl up.0) here)
    (λ (there : merged_bound ss ≡ Some b). bound_within h b ss up.1 there)
    (lesser_one (bound_of s) (merged_bound ss) b is)

-- an item that a step gives is up to the horizon
pub step_within : (m : Merging) (h : ℕ) → AllUpTo h m.senders → IsStepUpTo h (next_step m)
step_within m h up = as_within h (next_step m) (gives (IsUpTo h) m tt tt
    (λ c is. let f = found c 1 m.senders is in let high = f.high in let low = f.low in
    head_within h (c.sender - 1) m.senders c.packet (omega arith) up f.at)
    (λ b is lt. bound_within h b m.senders up is))

-- one packet less waits once a head was given
left_given : (i : ℕ) (ss : List Inflow) (t : Timed) → i < length ss → head_of (get_or ss i fresh) ≡ Some t
    → 1 + left_of (given_at ss i) ≡ left_of ss
left_given i [] t lt at = absurd (omega arith)
left_given zero (s ∷ ss) t lt at = let some = within s.flow.packets s.passed t at in omega arith
left_given (suc i) (s ∷ ss) t lt at = let rest = left_given i ss t (omega arith) at in omega arith

pub left_passed : (c : Head) (ss : List Inflow) → candidate ss ≡ Some c
    → 1 + left_of (given_at ss (c.sender - 1)) ≡ left_of ss
left_passed c ss is =
    let f = found c 1 ss is in let high = f.high in let low = f.low in
    left_given (c.sender - 1) ss c.packet (omega arith) f.at

pub get_or_any : (ss : List Inflow) (i : ℕ) (d e : Inflow) → i < length ss → get_or ss i d ≡ get_or ss i e
get_or_any [] i d e lt = absurd (omega arith)
get_or_any (s ∷ ss) zero d e lt = refl
get_or_any (s ∷ ss) (suc i) d e lt = get_or_any ss i d e (omega arith)

-- the candidate's sender is there, and its head is the candidate
pub record Passes (c : Head) (ss : List Inflow) : Type 0 where
  pub some : 1 ≤ c.sender
  pub few : c.sender - 1 < length ss
  pub same : (d : Inflow) → get_or ss (c.sender - 1) d ≡ get_or ss (c.sender - 1) fresh
  pub head : head_of (get_or ss (c.sender - 1) fresh) ≡ Some c.packet

pub passes : (c : Head) (ss : List Inflow) → candidate ss ≡ Some c → Passes c ss
passes c ss is =
    let f = found c 1 ss is in let high = f.high in let low = f.low in
    let lt : c.sender - 1 < length ss = omega arith in
    record {
      some = low;
      few = lt;
      same = λ d. get_or_any ss (c.sender - 1) d fresh lt;
      head = f.at;
    }

-- what holds of an item that a step gives
pub record IsGiven (m : Merging) (spare : ℕ) (x : Item) : Type 0 where
  pub follows : MayFollow m.given x
  pub room : HasRoomFor spare x
  pub left : left_of (senders_after m.senders x) ≤ spare_after spare x
  pub long : length (senders_after m.senders x) ≡ length m.senders
  pub stands : Stands (merging (senders_after m.senders x) (after m.given x))

gives_is : (P : Item → Type 0) (step : MergeStep) (x : Item) → step ≡ Gives x → Gives-of P step → P x
gives_is P step x is all = subst (Gives-of P) is all

passing-long : (o : Option Head) (ss : List Inflow) → length (passing o ss) ≡ length ss
passing-long None ss = refl
passing-long (Some c) ss = length-set ss (c.sender - 1) _

after-long : (ss : List Inflow) (x : Item) → length (senders_after ss x) ≡ length ss
after-long ss (Packet t) = passing-long (candidate ss) ss
after-long ss (Mark b) = refl
after-long ss End = refl
after-long ss Broken = refl

left_less : (c : Head) (ss : List Inflow) → candidate ss ≡ Some c
    → 1 + left_of (passing (candidate ss) ss) ≡ left_of ss
left_less c ss is = subst (λ (o : Option Head). 1 + left_of (passing o ss) ≡ left_of ss) (sym is) (left_passed c ss is)

pub is_given : (m : Merging) (spare : ℕ) (x : Item) → Stands m → m.given.end ≡ Open → left_of m.senders ≤ spare
    → next_step m ≡ Gives x → IsGiven m spare x
is_given m spare x stands going left is = record {
  follows = (let f = step_follows m stands going in subst (MayFollowStep m.given) is f);
  room = gives_is (HasRoomFor spare) (next_step m) x is (gives (HasRoomFor spare) m tt tt
      (λ c e. let less = left_less c m.senders e in omega arith) (λ b e lt. tt));
  left = gives_is (λ y. left_of (senders_after m.senders y) ≤ spare_after spare y) (next_step m) x is
      (gives (λ y. left_of (senders_after m.senders y) ≤ spare_after spare y) m left left
      (λ c e. let less = left_less c m.senders e in omega arith) (λ b e lt. left));
  long = after-long m.senders x;
  stands = subst (λ (step : MergeStep). Stands (after_step m step)) is (stands-step m stands going);
}

pub some_head : (o : Option Timed) (t : Timed) → o ≡ Some t → IsSome o
some_head None t is = absurd cc
some_head (Some u) t is = search rules

-- a flow that was neither broken off nor ended is open
not_broken_or_ended : (e : FlowEnd) → is_cut e ≡ false → is_ended e ≡ false → e ≡ Open
not_broken_or_ended Open p q = refl
not_broken_or_ended Ended p q = absurd cc
not_broken_or_ended Cut p q = absurd cc

or_parts : (x y : Bool) → (x || y) ≡ false → (x ≡ false) × (y ≡ false)
or_parts true y is = absurd cc
or_parts false y is = (refl, is)

needs_either : (P : ℕ → Type 0) (t : Bool) (x : Item) (step : MergeStep) → (t ≡ false → IfNeeds step P)
    → IfNeeds (cond t (Gives x) step) P
needs_either P true x step rest = tt
needs_either P false x step rest = rest refl

unwrapped : (P : ℕ → Type 0) (r : Option ℕ) → IsSome r → ((n : ℕ) → r ≡ Some n → P n) → P (unwrap_or r 0)
unwrapped P None some all = absurd cc
unwrapped P (Some n) some all = all n refl

mark_or_need-needs : (P : ℕ → Type 0) (ss : List Inflow) (g : ℕ) (o : Option Head) (r : Option ℕ)
    → P (unwrap_or (needed o ss) 0) → IfNeeds (mark_or_need o r ss g) P
mark_or_need-needs P ss g o None p = p
mark_or_need-needs P ss g o (Some b) p = needs_either P (ltb g b) (Mark b) _ (λ e. p)

-- a sender that is open at an index is an open sender
open_where : (ss : List Inflow) (i : ℕ) → (get_or ss i fresh).flow.end ≡ Open → i < length ss → SomeOpen ss
open_where [] i is lt = absurd (omega arith)
open_where (s ∷ ss) zero is lt = inl is
open_where (s ∷ ss) (suc i) is lt = inr (open_where ss i is (omega arith))

-- where a sender is needed, some sender is open
pub some_open : (ss : List Inflow) (n : ℕ) → IsNeeded ss n → SomeOpen ss
some_open ss n is = let some = is.some in let few = is.few in open_where ss (n - 1) is.going (omega arith)

-- the sender `n` is there, and hasn't ended; `k` is the number of the first one
pub record NeededAt (k : ℕ) (ss : List Inflow) (n : ℕ) : Type 0 where
  pub low : k ≤ n
  pub high : n < k + length ss
  pub going : has_ended (get_or ss (n - k) fresh) ≡ false

not_true : (t : Bool) → not t ≡ true → t ≡ false
not_true true is = absurd cc
not_true false is = refl

unended_by : (o : Option Head) (k : ℕ) (s : Inflow) → is_needed o k s ≡ true → has_ended s ≡ false
unended_by None k s is = not_true (has_ended s) (and_parts (not (has_ended s)) (is_none (head_of s)) is).0
unended_by (Some c) k s is =
    let both = and_parts (not (has_ended s) && is_none (head_of s)) (not (clears c k s)) is in
    not_true (has_ended s) (and_parts (not (has_ended s)) (is_none (head_of s)) both.0).0

needed_at : (o : Option Head) (k : ℕ) (ss : List Inflow) (n : ℕ) → needed_from o k ss ≡ Some n → NeededAt k ss n
needed_at o k [] n is = absurd cc
needed_at o k (s ∷ ss) n is = go (is_needed o k s) refl (λ e. needed_at o (k + 1) ss n e) is where
  go : (t : Bool) → is_needed o k s ≡ t → (needed_from o (k + 1) ss ≡ Some n → NeededAt (k + 1) ss n)
      → cond t (Some k) (needed_from o (k + 1) ss) ≡ Some n → NeededAt k (s ∷ ss) n
  go true e behind is =
      let same : k ≡ n = cc in
      let first : n - k ≡ zero = omega arith in
      record {
        low = omega arith;
        high = omega arith;
        going = ap (λ (i : ℕ). has_ended (get_or (s ∷ ss) i fresh)) first ∙ unended_by o k s e;
      }
  go false e behind is =
      let rest = behind is in
      let low = rest.low in
      let high = rest.high in
      let next : n - k ≡ suc (n - (k + 1)) = omega arith in
      record {
        low = omega arith;
        high = omega arith;
        going = ap (λ (i : ℕ). has_ended (get_or (s ∷ ss) i fresh)) next ∙ rest.going;
      }

unbroken_at : (ss : List Inflow) (i : ℕ) → list_any is_broken ss ≡ false → i < length ss
    → is_broken (get_or ss i fresh) ≡ false
unbroken_at [] i whole lt = absurd (omega arith)
unbroken_at (s ∷ ss) zero whole lt = (or_parts (is_broken s) (list_any is_broken ss) whole).0
unbroken_at (s ∷ ss) (suc i) whole lt =
    unbroken_at ss i (or_parts (is_broken s) (list_any is_broken ss) whole).1 (omega arith)

is_needed_one : (ss : List Inflow) (n : ℕ) → list_any is_broken ss ≡ false → needed (candidate ss) ss ≡ Some n
    → IsNeeded ss n
is_needed_one ss n whole is =
    let at = needed_at (candidate ss) 1 ss n is in
    let low = at.low in
    let high = at.high in
    record {
      is = is;
      some = low;
      few = omega arith;
      going = not_broken_or_ended _ (unbroken_at ss (n - 1) whole (omega arith)) at.going;
    }

step_at-needs : (ss : List Inflow) (g : ℕ) (o : Option Head) → candidate ss ≡ o → list_any is_broken ss ≡ false
    → IfNeeds (step_at o ss g) (IsNeeded ss)
step_at-needs ss g None is whole = needs_either (IsNeeded ss) (list_all has_ended ss) End _
    (λ e. mark_or_need-needs (IsNeeded ss) ss g None (merged_bound ss)
    (unwrapped (IsNeeded ss) (needed None ss) (one_missing 1 ss (none_found 1 ss is) e)
    (λ n some. is_needed_one ss n whole (ap (λ (o : Option Head). needed o ss) is ∙ some))))
step_at-needs ss g (Some c) is whole = needs_either (IsNeeded ss) (all_clear c 1 ss) (Packet c.packet) _
    (λ e. mark_or_need-needs (IsNeeded ss) ss g (Some c) (merged_bound ss)
    (unwrapped (IsNeeded ss) (needed (Some c) ss) (one_needed c 1 ss e)
    (λ n some. is_needed_one ss n whole (ap (λ (o : Option Head). needed o ss) is ∙ some))))

-- the sender that a step needs is there, and may still send
pub step_needs : (m : Merging) → IfNeeds (next_step m) (IsNeeded m.senders)
step_needs m = needs_either (IsNeeded m.senders) (list_any is_broken m.senders) Broken _
    (λ e. step_at-needs m.senders m.given.bound (candidate m.senders) refl e)
