-- One step of a link only adds to what departed, what was lost and the log.
use Rattle.std.proofs.Common.{◌≡◌, ℕ, ◌+◌, ◌<◌, ◌≤◌, ◌++◌, Bool, List, [], ◌∷◌, Result, Ok, Err, IfOk, OnOk, OnErr}
use Rattle.std.proofs.Common.{Option, take, drop, reverse, arith, sym, subst}
use Rattle.std.proofs.lemmas.List.{append-nil, reverse-reverse}
use Rattle.text_base.specs.declared.out_of_memory.OutOfMemory.{OutOfMemory}
use Rattle.packet_record.specs.declared.packet.Timed.{Timed}
use Rattle.packet_record.specs.Moments.{AreUpTo, Rise}
use Rattle.packet_record.proofs.MomentsLemmas.{rise-append}
use Rattle.packet_queue.specs.declared.spec.QueueSpec.{QueueSpec}
use Rattle.shell_log.specs.declared.entry.Entry.{Entry}
use Rattle.trace_reader.specs.declared.opportunity.Opportunity.{Opportunity}
use Rattle.trace_reader.specs.Orders.{Each, AreRising}
use Rattle.link_core.specs.inside.Orders.{Falling}
use Rattle.link_core.specs.Promises.{count_to, floor_of}
use Rattle.link_core.specs.inside.Sound.{Sound}
use Rattle.link_core.specs.View.{Link, out_of, lost_of, log_of, OnlyGoesOn}
use Rattle.link_core.specs.views.Span.{Span, span_opps}
use Rattle.link_core.proofs.SoundLemmas.{each_reverse, each_up_to}
use Rattle.link_core.proofs.Turned.{reverse_cons}
use Rattle.link_core.proofs.LinkLaws.{LinkGoesOn, goes_on, early_burnt}

abbrev pub made : QueueSpec → Span → ℕ → List Timed → Link
made q s b l = record { trace = s.trace; once = s.once; queue = q; horizon = s.horizon; burnt = b; arrivals = l }

-- what is true of a link at all times, as far as these laws need it
pub record IsReady (os : List Opportunity) (b : ℕ) (l : List Timed) : Type 0 where
  pub order : AreRising os
  pub falls : Falling (reverse l)
  pub later : Each (λ o. Each (λ t. t.moment < o.moment) (reverse l)) (drop b os)

pub ready : (q : QueueSpec) (os : List Opportunity) (b : ℕ) (arrivals : List Timed) (packet : Option Timed) (used : ℕ)
    (queue departed lost : List Timed) (logged : Bool) (log : List Entry)
    → Sound q os b arrivals packet used queue departed lost logged log → IsReady os b arrivals
ready q os b arrivals packet used queue departed lost logged log s =
    record { order = s.order; falls = s.tied.arrivals_fall; later = s.later }

pub up_to_each : (m : ℕ) (ts : List Timed) → Each (λ u. u.moment ≤ m) ts → AreUpTo m ts
up_to_each m [] a = tt
up_to_each m (t ∷ ts) a = (a.0, up_to_each m ts a.1)

rise_turned : (earlier : List Timed) → Falling earlier → Rise (reverse earlier)
rise_turned [] f = tt
rise_turned (t ∷ earlier) f =
    subst Rise (sym (reverse_cons t earlier))
    (rise-append t.moment (reverse earlier) (t ∷ []) (rise_turned earlier f.1)
    (up_to_each t.moment (reverse earlier) (each_reverse (λ u. u.moment ≤ t.moment) earlier f.0))
    (omega arith, tt) (tt, tt))

pub rise_now : (l : List Timed) → Falling (reverse l) → Rise l
rise_now l f = subst Rise (reverse-reverse l) (rise_turned (reverse l) f)

prefixes : (q : QueueSpec) (s : Span) (b b' : ℕ) (l l' : List Timed) (low : ℕ)
    → LinkGoesOn low q (take b (span_opps s)) l (take b' (span_opps s)) l'
    → OnlyGoesOn (made q s b l) (made q s b' l')
prefixes q s b b' l l' low g = record {
  out = (g.out.more, sym g.out.is);
  lost = (g.lost.more, sym g.lost.is);
  log = (g.log.more, sym g.log.is);
}

same : (c : Link) → OnlyGoesOn c c
same c = record {
  out = ([], append-nil (out_of c));
  lost = ([], append-nil (lost_of c));
  log = ([], append-nil (log_of c));
}

-- the steps themselves
arrived : (q : QueueSpec) (s : Span) (b : ℕ) (l : List Timed) (t : Timed) → IsReady (span_opps s) b l
    → AreUpTo t.moment l → b ≤ count_to (span_opps s) t.moment
    → OnlyGoesOn (made q s b l) (made q s (count_to (span_opps s) t.moment) (l ++ t ∷ []))
arrived q s b l t r up le =
    let os = span_opps s in
    let rise : Rise (l ++ t ∷ []) = rise-append t.moment l (t ∷ []) (rise_now l r.falls) up (omega arith, tt) (tt, tt)
    in
    prefixes q s b (count_to os t.moment) l (l ++ t ∷ []) (floor_of os s.horizon b)
    (goes_on q os s.horizon b (count_to os t.moment) l (t ∷ []) r.order le rise r.later
    (each_reverse (λ u. u.moment ≤ t.moment) l (each_up_to t.moment l up), tt)
    (each_reverse (λ p. p.moment ≤ t.moment) (take b os) (early_burnt os b t.moment r.order le), tt))

burnt_on : (q : QueueSpec) (s : Span) (b n : ℕ) (l : List Timed) → IsReady (span_opps s) b l
    → OnlyGoesOn (made q s b l) (made q s (b + n) l)
burnt_on q s b n l r =
    let os = span_opps s in
    let none : l ++ [] ≡ l = append-nil l in
    prefixes q s b (b + n) l l (floor_of os s.horizon b)
    (subst (λ (ts : List Timed). LinkGoesOn (floor_of os s.horizon b) q (take b os) l (take (b + n) os) ts) none
    (goes_on q os s.horizon b (b + n) l [] r.order (omega arith) (subst Rise (sym none) (rise_now l r.falls)) r.later
    tt tt))

-- the link after a step, by its parts
alike : (c : Link) (q q' : QueueSpec) (s s' : Span) (b b' : ℕ) (l l' : List Timed) → q' ≡ q → s' ≡ s → b' ≡ b → l' ≡ l
    → OnlyGoesOn c (made q s b l) → OnlyGoesOn c (made q' s' b' l')
alike c q q' s s' b b' l l' e f g h w =
    let one = subst (λ (x : QueueSpec). OnlyGoesOn c (made x s b l)) (sym e) w in
    let two = subst (λ (x : Span). OnlyGoesOn c (made q' x b l)) (sym f) one in
    let four = subst (λ (x : ℕ). OnlyGoesOn c (made q' s' x l)) (sym g) two in
    subst (λ (x : List Timed). OnlyGoesOn c (made q' s' b' x)) (sym h) four

pub only_arrive : (q q' : QueueSpec) (s s' : Span) (b b' : ℕ) (l l' : List Timed) (t : Timed)
    (r : Result (Unit {0}) OutOfMemory) → IsReady (span_opps s) b l
    → q' ≡ q → s' ≡ s → AreUpTo t.moment l → b ≤ count_to (span_opps s) t.moment
    → OnOk r (b' ≡ count_to (span_opps s) t.moment) → OnOk r (l' ≡ l ++ t ∷ []) → OnErr r ((b' ≡ b) × (l' ≡ l))
    → OnlyGoesOn (made q s b l) (made q' s' b' l')
only_arrive q q' s s' b b' l l' t (Ok u) ready e f up le burnt came err =
    alike (made q s b l) q q' s s' (count_to (span_opps s) t.moment) b' (l ++ t ∷ []) l' e f burnt came
    (arrived q s b l t ready up le)
only_arrive q q' s s' b b' l l' t (Err u) ready e f up le burnt came err = alike (made q s b l) q q' s s' b b' l l' e
    f err.0 err.1 (same (made q s b l))

pub only_burn : (q q' : QueueSpec) (s s' : Span) (b b' : ℕ) (l l' : List Timed) (r : Result ℕ OutOfMemory)
    → IsReady (span_opps s) b l
    → q' ≡ q → s' ≡ s → l' ≡ l → IfOk r (λ n. b' ≡ b + n) → OnErr r (b' ≡ b)
    → OnlyGoesOn (made q s b l) (made q' s' b' l')
only_burn q q' s s' b b' l l' (Ok n) ready e f came burnt err = alike (made q s b l) q q' s s' (b + n) b' l l' e f
    burnt came (burnt_on q s b n l ready)
only_burn q q' s s' b b' l l' (Err u) ready e f came burnt err = alike (made q s b l) q q' s s' b b' l l' e f err came
    (same (made q s b l))
