-- The two steps keep what is true of the parts.
use Rattle.std.proofs.Common.{◌≡◌, ℕ, zero, suc, ◌+◌, ◌<◌, ◌≤◌, ◌++◌, All, Bool, List, [], ◌∷◌, Option, Some, slice_get}
use Rattle.std.proofs.Common.{length, take, drop, reverse, map, arith, ap, sym, subst, ◌∙◌, add-one}
use Rattle.std.proofs.lemmas.List.{reverse-append, take-append-drop, append_assoc}
use Rattle.packet_record.specs.declared.packet.Timed.{Timed}
use Rattle.packet_queue.specs.declared.spec.QueueSpec.{QueueSpec}
use Rattle.packet_record.specs.Packets.{moved_to}
use Rattle.packet_queue.specs.Queues.{enqueued, dropped}
use Rattle.shell_log.specs.declared.entry.Entry.{Entry}
use Rattle.shell_log.specs.declared.entry.Entry.TheVariants as entries
use Rattle.trace_reader.specs.declared.opportunity.Opportunity.{Opportunity}
use Rattle.link_core.specs.inside.Stream.{carried, rest, begun}
use Rattle.trace_reader.specs.Orders.{Each, AreRising}
use Rattle.link_core.specs.inside.Orders.{AreFalling}
use Rattle.link_core.specs.inside.Written.{written}
use Rattle.link_core.specs.Links.{drop_line}
use Rattle.link_core.specs.inside.Back.{sent, keep, departures, losses, log_of}
use Rattle.link_core.specs.inside.State.{pending, IsPart, Tied, served_lines}
use Rattle.link_core.specs.inside.Sound.{Sound}
use Rattle.link_core.proofs.SentLemmas.{each_append, each_back, each_map}
use Rattle.link_core.proofs.MomentLemmas.{log_up_to}
use Rattle.link_core.proofs.WrittenLemmas.{written_up_to}
use Rattle.shell_log.specs.Entries.{AreUpTo as EntriesUpTo}
use Rattle.packet_record.specs.Moments.{AreUpTo}
use Rattle.link_core.proofs.TiedLemmas.{tied_burn, tied_arrival}

pub each_reverse : {X : Type 0} (P : X → Type 0) (xs : List X) → Each P xs → Each P (reverse xs)
each_reverse P [] a = tt
each_reverse {X} P (x ∷ xs) a =
    subst (Each P) (sym (reverse-append (x ∷ []) xs))
    (each_append P (reverse xs) (x ∷ []) (each_reverse P xs a.1) (a.0, tt))

pub reverse_push : {X : Type 0} (xs : List X) (x : X) → reverse (xs ++ x ∷ []) ≡ x ∷ reverse xs
reverse_push xs x = reverse-append xs (x ∷ [])

pub take_one : {X : Type 0} (xs : List X) (i : ℕ) (x : X) → slice_get xs i ≡ Some x → take (suc i) xs ≡ take i xs
    ++ x ∷ []
take_one [] i x e = cc
take_one (y ∷ ys) zero x e = let h : y ≡ x = cc in ap (λ z. z ∷ []) h
take_one (y ∷ ys) (suc i) x e = ap (λ zs. y ∷ zs) (take_one ys i x e)

pub drop_one : {X : Type 0} (xs : List X) (i : ℕ) (x : X) → slice_get xs i ≡ Some x → drop i xs ≡ x ∷ drop (suc i) xs
drop_one [] i x e = cc
drop_one (y ∷ ys) zero x e = let h : y ≡ x = cc in ap (λ z. z ∷ ys) h
drop_one (y ∷ ys) (suc i) x e = drop_one ys i x e

pub few_one : {X : Type 0} (xs : List X) (i : ℕ) (x : X) → slice_get xs i ≡ Some x → suc i ≤ length xs
few_one [] i x e = cc
few_one (y ∷ ys) zero x e = omega arith
few_one (y ∷ ys) (suc i) x e = let h = few_one ys i x e in omega arith

rising_split : (xs ys : List Opportunity) (o : Opportunity) → AreRising (xs ++ o ∷ ys)
    → Each (λ p. p.moment ≤ o.moment) xs
rising_split [] ys o r = tt
rising_split (x ∷ xs) ys o r = ((each_back (λ p. x.moment ≤ p.moment) xs (o ∷ ys) r.0).0, rising_split xs ys o r.1)

pub sound_burn : (q : QueueSpec) (opps : List Opportunity) (b : ℕ) (arrivals : List Timed)
    (packet packet' : Option Timed) (used used' : ℕ)
    (queue queue' departed departed' lost : List Timed) (logged : Bool) (log log' : List Entry) (o : Opportunity)
    → Sound q opps b arrivals packet used queue departed lost logged log
    → slice_get opps b ≡ Some o
    → IsPart packet' used'
    → pending packet' queue' ≡ rest (used + o.bytes) (pending packet queue)
    → used' ≡ begun (used + o.bytes) (pending packet queue)
    → departed' ≡ departed ++ map (moved_to o.moment) (carried (used + o.bytes) (pending packet queue))
    → log' ≡ log ++ written logged (served_lines o (carried (used + o.bytes) (pending packet queue)))
    → Sound q opps (b + 1) arrivals packet' used' queue' departed' lost logged log'
sound_burn q opps b arrivals packet packet' used used' queue queue' departed departed' lost logged log log' o s get part
    inside_e used_e left_e log_e =
    let one : take (b + 1) opps ≡ take b opps ++ o ∷ [] = ap (λ n. take n opps) (add-one b) ∙ take_one opps b o get in
    let front : reverse (take (b + 1) opps) ≡ o ∷ reverse (take b opps) = ap reverse one
    ∙ reverse_push (take b opps) o in
    let back : drop b opps ≡ o ∷ drop (suc b) opps = drop_one opps b o get in
    let whole : opps ≡ take b opps ++ o ∷ drop (suc b) opps = sym (take-append-drop b opps)
    ∙ ap (λ (xs : List Opportunity). take b opps ++ xs) back in
    let before : Each (λ p. p.moment ≤ o.moment) (take b opps) = rising_split (take b opps) (drop (suc b) opps) o
    (subst AreRising whole s.order) in
    let ahead : Each (λ p. Each (λ t. t.moment < p.moment) (reverse arrivals)) (o ∷ drop (suc b) opps)
    = subst (Each (λ p. Each (λ t. t.moment < p.moment) (reverse arrivals))) back s.later
    in
    let new = tied_burn q o (reverse (take b opps)) (reverse arrivals) (pending packet queue) used departed lost logged
    log s.tied ahead.0
    (each_reverse (λ p. p.moment ≤ o.moment) (take b opps) before)
    in
    let few = few_one opps b o get in
    record {
      tied = record {
        inside_is = ap (λ (os : List Opportunity). rest (sent (keep q os (reverse arrivals)) os)
            (keep q os (reverse arrivals))) front ∙ new.inside_is ∙ sym inside_e;
        used_is = ap (λ (os : List Opportunity). begun (sent (keep q os (reverse arrivals)) os)
            (keep q os (reverse arrivals))) front ∙ new.used_is ∙ sym used_e;
        departed_is = ap (λ (os : List Opportunity). departures (keep q os (reverse arrivals)) os) front
            ∙ new.departed_is
            ∙ sym left_e;
        lost_is = ap (λ (os : List Opportunity). losses q os (reverse arrivals)) front ∙ new.lost_is;
        log_is = ap (λ (os : List Opportunity). written logged (log_of q os (reverse arrivals))) front ∙ new.log_is
            ∙ sym log_e;
        arrivals_fall = new.arrivals_fall;
        opps_fall = subst AreFalling (sym front) new.opps_fall;
      };
      part = part;
      few = omega arith;
      order = s.order;
      later = subst (λ n. Each (λ p. Each (λ t. t.moment < p.moment) (reverse arrivals)) (drop n opps))
          (sym (add-one b)) ahead.1;
    }

-- what is put at the end, where a front was let go
pub behind : {X : Type 0} (front xs ys more : List X) → ys ≡ xs ++ more → front ++ ys ≡ front ++ xs ++ more
behind front xs ys more e = ap (λ l. front ++ l) e ∙ sym (append_assoc front xs more)

pub each_from_all : {X : Type 0} (P : X → Type 0) (xs : List X) → All P xs → Each P xs
each_from_all P [] a = tt
each_from_all {X} P (x ∷ xs) a =
    let first : P x = a 0 x (omega arith) in
    let others : All P xs = λ k d lt. a (suc k) d (omega arith) in
    (first, each_from_all P xs others)

pub each_up_to : (m : ℕ) (ts : List Timed) → AreUpTo m ts → Each (λ u. u.moment ≤ m) ts
each_up_to m [] a = tt
each_up_to m (t ∷ ts) a = (a.0, each_up_to m ts a.1)

each_both : (t : Timed) (arrivals : List Timed) (opps : List Opportunity) → Each (λ o. t.moment < o.moment) opps
    → Each (λ o. Each (λ u. u.moment < o.moment) arrivals) opps
    → Each (λ o. Each (λ u. u.moment < o.moment) (t ∷ arrivals)) opps
each_both t arrivals [] a b = tt
each_both t arrivals (o ∷ opps) a b = ((a.0, b.0), each_both t arrivals opps a.1 b.1)

pub sound_enter : (q : QueueSpec) (opps : List Opportunity) (b : ℕ) (arrivals : List Timed) (packet : Option Timed)
    (used : ℕ)
    (queue departed lost : List Timed) (logged : Bool) (log : List Entry) (t : Timed)
    → Sound q opps b arrivals packet used queue departed lost logged log
    → AreUpTo t.moment arrivals
    → Each (λ o. o.moment ≤ t.moment) (take b opps)
    → Each (λ o. t.moment < o.moment) (drop b opps)
    → Sound q opps b (arrivals ++ t ∷ []) packet used (enqueued q queue t) departed
    (lost ++ map (moved_to t.moment) (dropped q queue t))
    logged (log ++ written logged (entries.Arrival t.moment t.packet.size ∷ drop_line t.moment (dropped q queue t)))
sound_enter q opps b arrivals packet used queue departed lost logged log t s all early late =
    let es = reverse arrivals in
    let os = reverse (take b opps) in
    let back : t ∷ es ≡ reverse (arrivals ++ t ∷ []) = sym (reverse_push arrivals t) in
    let new = tied_arrival q t os es packet used queue departed lost logged log s.tied s.part
    (each_reverse (λ u. u.moment ≤ t.moment) arrivals (each_up_to t.moment arrivals all))
    (each_reverse (λ o. o.moment ≤ t.moment) (take b opps) early)
    in
    let lost' = lost ++ map (moved_to t.moment) (dropped q queue t) in
    let log' = log ++ written logged (entries.Arrival t.moment t.packet.size ∷ drop_line t.moment (dropped q queue t))
    in
    record {
      tied = subst (λ (xs : List Timed). Tied q os xs (pending packet (enqueued q queue t)) used departed lost' logged
          log') back new;
      part = s.part;
      few = s.few;
      order = s.order;
      later = subst (λ (xs : List Timed). Each (λ o. Each (λ u. u.moment < o.moment) xs) (drop b opps)) back
          (each_both t es (drop b opps) late s.later);
    }

-- the log before the next opportunity, and before an arrival
pub log_before_burn : (q : QueueSpec) (opps : List Opportunity) (b : ℕ) (arrivals : List Timed)
    (packet : Option Timed) (used : ℕ)
    (queue departed lost : List Timed) (logged : Bool) (log : List Entry) (o : Opportunity)
    → Sound q opps b arrivals packet used queue departed lost logged log → slice_get opps b ≡ Some o
    → EntriesUpTo o.moment log
log_before_burn q opps b arrivals packet used queue departed lost logged log o s get =
    let back : drop b opps ≡ o ∷ drop (suc b) opps = drop_one opps b o get in
    let whole : opps ≡ take b opps ++ o ∷ drop (suc b) opps = sym (take-append-drop b opps)
    ∙ ap (λ (xs : List Opportunity). take b opps ++ xs) back in
    let before : Each (λ p. p.moment ≤ o.moment) (take b opps) = rising_split (take b opps) (drop (suc b) opps) o
    (subst AreRising whole s.order) in
    let ahead : Each (λ p. Each (λ t. t.moment < p.moment) (reverse arrivals)) (o ∷ drop (suc b) opps)
    = subst (Each (λ p. Each (λ t. t.moment < p.moment) (reverse arrivals))) back s.later
    in
    subst (EntriesUpTo o.moment) s.tied.log_is
    (written_up_to o.moment logged _
    (log_up_to o.moment q (reverse (take b opps)) (reverse arrivals)
    (each_reverse (λ p. p.moment ≤ o.moment) (take b opps) before)
    (each_map (λ t. t.moment < o.moment) (λ t. t.moment ≤ o.moment) (reverse arrivals) (λ t lt. omega arith) ahead.0)))

pub log_before_enter : (q : QueueSpec) (opps : List Opportunity) (b : ℕ) (arrivals : List Timed)
    (packet : Option Timed) (used : ℕ)
    (queue departed lost : List Timed) (logged : Bool) (log : List Entry) (t : Timed)
    → Sound q opps b arrivals packet used queue departed lost logged log
    → AreUpTo t.moment arrivals → Each (λ o. o.moment ≤ t.moment) (take b opps) → EntriesUpTo t.moment log
log_before_enter q opps b arrivals packet used queue departed lost logged log t s all early =
    subst (EntriesUpTo t.moment) s.tied.log_is
    (written_up_to t.moment logged _
    (log_up_to t.moment q (reverse (take b opps)) (reverse arrivals)
    (each_reverse (λ o. o.moment ≤ t.moment) (take b opps) early)
    (each_reverse (λ u. u.moment ≤ t.moment) arrivals (each_up_to t.moment arrivals all))))
