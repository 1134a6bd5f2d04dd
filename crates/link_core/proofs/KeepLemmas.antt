-- What the queue keeps.
use Rattle.std.proofs.Common.{◌≡◌, ℕ, ◌<◌, ◌≤◌, ◌++◌, List, [], ◌∷◌, map, refl, ap, sym, subst, ◌∙◌}
use Rattle.std.proofs.lemmas.Bool.{le-leb, lt-leb, cond_both}
use Rattle.packet_record.specs.declared.packet.Timed.{Timed}
use Rattle.packet_queue.specs.declared.spec.QueueKind.{QueueKind}
use Rattle.packet_queue.specs.declared.spec.QueueKind.TheVariants.{Infinite, DropTail, DropHead}
use Rattle.packet_queue.specs.declared.spec.QueueSpec.{QueueSpec}
use Rattle.packet_record.specs.Packets.{moved_to}
use Rattle.packet_queue.specs.Queues.{fits, fitting, enqueued, enqueued_by, dropped}
use Rattle.trace_reader.specs.declared.opportunity.Opportunity.{Opportunity}
use Rattle.link_core.specs.Stream.{waiting, ahead}
use Rattle.trace_reader.specs.Orders.{Each}
use Rattle.link_core.specs.inside.Orders.{Rising, Falling}
use Rattle.trace_reader.specs.Opps.{up_to}
use Rattle.link_core.specs.Links.{below}
use Rattle.link_core.specs.inside.Back.{sent, entered, keep, dropped_at, losses}
use Rattle.link_core.proofs.StreamLemmas.{ahead_waiting}
use Rattle.link_core.proofs.SentLemmas.{each_append, each_front, each_back, each_map, below_none, none_below}

pub each_fitting : (q : QueueSpec) (P : Timed → Type 0) (ts : List Timed) → Each P ts → Each P (fitting q ts)
each_fitting q P [] a = tt
each_fitting q P (t ∷ ts) a = cond_both (fits q (t ∷ ts)) (t ∷ ts) (fitting q ts) (Each P) (λ _. a)
    (λ _. each_fitting q P ts a.1)

each_enqueued_by : (k : QueueKind) (q : QueueSpec) (P : Timed → Type 0) (ts : List Timed) (t : Timed) → Each P ts
    → P t → Each P (enqueued_by k q ts t)
each_enqueued_by Infinite q P ts t a p = each_append P ts (t ∷ []) a (p, tt)
each_enqueued_by DropTail q P ts t a p = cond_both (fits q (ts ++ t ∷ [])) (ts ++ t ∷ []) ts (Each P)
    (λ _. each_append P ts (t ∷ []) a (p, tt)) (λ _. a)
each_enqueued_by DropHead q P ts t a p = each_fitting q P (ts ++ t ∷ []) (each_append P ts (t ∷ []) a (p, tt))

pub each_enqueued : (q : QueueSpec) (P : Timed → Type 0) (ts : List Timed) (t : Timed) → Each P ts → P t
    → Each P (enqueued q ts t)
each_enqueued q P ts t a p = each_enqueued_by q.kind q P ts t a p

pub rising_fitting : (q : QueueSpec) (ts : List Timed) → Rising ts → Rising (fitting q ts)
rising_fitting q [] r = tt
rising_fitting q (t ∷ ts) r = cond_both (fits q (t ∷ ts)) (t ∷ ts) (fitting q ts) Rising (λ _. r)
    (λ _. rising_fitting q ts r.1)

pub rising_push : (ts : List Timed) (t : Timed) → Rising ts → Each (λ u. u.moment ≤ t.moment) ts → Rising (ts ++ t ∷ [])
rising_push [] t r a = (tt, tt)
rising_push (x ∷ xs) t r a = (
  each_append (λ u. x.moment ≤ u.moment) xs (t ∷ []) r.0 (a.0, tt),
  rising_push xs t r.1 a.1,
)

rising_enqueued_by : (k : QueueKind) (q : QueueSpec) (ts : List Timed) (t : Timed) → Rising ts
    → Each (λ u. u.moment ≤ t.moment) ts → Rising (enqueued_by k q ts t)
rising_enqueued_by Infinite q ts t r a = rising_push ts t r a
rising_enqueued_by DropTail q ts t r a = cond_both (fits q (ts ++ t ∷ [])) (ts ++ t ∷ []) ts Rising
    (λ _. rising_push ts t r a) (λ _. r)
rising_enqueued_by DropHead q ts t r a = rising_fitting q (ts ++ t ∷ []) (rising_push ts t r a)

pub rising_enqueued : (q : QueueSpec) (ts : List Timed) (t : Timed) → Rising ts → Each (λ u. u.moment ≤ t.moment) ts
    → Rising (enqueued q ts t)
rising_enqueued q ts t r a = rising_enqueued_by q.kind q ts t r a

pub rising_back : (xs ys : List Timed) → Rising (xs ++ ys) → Rising ys
rising_back [] ys r = r
rising_back (x ∷ xs) ys r = rising_back xs ys r.1

-- others in place of those behind
rising_replace : (q : QueueSpec) (xs ys : List Timed) (t : Timed) → Rising (xs ++ ys)
    → Each (λ u. u.moment ≤ t.moment) (xs ++ ys) → Rising (xs ++ enqueued q ys t)
rising_replace q [] ys t r a = rising_enqueued q ys t r a
rising_replace q (x ∷ xs) ys t r a = (
  each_append (λ u. x.moment ≤ u.moment) xs (enqueued q ys t)
      (each_front (λ u. x.moment ≤ u.moment) xs ys r.0)
      (each_enqueued q (λ u. x.moment ≤ u.moment) ys t (each_back (λ u. x.moment ≤ u.moment) xs ys r.0) a.0),
  rising_replace q xs ys t r.1 a.1,
)

each_entered : (q : QueueSpec) (n : ℕ) (kept : List Timed) (t : Timed) (P : Timed → Type 0) → Each P kept → P t
    → Each P (entered q n kept t)
each_entered q n kept t P a p =
    let both : Each P (ahead n kept ++ waiting n kept) = subst (Each P) (sym (ahead_waiting n kept)) a in
    each_append P (ahead n kept) (enqueued q (waiting n kept) t)
    (each_front P (ahead n kept) (waiting n kept) both)
    (each_enqueued q P (waiting n kept) t (each_back P (ahead n kept) (waiting n kept) both) p)

pub rising_entered : (q : QueueSpec) (n : ℕ) (kept : List Timed) (t : Timed) → Rising kept
    → Each (λ u. u.moment ≤ t.moment) kept → Rising (entered q n kept t)
rising_entered q n kept t r a =
    rising_replace q (ahead n kept) (waiting n kept) t (subst Rising (sym (ahead_waiting n kept)) r)
    (subst (Each (λ u. u.moment ≤ t.moment)) (sym (ahead_waiting n kept)) a)

pub keep_each : (q : QueueSpec) (opps : List Opportunity) (arrivals : List Timed) (P : Timed → Type 0)
    → Each P arrivals → Each P (keep q opps arrivals)
keep_each q opps [] P a = tt
keep_each q opps (t ∷ earlier) P a =
    each_entered q (sent (keep q opps earlier) (up_to t.moment opps)) (keep q opps earlier) t P
    (keep_each q opps earlier P a.1) a.0

pub keep_rising : (q : QueueSpec) (opps : List Opportunity) (arrivals : List Timed) → Falling arrivals
    → Rising (keep q opps arrivals)
keep_rising q opps [] f = tt
keep_rising q opps (t ∷ earlier) f =
    rising_entered q (sent (keep q opps earlier) (up_to t.moment opps)) (keep q opps earlier) t
    (keep_rising q opps earlier f.1)
    (keep_each q opps earlier (λ u. u.moment ≤ t.moment) f.0)

-- all of these opportunities, and none after them
pub up_to_all : (m : ℕ) (opps : List Opportunity) → Each (λ o. o.moment ≤ m) opps → up_to m opps ≡ opps
up_to_all m [] a = refl
up_to_all m (o ∷ earlier) a = rw (le-leb o.moment m a.0)
    (ap (λ (xs : List Opportunity). o ∷ xs) (up_to_all m earlier a.1))

pub up_to_before : (m : ℕ) (o : Opportunity) (earlier : List Opportunity) → m < o.moment
    → up_to m (o ∷ earlier) ≡ up_to m earlier
up_to_before m o earlier lt = rw (lt-leb o.moment m lt)

-- a later opportunity leaves what was kept and lost
pub keep_burn : (q : QueueSpec) (o : Opportunity) (opps : List Opportunity) (arrivals : List Timed)
    → Each (λ t. t.moment < o.moment) arrivals
    → keep q (o ∷ opps) arrivals ≡ keep q opps arrivals
keep_burn q o opps [] a = refl
keep_burn q o opps (t ∷ earlier) a =
    ap (λ (os : List Opportunity). entered q (sent (keep q (o ∷ opps) earlier) os) (keep q (o ∷ opps) earlier) t)
    (up_to_before t.moment o opps a.0)
    ∙ ap (λ (ks : List Timed). entered q (sent ks (up_to t.moment opps)) ks t) (keep_burn q o opps earlier a.1)

pub dropped_burn : (q : QueueSpec) (o : Opportunity) (opps : List Opportunity) (arrivals : List Timed) (t : Timed)
    → Each (λ t. t.moment < o.moment) (t ∷ arrivals)
    → dropped_at q (o ∷ opps) (keep q (o ∷ opps) arrivals) t ≡ dropped_at q opps (keep q opps arrivals) t
dropped_burn q o opps arrivals t a =
    ap (λ (ks : List Timed). dropped_at q (o ∷ opps) ks t) (keep_burn q o opps arrivals a.1)
    ∙ ap (λ (os : List Opportunity). dropped q (waiting (sent (keep q opps arrivals) os) (keep q opps arrivals)) t)
    (up_to_before t.moment o opps a.0)

pub losses_burn : (q : QueueSpec) (o : Opportunity) (opps : List Opportunity) (arrivals : List Timed)
    → Each (λ t. t.moment < o.moment) arrivals
    → losses q (o ∷ opps) arrivals ≡ losses q opps arrivals
losses_burn q o opps [] a = refl
losses_burn q o opps (t ∷ earlier) a =
    ap (λ (xs : List Timed). xs ++ map (moved_to t.moment) (dropped_at q (o ∷ opps) (keep q (o ∷ opps) earlier) t))
    (losses_burn q o opps earlier a.1)
    ∙ ap (λ (xs : List Timed). losses q opps earlier ++ map (moved_to t.moment) xs) (dropped_burn q o opps earlier t a)

-- before an opportunity that isn't after the packet's moment, nothing more arrived
pub behind_enqueued : (q : QueueSpec) (ts : List Timed) (t : Timed) (opps : List Opportunity)
    → Each (λ o. o.moment ≤ t.moment) opps
    → Each (λ o. below o.moment ts ≡ 0 → below o.moment (enqueued q ts t) ≡ 0) opps
behind_enqueued q ts t opps a =
    each_map (λ o. o.moment ≤ t.moment) (λ o. below o.moment ts ≡ 0 → below o.moment (enqueued q ts t) ≡ 0) opps
    (λ o le none. below_none o.moment (enqueued q ts t)
    (each_enqueued q (λ u. o.moment ≤ u.moment) ts t (none_below o.moment ts none) le)) a
