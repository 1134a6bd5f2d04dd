-- Sums and what is kept, over lists in order and over the same lists with the latest first.
use Rattle.std.proofs.Common.{◌≡◌, ℕ, ◌++◌, Bool, true, false, cond, List, [], ◌∷◌, map, reverse, fold, nat_le, refl}
use Rattle.std.proofs.Common.{ap, sym, ◌∙◌}
use Rattle.std.proofs.lemmas.List.{append-nil, append_assoc, reverse-append}
use Rattle.std.proofs.lemmas.List.Sums.{fold-append}
use Rattle.packet_record.specs.declared.packet.Timed.{Timed}
use Rattle.packet_queue.specs.declared.spec.QueueSpec.{QueueSpec}
use Rattle.packet_record.specs.Packets.{moved_to}
use Rattle.packet_queue.specs.Queues.{enqueued, dropped}
use Rattle.shell_log.specs.declared.entry.Entry.TheVariants as entries
use Rattle.trace_reader.specs.declared.opportunity.Opportunity.{Opportunity}
use Rattle.trace_reader.specs.Opps.{up_to}
use Rattle.trace_reader.proofs.OrderLemmas.{up_to-append}
use Rattle.link_core.specs.Stream.{waiting, ahead}
use Rattle.link_core.specs.Links.{sent_with, sent, sent_before, keep_with, keep, drop_with, lost_from, link_lost}
use Rattle.link_core.specs.Links.{sums_sent, Lines, drop_line, arrival_lines}
use Rattle.link_core.specs.inside.Back as back

pub reverse_cons : {X : Type 0} (x : X) (xs : List X) → reverse (x ∷ xs) ≡ reverse xs ++ x ∷ []
reverse_cons x xs = reverse-append (x ∷ []) xs

pub sent_more : (kept : List Timed) (opps : List Opportunity) (o : Opportunity)
    → sent kept (opps ++ o ∷ []) ≡ sent_with kept (sent kept opps) o
sent_more kept opps o = fold-append (sent_with kept) 0 opps (o ∷ [])

pub sent_back : (kept : List Timed) (earlier : List Opportunity) → sent kept (reverse earlier) ≡ back.sent kept earlier
sent_back kept [] = refl
sent_back kept (o ∷ earlier) =
    ap (sent kept) (reverse_cons o earlier) ∙ sent_more kept (reverse earlier) o
    ∙ ap (λ n. sent_with kept n o) (sent_back kept earlier)

one_back : (b : Bool) (o : Opportunity) → cond b (o ∷ []) [] ≡ reverse (cond b (o ∷ []) [])
one_back true o = refl
one_back false o = refl

up_to_back : (m : ℕ) (earlier : List Opportunity) → up_to m (reverse earlier) ≡ reverse (up_to m earlier)
up_to_back m [] = refl
up_to_back m (o ∷ earlier) =
    ap (up_to m) (reverse_cons o earlier) ∙ up_to-append m (reverse earlier) (o ∷ [])
    ∙ ap (λ (os : List Opportunity). os ++ up_to m (o ∷ [])) (up_to_back m earlier)
    ∙ ap (λ (os : List Opportunity). reverse (up_to m earlier) ++ os) (one_back (nat_le o.moment m) o)
    ∙ sym (reverse-append (up_to m (o ∷ [])) (up_to m earlier))
    ∙ ap reverse (sym (up_to-append m (o ∷ []) earlier))

pub before_back : (os : List Opportunity) (kept : List Timed) (t : Timed)
    → sent_before (reverse os) kept t ≡ back.sent kept (up_to t.moment os)
before_back os kept t = ap (sent kept) (up_to_back t.moment os) ∙ sent_back kept (up_to t.moment os)

pub keep_with_back : (q : QueueSpec) (os : List Opportunity) (kept : List Timed) (t : Timed)
    → keep_with q (reverse os) kept t ≡ back.entered q (back.sent kept (up_to t.moment os)) kept t
keep_with_back q os kept t = ap (λ n. ahead n kept ++ enqueued q (waiting n kept) t) (before_back os kept t)

pub drop_with_back : (q : QueueSpec) (os : List Opportunity) (kept : List Timed) (t : Timed)
    → drop_with q (reverse os) kept t ≡ back.dropped_at q os kept t
drop_with_back q os kept t = ap (λ n. dropped q (waiting n kept) t) (before_back os kept t)

pub keep_back : (q : QueueSpec) (os : List Opportunity) (earlier : List Timed)
    → keep q (reverse os) (reverse earlier) ≡ back.keep q os earlier
keep_back q os [] = refl
keep_back q os (t ∷ earlier) =
    ap (keep q (reverse os)) (reverse_cons t earlier)
    ∙ fold-append (keep_with q (reverse os)) [] (reverse earlier) (t ∷ [])
    ∙ ap (λ (ks : List Timed). keep_with q (reverse os) ks t) (keep_back q os earlier)
    ∙ keep_with_back q os (back.keep q os earlier) t

lost_more : (q : QueueSpec) (opps : List Opportunity) (kept xs : List Timed) (t : Timed)
    → lost_from q opps kept (xs ++ t ∷ []) ≡ lost_from q opps kept xs
    ++ map (moved_to t.moment) (drop_with q opps (fold (keep_with q opps) kept xs) t)
lost_more q opps kept [] t = append-nil (map (moved_to t.moment) (drop_with q opps kept t))
lost_more q opps kept (x ∷ xs) t =
    ap (λ (l : List Timed). map (moved_to x.moment) (drop_with q opps kept x) ++ l)
    (lost_more q opps (keep_with q opps kept x) xs t)
    ∙ sym (append_assoc (map (moved_to x.moment) (drop_with q opps kept x))
    (lost_from q opps (keep_with q opps kept x) xs) _)

pub lost_back : (q : QueueSpec) (os : List Opportunity) (earlier : List Timed)
    → link_lost q (reverse os) (reverse earlier) ≡ back.losses q os earlier
lost_back q os [] = refl
lost_back q os (t ∷ earlier) =
    ap (link_lost q (reverse os)) (reverse_cons t earlier)
    ∙ lost_more q (reverse os) [] (reverse earlier) t
    ∙ ap (λ (l : List Timed). l ++ map (moved_to t.moment)
    (drop_with q (reverse os) (keep q (reverse os) (reverse earlier)) t)) (lost_back q os earlier)
    ∙ ap (λ (ks : List Timed). back.losses q os earlier ++ map (moved_to t.moment) (drop_with q (reverse os) ks t))
    (keep_back q os earlier)
    ∙ ap (λ (ts : List Timed). back.losses q os earlier ++ map (moved_to t.moment) ts)
    (drop_with_back q os (back.keep q os earlier) t)

abbrev arrival_line : QueueSpec → List Opportunity → List Timed → Timed → Lines
arrival_line q opps kept t = (
  t.moment,
  entries.Arrival t.moment t.packet.size ∷ drop_line t.moment
      (drop_with q opps kept t),
)

arrivals_more : (q : QueueSpec) (opps : List Opportunity) (kept xs : List Timed) (t : Timed)
    → arrival_lines q opps kept (xs ++ t ∷ []) ≡ arrival_lines q opps kept xs
    ++ arrival_line q opps (fold (keep_with q opps) kept xs) t ∷ []
arrivals_more q opps kept [] t = refl
arrivals_more q opps kept (x ∷ xs) t =
    ap (λ (l : List Lines). arrival_line q opps kept x ∷ l) (arrivals_more q opps (keep_with q opps kept x) xs t)

pub arrivals_back : (q : QueueSpec) (os : List Opportunity) (earlier : List Timed)
    → arrival_lines q (reverse os) [] (reverse earlier) ≡ reverse (back.arrival_lines q os earlier)
arrivals_back q os [] = refl
arrivals_back q os (t ∷ earlier) =
    let line : List Timed → Lines = λ xs. (t.moment, entries.Arrival t.moment t.packet.size ∷ drop_line t.moment xs) in
    ap (arrival_lines q (reverse os) []) (reverse_cons t earlier)
    ∙ arrivals_more q (reverse os) [] (reverse earlier) t
    ∙ ap (λ (l : List Lines). l ++ arrival_line q (reverse os) (keep q (reverse os) (reverse earlier)) t ∷ [])
    (arrivals_back q os earlier)
    ∙ ap (λ (ks : List Timed). reverse (back.arrival_lines q os earlier) ++ arrival_line q (reverse os) ks t ∷ [])
    (keep_back q os earlier)
    ∙ ap (λ (ts : List Timed). reverse (back.arrival_lines q os earlier) ++ line ts ∷ [])
    (drop_with_back q os (back.keep q os earlier) t)
    ∙ sym (reverse_cons (line (back.dropped_at q os (back.keep q os earlier) t)) (back.arrival_lines q os earlier))

pub sums_more : (kept : List Timed) (n : ℕ) (opps : List Opportunity) (o : Opportunity) (later : List Opportunity)
    → sums_sent kept n (opps ++ o ∷ later) ≡ sums_sent kept n opps
    ++ sent_with kept (fold (sent_with kept) n opps) o ∷ sums_sent kept
    (sent_with kept (fold (sent_with kept) n opps) o) later
sums_more kept n [] o later = refl
sums_more kept n (p ∷ opps) o later = ap (λ (l : List ℕ). sent_with kept n p ∷ l)
    (sums_more kept (sent_with kept n p) opps o later)
