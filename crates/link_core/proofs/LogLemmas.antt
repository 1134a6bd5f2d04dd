-- The log, as opportunities are burnt and packets arrive.
use Rattle.std.proofs.Common.{◌≡◌, ℕ, ◌<◌, ◌≤◌, ◌++◌, List, [], ◌∷◌, nat_lt, nat_le, filter, refl, ap, ◌∙◌}
use Rattle.std.proofs.lemmas.Bool.{le-leb, lt-leb, lt-ltb, le-ltb}
use Rattle.packet_record.specs.declared.packet.Timed.{Timed}
use Rattle.packet_queue.specs.declared.spec.QueueSpec.{QueueSpec}
use Rattle.trace_reader.specs.declared.opportunity.Opportunity.{Opportunity}
use Rattle.trace_reader.specs.Orders.{Each}
use Rattle.link_core.specs.Links.{Lines, drop_line}
use Rattle.link_core.specs.inside.Back.{opportunity_lines, arrival_lines, dropped_at, keep, merged}
use Rattle.shell_log.specs.declared.entry.Entry.TheVariants as entries
use Rattle.link_core.proofs.KeepLemmas.{dropped_burn}

-- lines of a later opportunity
pub merged_burn : (l : Lines) (opps arrivals : List Lines) → Each (λ a. a.0 < l.0) arrivals
    → merged (l ∷ opps) arrivals ≡ l ∷ merged opps arrivals
merged_burn l opps [] a = refl
merged_burn l opps (x ∷ earlier) a = rw (lt-ltb x.0 l.0 a.0, lt-leb l.0 x.0 a.0)

later_none : (m : ℕ) (opps : List Lines) → Each (λ o. o.0 ≤ m) opps → filter (λ (o : Lines). nat_lt m o.0) opps ≡ []
later_none m [] a = refl
later_none m (o ∷ earlier) a = rw (le-ltb m o.0 a.0) (later_none m earlier a.1)

earlier_all : (m : ℕ) (opps : List Lines) → Each (λ o. o.0 ≤ m) opps → filter (λ (o : Lines). nat_le o.0 m) opps ≡ opps
earlier_all m [] a = refl
earlier_all m (o ∷ earlier) a = rw (le-leb o.0 m a.0) (ap (λ (xs : List Lines). o ∷ xs) (earlier_all m earlier a.1))

-- lines of a later arrival
pub merged_arrive : (l : Lines) (opps arrivals : List Lines) → Each (λ o. o.0 ≤ l.0) opps
    → merged opps (l ∷ arrivals) ≡ l ∷ merged opps arrivals
merged_arrive l opps arrivals a =
    ap (λ (xs : List Lines). xs ++ l ∷ merged (filter (λ (o : Lines). nat_le o.0 l.0) opps) arrivals)
    (later_none l.0 opps a)
    ∙ ap (λ (xs : List Lines). l ∷ merged xs arrivals) (earlier_all l.0 opps a)

pub opportunity_moments : (m : ℕ) (kept : List Timed) (opps : List Opportunity) → Each (λ o. o.moment ≤ m) opps
    → Each (λ l. l.0 ≤ m) (opportunity_lines kept opps)
opportunity_moments m kept [] a = tt
opportunity_moments m kept (o ∷ earlier) a = (a.0, opportunity_moments m kept earlier a.1)

pub arrival_moments : (m : ℕ) (q : QueueSpec) (opps : List Opportunity) (arrivals : List Timed)
    → Each (λ t. t.moment < m) arrivals
    → Each (λ l. l.0 < m) (arrival_lines q opps arrivals)
arrival_moments m q opps [] a = tt
arrival_moments m q opps (t ∷ earlier) a = (a.0, arrival_moments m q opps earlier a.1)

pub arrival_lines_burn : (q : QueueSpec) (o : Opportunity) (opps : List Opportunity) (arrivals : List Timed)
    → Each (λ t. t.moment < o.moment) arrivals
    → arrival_lines q (o ∷ opps) arrivals ≡ arrival_lines q opps arrivals
arrival_lines_burn q o opps [] a = refl
arrival_lines_burn q o opps (t ∷ earlier) a =
    let line : List Timed → Lines = λ xs. (t.moment, entries.Arrival t.moment t.packet.size ∷ drop_line t.moment xs) in
    ap (λ (ls : List Lines). line (dropped_at q (o ∷ opps) (keep q (o ∷ opps) earlier) t) ∷ ls)
    (arrival_lines_burn q o opps earlier a.1)
    ∙ ap (λ (xs : List Timed). line xs ∷ arrival_lines q opps earlier) (dropped_burn q o opps earlier t a)
