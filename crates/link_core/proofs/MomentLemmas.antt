-- The log's entries are no later than what has been.
use Rattle.std.proofs.Common.{ℕ, ◌≤◌, ◌==◌, Bool, List, [], ◌∷◌, length, map, filter, nat_lt, nat_le}
use Rattle.std.proofs.lemmas.Bool.{cond_both}
use Rattle.packet_record.specs.declared.packet.Timed.{Timed}
use Rattle.packet_queue.specs.declared.spec.QueueSpec.{QueueSpec}
use Rattle.packet_record.specs.Packets.{bytes}
use Rattle.shell_log.specs.declared.entry.Entry.TheVariants as entries
use Rattle.shell_log.specs.Entries.{AreUpTo}
use Rattle.shell_log.proofs.LogLemmas.{up_to_append}
use Rattle.trace_reader.specs.declared.opportunity.Opportunity.{Opportunity}
use Rattle.trace_reader.specs.Orders.{Each}
use Rattle.link_core.specs.Links.{Lines, departure_line, drop_line_by}
use Rattle.link_core.specs.inside.Back.{keep, ended, dropped_at, opportunity_lines, arrival_lines, merged, in_order}
use Rattle.link_core.specs.inside.Back.{log_of}
use Rattle.link_core.proofs.SentLemmas.{each_append}

each_filter : {X : Type 0} (P : X → Type 0) (test : X → Bool) (xs : List X) → Each P xs → Each P (filter test xs)
each_filter P test [] a = tt
each_filter P test (x ∷ xs) a =
    let ih = each_filter P test xs a.1 in
    cond_both (test x) (x ∷ filter test xs) (filter test xs) (Each P) (λ _. (a.0, ih)) (λ _. ih)

each_merged : (P : Lines → Type 0) (opps arrivals : List Lines) → Each P opps → Each P arrivals
    → Each P (merged opps arrivals)
each_merged P opps [] a b = a
each_merged P opps (l ∷ earlier) a b =
    each_append P (filter (λ (o : Lines). nat_lt l.0 o.0) opps)
    (l ∷ merged (filter (λ (o : Lines). nat_le o.0 l.0) opps) earlier)
    (each_filter P (λ (o : Lines). nat_lt l.0 o.0) opps a) (
      b.0,
      each_merged P (filter (λ (o : Lines). nat_le o.0 l.0) opps) earlier
          (each_filter P (λ (o : Lines). nat_le o.0 l.0) opps a) b.1,
    )

up_to_in_order : (m : ℕ) (ls : List Lines) → Each (λ l. AreUpTo m l.1) ls → AreUpTo m (in_order ls)
up_to_in_order m [] a = tt
up_to_in_order m (l ∷ earlier) a = up_to_append m (in_order earlier) l.1 (up_to_in_order m earlier a.1) a.0

departures_up_to : (m moment : ℕ) (ts : List Timed) → moment ≤ m → AreUpTo m (map (departure_line moment) ts)
departures_up_to m moment [] le = tt
departures_up_to m moment (t ∷ ts) le = (le, departures_up_to m moment ts le)

opportunities_up_to : (m : ℕ) (kept : List Timed) (opps : List Opportunity) → Each (λ o. o.moment ≤ m) opps
    → Each (λ l. AreUpTo m l.1) (opportunity_lines kept opps)
opportunities_up_to m kept [] a = tt
opportunities_up_to m kept (o ∷ earlier) a = (
  (a.0, departures_up_to m o.moment (ended kept o earlier) a.0),
  opportunities_up_to m kept earlier a.1,
)

drop_up_to : (m moment packets size : ℕ) → moment ≤ m → AreUpTo m (drop_line_by moment packets size)
drop_up_to m moment packets size le = cond_both (packets == 0) [] (entries.Drop moment packets size ∷ []) (AreUpTo m)
    (λ _. tt) (λ _. (le, tt))

arrivals_up_to : (m : ℕ) (q : QueueSpec) (opps : List Opportunity) (arrivals : List Timed)
    → Each (λ t. t.moment ≤ m) arrivals
    → Each (λ l. AreUpTo m l.1) (arrival_lines q opps arrivals)
arrivals_up_to m q opps [] a = tt
arrivals_up_to m q opps (t ∷ earlier) a =
    let d = dropped_at q opps (keep q opps earlier) t in
    ((a.0, drop_up_to m t.moment (length d) (bytes d) a.0), arrivals_up_to m q opps earlier a.1)

pub log_up_to : (m : ℕ) (q : QueueSpec) (opps : List Opportunity) (arrivals : List Timed)
    → Each (λ o. o.moment ≤ m) opps → Each (λ t. t.moment ≤ m) arrivals
    → AreUpTo m (log_of q opps arrivals)
log_up_to m q opps arrivals a b =
    up_to_in_order m (merged (opportunity_lines (keep q opps arrivals) opps) (arrival_lines q opps arrivals))
    (each_merged (λ l. AreUpTo m l.1) (opportunity_lines (keep q opps arrivals) opps) (arrival_lines q opps arrivals)
    (opportunities_up_to m (keep q opps arrivals) opps a) (arrivals_up_to m q opps arrivals b))
