-- The two steps of a link: an opportunity is burnt, and a packet arrives.
use Rattle.std.proofs.Common.{◌≡◌, ℕ, ◌+◌, ◌<◌, ◌≤◌, ◌++◌, Bool, List, ◌∷◌, Option, Some, None, map, arith, ap, sym}
use Rattle.std.proofs.Common.{subst, ◌∙◌}
use Prim.Native.Nat.{min}
use Rattle.packet_record.specs.declared.packet.Timed.{Timed}
use Rattle.packet_queue.specs.declared.spec.QueueSpec.{QueueSpec}
use Rattle.packet_record.specs.Packets.{bytes, moved_to}
use Rattle.packet_queue.specs.Queues.{enqueued, dropped}
use Rattle.shell_log.specs.declared.entry.Entry.{Entry}
use Rattle.shell_log.specs.declared.entry.Entry.TheVariants as entries
use Rattle.trace_reader.specs.declared.opportunity.Opportunity.{Opportunity}
use Rattle.link_core.specs.Stream.{waiting, ahead}
use Rattle.link_core.specs.inside.Stream.{carried, rest, begun}
use Rattle.trace_reader.specs.Orders.{Each}
use Rattle.link_core.specs.inside.Orders.{Rising}
use Rattle.trace_reader.specs.Opps.{up_to}
use Rattle.link_core.specs.Links.{below, Lines, drop_line}
use Rattle.link_core.specs.inside.Back.{sent, entered, keep, dropped_at, losses, ended, departures, opportunity_lines}
use Rattle.link_core.specs.inside.Back.{arrival_lines, merged, in_order, log_of}
use Rattle.link_core.specs.inside.Written.{written}
use Rattle.link_core.specs.inside.State.{Tied, served_lines, pending, IsPart}
use Rattle.link_core.proofs.WrittenLemmas.{written_append}
use Rattle.link_core.proofs.StreamLemmas.{rest_more, begun_more, ending_more, rest_capped, begun_capped, ending_capped}
use Rattle.link_core.proofs.StreamLemmas.{waiting_clean, waiting_part, ahead_waiting, bytes_ahead, begun_ahead}
use Rattle.link_core.proofs.StreamLemmas.{rest_ahead_clean, rest_ahead_part}
use Rattle.link_core.proofs.SentLemmas.{below_whole, sent_le, same_sent, same_departures, same_lines}
use Rattle.link_core.proofs.KeepLemmas.{keep_each, keep_rising, keep_burn, losses_burn, up_to_all, behind_enqueued}
use Rattle.link_core.proofs.LogLemmas.{merged_burn, merged_arrive, opportunity_moments, arrival_moments}
use Rattle.link_core.proofs.LogLemmas.{arrival_lines_burn}

sent_burn : (q : QueueSpec) (o : Opportunity) (opps : List Opportunity) (arrivals : List Timed)
    → Each (λ t. t.moment < o.moment) arrivals
    → sent (keep q opps arrivals) (o ∷ opps) ≡ min (sent (keep q opps arrivals) opps + o.bytes)
    (bytes (keep q opps arrivals))
sent_burn q o opps arrivals a =
    ap (λ n. min (sent (keep q opps arrivals) opps + o.bytes) n)
    (below_whole o.moment (keep q opps arrivals) (keep_each q opps arrivals (λ t. t.moment < o.moment) a))

ended_burn : (q : QueueSpec) (o : Opportunity) (opps : List Opportunity) (arrivals inside : List Timed) (used : ℕ)
    → Each (λ t. t.moment < o.moment) arrivals
    → rest (sent (keep q opps arrivals) opps) (keep q opps arrivals) ≡ inside
    → begun (sent (keep q opps arrivals) opps) (keep q opps arrivals) ≡ used
    → ended (keep q opps arrivals) o opps ≡ carried (used + o.bytes) inside
ended_burn q o opps arrivals inside used a r b =
    let kept = keep q opps arrivals in
    let n = sent kept opps in
    ending_capped n (sent kept (o ∷ opps)) (n + o.bytes) kept (sent_burn q o opps arrivals a)
    ∙ ending_more n o.bytes kept (sent_le kept opps)
    ∙ ap (λ u. carried (u + o.bytes) (rest n kept)) b
    ∙ ap (λ (xs : List Timed). carried (used + o.bytes) xs) r

pub tied_burn : (q : QueueSpec) (o : Opportunity) (opps : List Opportunity) (arrivals inside : List Timed) (used : ℕ)
    (departed lost : List Timed) (logged : Bool) (log : List Entry)
    → Tied q opps arrivals inside used departed lost logged log
    → Each (λ t. t.moment < o.moment) arrivals → Each (λ p. p.moment ≤ o.moment) opps
    → Tied q (o ∷ opps) arrivals (rest (used + o.bytes) inside) (begun (used + o.bytes) inside)
    (departed ++ map (moved_to o.moment) (carried (used + o.bytes) inside)) lost logged
    (log ++ written logged (served_lines o (carried (used + o.bytes) inside)))
tied_burn q o opps arrivals inside used departed lost logged log tied a b =
    let kept = keep q opps arrivals in
    let same : keep q (o ∷ opps) arrivals ≡ kept = keep_burn q o opps arrivals a in
    let n = sent kept opps in
    let le : n ≤ bytes kept = sent_le kept opps in
    let now : sent kept (o ∷ opps) ≡ min (n + o.bytes) (bytes kept) = sent_burn q o opps arrivals a in
    let out : ended kept o opps ≡ carried (used + o.bytes) inside = ended_burn q o opps arrivals inside used a
    tied.inside_is tied.used_is in
    record {
      inside_is =
          ap (λ (ks : List Timed). rest (sent ks (o ∷ opps)) ks) same
          ∙ rest_capped (sent kept (o ∷ opps)) (n + o.bytes) kept now
          ∙ sym (rest_more n o.bytes kept le)
          ∙ ap (λ u. rest (u + o.bytes) (rest n kept)) tied.used_is
          ∙ ap (λ (xs : List Timed). rest (used + o.bytes) xs) tied.inside_is;
      used_is =
          ap (λ (ks : List Timed). begun (sent ks (o ∷ opps)) ks) same
          ∙ begun_capped (sent kept (o ∷ opps)) (n + o.bytes) kept now
          ∙ sym (begun_more n o.bytes kept le)
          ∙ ap (λ u. begun (u + o.bytes) (rest n kept)) tied.used_is
          ∙ ap (λ (xs : List Timed). begun (used + o.bytes) xs) tied.inside_is;
      departed_is =
          ap (λ (ks : List Timed). departures ks (o ∷ opps)) same
          ∙ ap (λ (xs : List Timed). departures kept opps ++ map (moved_to o.moment) xs) out
          ∙ ap (λ (xs : List Timed). xs ++ map (moved_to o.moment) (carried (used + o.bytes) inside)) tied.departed_is;
      lost_is = losses_burn q o opps arrivals a ∙ tied.lost_is;
      log_is =
          ap (written logged) (ap (λ (ks : List Timed). in_order
          (merged (opportunity_lines ks (o ∷ opps)) (arrival_lines q (o ∷ opps) arrivals))) same
          ∙ ap (λ (ls : List Lines). in_order (merged (opportunity_lines kept (o ∷ opps)) ls))
          (arrival_lines_burn q o opps arrivals a)
          ∙ ap in_order (merged_burn (o.moment, served_lines o (ended kept o opps)) (opportunity_lines kept opps)
          (arrival_lines q opps arrivals)
          (arrival_moments o.moment q opps arrivals a))
          ∙ ap (λ (xs : List Timed). log_of q opps arrivals ++ served_lines o xs) out)
          ∙ written_append logged (log_of q opps arrivals) (served_lines o (carried (used + o.bytes) inside))
          ∙ ap (λ (es : List Entry). es ++ written logged (served_lines o (carried (used + o.bytes) inside)))
          tied.log_is;
      arrivals_fall = tied.arrivals_fall;
      opps_fall = (b, tied.opps_fall);
    }

-- by what waited
pub tied_arrive : (q : QueueSpec) (t : Timed) (opps : List Opportunity) (arrivals inside : List Timed) (used : ℕ)
    (departed lost : List Timed) (logged : Bool) (log : List Entry) (queue inside' : List Timed)
    → Tied q opps arrivals inside used departed lost logged log
    → waiting (sent (keep q opps arrivals) opps) (keep q opps arrivals) ≡ queue
    → rest (sent (keep q opps arrivals) opps) (ahead (sent (keep q opps arrivals) opps) (keep q opps arrivals)
    ++ enqueued q queue t) ≡ inside'
    → Each (λ u. u.moment ≤ t.moment) arrivals → Each (λ o. o.moment ≤ t.moment) opps
    → Tied q opps (t ∷ arrivals) inside' used departed (lost ++ map (moved_to t.moment) (dropped q queue t))
    logged (log ++ written logged (entries.Arrival t.moment t.packet.size ∷ drop_line t.moment (dropped q queue t)))
tied_arrive q t opps arrivals inside used departed lost logged log queue inside' tied w r a b =
    let kept = keep q opps arrivals in
    let n = sent kept opps in
    let ts = ahead n kept in
    let us = waiting n kept in
    let vs = enqueued q us t in
    let le : n ≤ bytes kept = sent_le kept opps in
    let all : up_to t.moment opps ≡ opps = up_to_all t.moment opps b in
    let split : ts ++ us ≡ kept = ahead_waiting n kept in
    let after : keep q opps (t ∷ arrivals) ≡ ts
    ++ vs = ap (λ (os : List Opportunity). entered q (sent kept os) kept t) all in
    let rising : Rising (ts ++ us) = subst Rising (sym split) (keep_rising q opps arrivals tied.arrivals_fall) in
    let behind : Each (λ o. below o.moment us ≡ 0 → below o.moment vs ≡ 0) opps = behind_enqueued q us t opps b in
    let n_is : sent (ts ++ us) opps ≡ n = ap (λ (ks : List Timed). sent ks opps) split in
    let low : sent (ts ++ us) opps ≤ bytes ts = let h = bytes_ahead n kept le in omega arith in
    let sent_is : sent (ts ++ vs) opps ≡ n = same_sent ts us vs opps rising tied.opps_fall behind low ∙ n_is in
    let drops : dropped_at q opps kept t ≡ dropped q queue t =
    ap (λ (os : List Opportunity). dropped q (waiting (sent kept os) kept) t) all
    ∙ ap (λ (ws : List Timed). dropped q ws t) w
    in
    record {
      inside_is =
          ap (λ (ks : List Timed). rest (sent ks opps) ks) after
          ∙ ap (λ m. rest m (ts ++ vs)) sent_is
          ∙ ap (λ (ws : List Timed). rest n (ts ++ enqueued q ws t)) w
          ∙ r;
      used_is =
          ap (λ (ks : List Timed). begun (sent ks opps) ks) after
          ∙ ap (λ m. begun m (ts ++ vs)) sent_is
          ∙ begun_ahead n kept vs le
          ∙ tied.used_is;
      departed_is =
          ap (λ (ks : List Timed). departures ks opps) after
          ∙ same_departures ts us vs opps rising tied.opps_fall behind low
          ∙ ap (λ (ks : List Timed). departures ks opps) split
          ∙ tied.departed_is;
      lost_is =
          ap (λ (xs : List Timed). losses q opps arrivals ++ map (moved_to t.moment) xs) drops
          ∙ ap (λ (xs : List Timed). xs ++ map (moved_to t.moment) (dropped q queue t)) tied.lost_is;
      log_is =
          ap (written logged) (ap (λ (ks : List Timed). in_order
          (merged (opportunity_lines ks opps) (arrival_lines q opps (t ∷ arrivals)))) after
          ∙ ap (λ (ls : List Lines). in_order (merged ls (arrival_lines q opps (t ∷ arrivals))))
          (same_lines ts us vs opps rising tied.opps_fall behind low)
          ∙ ap (λ (ks : List Timed). in_order
          (merged (opportunity_lines ks opps) (arrival_lines q opps (t ∷ arrivals)))) split
          ∙ ap in_order (merged_arrive (
            t.moment,
            entries.Arrival t.moment t.packet.size ∷ drop_line t.moment
                (dropped_at q opps kept t),
          )
          (opportunity_lines kept opps) (arrival_lines q opps arrivals) (opportunity_moments t.moment kept opps b))
          ∙ ap (λ (xs : List Timed). log_of q opps arrivals
          ++ entries.Arrival t.moment t.packet.size ∷ drop_line t.moment xs) drops)
          ∙ written_append logged (log_of q opps arrivals)
          (entries.Arrival t.moment t.packet.size ∷ drop_line t.moment (dropped q queue t))
          ∙ ap (λ (es : List Entry). es ++ written logged
          (entries.Arrival t.moment t.packet.size ∷ drop_line t.moment (dropped q queue t))) tied.log_is;
      arrivals_fall = (a, tied.arrivals_fall);
      opps_fall = tied.opps_fall;
    }

pub tied_arrival : (q : QueueSpec) (t : Timed) (opps : List Opportunity) (arrivals : List Timed)
    (packet : Option Timed) (used : ℕ) (queue departed lost : List Timed) (logged : Bool) (log : List Entry)
    → Tied q opps arrivals (pending packet queue) used departed lost logged log → IsPart packet used
    → Each (λ u. u.moment ≤ t.moment) arrivals → Each (λ o. o.moment ≤ t.moment) opps
    → Tied q opps (t ∷ arrivals) (pending packet (enqueued q queue t)) used departed
    (lost ++ map (moved_to t.moment) (dropped q queue t))
    logged (log ++ written logged (entries.Arrival t.moment t.packet.size ∷ drop_line t.moment (dropped q queue t)))
tied_arrival q t opps arrivals None used queue departed lost logged log tied part a b =
    let kept = keep q opps arrivals in
    let n = sent kept opps in
    let clean : begun n kept ≡ 0 = tied.used_is ∙ part in
    tied_arrive q t opps arrivals queue used departed lost logged log queue (enqueued q queue t) tied
    (waiting_clean n kept clean ∙ tied.inside_is)
    (rest_ahead_clean n kept (enqueued q queue t) (sent_le kept opps) clean) a b
tied_arrival q t opps arrivals (Some p) used queue departed lost logged log tied part a b =
    let kept = keep q opps arrivals in
    let n = sent kept opps in
    let some : 0 < begun n kept = let h = tied.used_is in let k = part.0 in omega arith in
    tied_arrive q t opps arrivals (p ∷ queue) used departed lost logged log queue (p ∷ enqueued q queue t) tied
    (waiting_part n kept p queue some tied.inside_is)
    (rest_ahead_part n kept (enqueued q queue t) p queue some tied.inside_is) a b
