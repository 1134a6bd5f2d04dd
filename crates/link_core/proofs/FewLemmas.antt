-- At most as many packets are kept and depart as arrived.
use Rattle.std.proofs.Common.{◌≤◌, ◌+◌, ◌++◌, ℕ, Bool, true, false, List, [], ◌∷◌, Option, Some, None}
use Rattle.std.proofs.Common.{if◌then◌else◌, option_to_list, length, fold, take, arith, ap, subst, sym}
use Rattle.std.specs.Option.{option_map, option_and_then}
use Rattle.std.proofs.lemmas.List.{length-append}
use Rattle.std.specs.Prelude.{slice_get}
use Rattle.packet_record.specs.declared.packet.Timed.{Timed}
use Rattle.packet_record.specs.Packets.{moved_to}
use Rattle.packet_queue.specs.Queues.{fits, fitting, enqueued_by, enqueued}
use Rattle.packet_queue.specs.declared.spec.QueueKind.{QueueKind}
use Rattle.packet_queue.specs.declared.spec.QueueKind.TheVariants.{Infinite, DropTail, DropHead}
use Rattle.packet_queue.specs.declared.spec.QueueSpec.{QueueSpec}
use Rattle.shell_log.specs.declared.entry.Entry.{Entry}
use Rattle.trace_reader.specs.declared.opportunity.Opportunity.{Opportunity}
use Rattle.link_core.specs.Stream.{waiting, ahead}
use Rattle.link_core.specs.Links.{sent_before, keep, keep_with, first_sent, departure_at, departing, link_out}
use Rattle.link_core.specs.inside.Sound.{Sound}
use Rattle.link_core.proofs.SeenLemmas.{seen_out}
use Rattle.link_core.proofs.StreamLemmas.{ahead_waiting}

either_few : (b : Bool) (xs ys : List Timed) (n : ℕ) → length xs ≤ n → length ys ≤ n
    → length (if b then xs else ys) ≤ n
either_few true xs ys n h k = h
either_few false xs ys n h k = k

fitting_few : (q : QueueSpec) (ts : List Timed) → length (fitting q ts) ≤ length ts
fitting_few q [] = omega arith
fitting_few q (t ∷ ts) =
    let ih = fitting_few q ts in
    either_few (fits q (t ∷ ts)) (t ∷ ts) (fitting q ts) (length (t ∷ ts)) (omega arith) (omega arith)

-- a packet that comes makes one more in the queue, or none
pub kind_few : (k : QueueKind) (q : QueueSpec) (ts : List Timed) (t : Timed)
    → length (enqueued_by k q ts t) ≤ length ts + 1
kind_few Infinite q ts t = omega (arith, length-append ts (t ∷ []))
kind_few DropTail q ts t = either_few (fits q (ts ++ t ∷ [])) (ts ++ t ∷ []) ts (length ts + 1)
    (omega (arith, length-append ts (t ∷ []))) (omega arith)
kind_few DropHead q ts t = omega (arith, fitting_few q (ts ++ t ∷ []), length-append ts (t ∷ []))

keep_one : (q : QueueSpec) (n : ℕ) (kept : List Timed) (t : Timed)
    → length (ahead n kept ++ enqueued q (waiting n kept) t) ≤ length kept + 1
keep_one q n kept t =
    let few = kind_few q.kind q (waiting n kept) t in
    let both = length-append (ahead n kept) (enqueued q (waiting n kept) t) in
    let parts = length-append (ahead n kept) (waiting n kept) in
    let all = ap length (ahead_waiting n kept) in
    omega arith

keep_few : (q : QueueSpec) (os : List Opportunity) (kept ts : List Timed)
    → length (fold (keep_with q os) kept ts) ≤ length kept + length ts
keep_few q os kept [] = omega arith
keep_few q os kept (t ∷ ts) =
    let one = keep_one q (sent_before os kept t) kept t in
    let ih = keep_few q os (keep_with q os kept t) ts in
    omega arith

one_departure : (number : Option Opportunity) (t : Timed)
    → length (option_to_list (option_map (λ (o : Opportunity). moved_to o.moment t) number)) ≤ 1
one_departure None t = omega arith
one_departure (Some o) t = omega arith

departing_few : (kept : List Timed) (os : List Opportunity) (before : ℕ) (ts : List Timed)
    → length (departing kept os before ts) ≤ length ts
departing_few kept os before [] = omega arith
departing_few kept os before (t ∷ ts) =
    let number = first_sent kept os (before + t.packet.size) in
    let one = one_departure (option_and_then (slice_get os) number) t in
    let ih = departing_few kept os (before + t.packet.size) ts in
    let both = length-append (departure_at os number t) (departing kept os (before + t.packet.size) ts) in
    omega arith

out_few : (q : QueueSpec) (os : List Opportunity) (ts : List Timed) → length (link_out q os ts) ≤ length ts
out_few q os ts =
    let kept = keep_few q os [] ts in
    let departed = departing_few (keep q os ts) os 0 (keep q os ts) in
    omega arith

pub departed_few : (q : QueueSpec) (os : List Opportunity) (b : ℕ) (arrivals : List Timed) (packet : Option Timed)
    (used : ℕ) (queue departed lost : List Timed) (logged : Bool) (log : List Entry)
    → Sound q os b arrivals packet used queue departed lost logged log → length departed ≤ length arrivals
departed_few q os b arrivals packet used queue departed lost logged log s =
    subst (λ (l : List Timed). length l ≤ length arrivals)
    (sym (seen_out q os b arrivals packet used queue departed lost logged log s))
    (out_few q (take b os) arrivals)
