-- What a link makes of whole lists in order is what its steps make of them.
use Rattle.std.proofs.Common.{◌≡◌, ℕ, suc, ◌-◌, ◌≤◌, ◌++◌, List, [], ◌∷◌, map, reverse, length, arith, refl, ap, sym}
use Rattle.std.proofs.Common.{subst, ◌∙◌}
use Rattle.std.proofs.lemmas.List.{append-nil, append_assoc, reverse-append, reverse-reverse, length-reverse}
use Rattle.packet_record.specs.declared.packet.Timed.{Timed}
use Rattle.packet_queue.specs.declared.spec.QueueSpec.{QueueSpec}
use Rattle.shell_log.specs.declared.entry.Entry.TheVariants as entries
use Rattle.trace_reader.specs.declared.opportunity.Opportunity.{Opportunity}
use Rattle.trace_reader.specs.Orders.{Each, AreRising}
use Rattle.link_core.specs.inside.Orders.{Falling, AreFalling}
use Rattle.link_core.specs.inside.Stream.{rest}
use Rattle.link_core.specs.Links.{keep, link_lost, departing, link_out, leaving, is_number, is_no_number, link_inside}
use Rattle.link_core.specs.Links.{Lines, departure_line, opportunity_lines, arrival_lines, merged, entries_of, link_log}
use Rattle.link_core.specs.inside.Back as back
use Rattle.link_core.proofs.SentLemmas.{each_append}
use Rattle.link_core.proofs.LeastLaws.{departures_least}
use Rattle.link_core.proofs.Turned.{reverse_cons, keep_back, lost_back, arrivals_back}
use Rattle.link_core.proofs.FirstSent.{leaving_is, staying_is, departing_is}
use Rattle.link_core.proofs.MergedLemmas.{Falls, merged_back}

each_turned : (P : Opportunity → Type 0) (opps : List Opportunity) → Each P opps → Each P (reverse opps)
each_turned P [] a = tt
each_turned P (o ∷ opps) a = subst (Each P) (sym (reverse_cons o opps))
    (each_append P (reverse opps) (o ∷ []) (each_turned P opps a.1) (a.0, tt))

falling_more : (earlier : List Opportunity) (o : Opportunity) → AreFalling earlier
    → Each (λ p. o.moment ≤ p.moment) earlier → AreFalling (earlier ++ o ∷ [])
falling_more [] o f a = (tt, tt)
falling_more (p ∷ earlier) o f a = (
  each_append (λ x. x.moment ≤ p.moment) earlier (o ∷ []) f.0 (a.0, tt),
  falling_more earlier o f.1 a.1,
)

pub falling_turned : (opps : List Opportunity) → AreRising opps → AreFalling (reverse opps)
falling_turned [] r = tt
falling_turned (o ∷ opps) r =
    subst AreFalling (sym (reverse_cons o opps))
    (falling_more (reverse opps) o (falling_turned opps r.1) (each_turned (λ p. o.moment ≤ p.moment) opps r.0))

turned : {X : Type 0} (xs : List X) → xs ≡ reverse (reverse xs)
turned xs = sym (reverse-reverse xs)

pub keep_is : (q : QueueSpec) (opps : List Opportunity) (arrivals : List Timed)
    → keep q opps arrivals ≡ back.keep q (reverse opps) (reverse arrivals)
keep_is q opps arrivals =
    ap (λ (os : List Opportunity). keep q os arrivals) (turned opps)
    ∙ ap (keep q (reverse (reverse opps))) (turned arrivals)
    ∙ keep_back q (reverse opps) (reverse arrivals)

pub lost_is : (q : QueueSpec) (opps : List Opportunity) (arrivals : List Timed)
    → link_lost q opps arrivals ≡ back.losses q (reverse opps) (reverse arrivals)
lost_is q opps arrivals =
    ap (λ (os : List Opportunity). link_lost q os arrivals) (turned opps)
    ∙ ap (link_lost q (reverse (reverse opps))) (turned arrivals)
    ∙ lost_back q (reverse opps) (reverse arrivals)

pub out_is : (q : QueueSpec) (opps : List Opportunity) (arrivals : List Timed) → AreRising opps
    → link_out q opps arrivals ≡ back.departures (back.keep q (reverse opps) (reverse arrivals)) (reverse opps)
out_is q opps arrivals r =
    let kept = back.keep q (reverse opps) (reverse arrivals) in
    ap (λ (ks : List Timed). departing ks opps 0 ks) (keep_is q opps arrivals)
    ∙ ap (λ (os : List Opportunity). departing kept os 0 kept) (turned opps)
    ∙ departing_is kept (reverse opps) 0 kept
    ∙ sym (departures_least kept (reverse opps) (falling_turned opps r))

pub inside_is : (q : QueueSpec) (opps : List Opportunity) (arrivals : List Timed) → AreRising opps
    → link_inside q opps arrivals ≡ rest (back.sent (back.keep q (reverse opps) (reverse arrivals)) (reverse opps))
    (back.keep q (reverse opps) (reverse arrivals))
inside_is q opps arrivals r =
    let kept = back.keep q (reverse opps) (reverse arrivals) in
    let all : back.sent kept (reverse opps) ≡ back.sent kept (reverse opps) - 0 = omega arith in
    ap (λ (ks : List Timed). leaving is_no_number ks opps 0 ks) (keep_is q opps arrivals)
    ∙ ap (λ (os : List Opportunity). leaving is_no_number kept os 0 kept) (turned opps)
    ∙ staying_is kept (reverse opps) 0 (back.sent kept (reverse opps)) kept (falling_turned opps r) all

falling_back : (xs ys : List Opportunity) → AreFalling (xs ++ ys) → AreFalling ys
falling_back [] ys f = f
falling_back (x ∷ xs) ys f = falling_back xs ys f.1

-- the lines of all opportunities: those of the earlier ones, and those of the others
lines_back : (kept : List Timed) (all earlier later : List Opportunity) → reverse earlier ++ later ≡ all
    → AreFalling (reverse all)
    → reverse (back.opportunity_lines kept (reverse all))
    ≡ reverse (back.opportunity_lines kept earlier) ++ opportunity_lines kept all (length (reverse earlier)) later
lines_back kept all earlier [] e f =
    let same : reverse all ≡ earlier = ap reverse (sym e) ∙ ap reverse (append-nil (reverse earlier))
    ∙ reverse-reverse earlier in
    ap (λ (os : List Opportunity). reverse (back.opportunity_lines kept os)) same
    ∙ sym (append-nil (reverse (back.opportunity_lines kept earlier)))
lines_back kept all earlier (o ∷ os) e f =
    let on : reverse (o ∷ earlier) ++ os ≡ all = ap (λ (l : List Opportunity). l ++ os) (reverse_cons o earlier)
    ∙ append_assoc (reverse earlier) (o ∷ []) os ∙ e in
    let ih = lines_back kept all (o ∷ earlier) os on f in
    let whole : reverse all ≡ reverse os ++ (o ∷ earlier) =
    ap reverse (sym on) ∙ reverse-append (reverse (o ∷ earlier)) os
    ∙ ap (λ (l : List Opportunity). reverse os ++ l) (reverse-reverse (o ∷ earlier))
    in
    let falls : AreFalling (o ∷ earlier) = falling_back (reverse os) (o ∷ earlier) (subst AreFalling whole f) in
    let i = length (reverse earlier) in
    let next : length (reverse (o ∷ earlier)) ≡ suc i = length-reverse (o ∷ earlier)
    ∙ sym (ap suc (length-reverse earlier)) in
    let low : back.sent kept earlier ≡ back.sent kept earlier - 0 = omega arith in
    let high : back.sent kept (o ∷ earlier) ≡ back.sent kept (o ∷ earlier) - 0 = omega arith in
    let ends : back.ended kept o earlier ≡ leaving (is_number i) kept all 0 kept =
    sym (leaving_is kept o earlier os 0 (back.sent kept earlier) (back.sent kept (o ∷ earlier)) kept falls low high)
    ∙ ap (λ (l : List Opportunity). leaving (is_number i) kept l 0 kept) e
    in
    let line : List Timed → Lines =
    λ ts. (o.moment, entries.Opportunity o.moment o.bytes ∷ map (departure_line o.moment) ts) in
    let before = reverse (back.opportunity_lines kept earlier) in
    ih
    ∙ ap (λ (l : List Lines). l ++ opportunity_lines kept all (length (reverse (o ∷ earlier))) os)
    (reverse_cons (line (back.ended kept o earlier)) (back.opportunity_lines kept earlier))
    ∙ append_assoc before (line (back.ended kept o earlier) ∷ [])
    (opportunity_lines kept all (length (reverse (o ∷ earlier))) os)
    ∙ ap (λ (ts : List Timed). before ++ line ts ∷ opportunity_lines kept all (length (reverse (o ∷ earlier))) os) ends
    ∙ ap (λ n. before ++ line (leaving (is_number i) kept all 0 kept) ∷ opportunity_lines kept all n os) next

arrivals_up_to : (m : ℕ) (q : QueueSpec) (opps : List Opportunity) (earlier : List Timed)
    → Each (λ t. t.moment ≤ m) earlier
    → Each (λ l. l.0 ≤ m) (back.arrival_lines q opps earlier)
arrivals_up_to m q opps [] a = tt
arrivals_up_to m q opps (t ∷ earlier) a = (a.0, arrivals_up_to m q opps earlier a.1)

arrivals_fall : (q : QueueSpec) (opps : List Opportunity) (earlier : List Timed) → Falling earlier
    → Falls (back.arrival_lines q opps earlier)
arrivals_fall q opps [] f = tt
arrivals_fall q opps (t ∷ earlier) f = (arrivals_up_to t.moment q opps earlier f.0, arrivals_fall q opps earlier f.1)

pub log_is : (q : QueueSpec) (opps : List Opportunity) (arrivals : List Timed) → AreRising opps
    → Falling (reverse arrivals)
    → link_log q opps arrivals ≡ back.log_of q (reverse opps) (reverse arrivals)
log_is q opps arrivals r f =
    let kept = back.keep q (reverse opps) (reverse arrivals) in
    let offered = back.opportunity_lines kept (reverse opps) in
    let came = back.arrival_lines q (reverse opps) (reverse arrivals) in
    let offered_is : opportunity_lines kept opps 0 opps ≡ reverse offered =
    sym (lines_back kept opps [] opps refl (falling_turned opps r)) in
    let came_is : arrival_lines q opps [] arrivals ≡ reverse came =
    ap (λ (os : List Opportunity). arrival_lines q os [] arrivals) (turned opps)
    ∙ ap (arrival_lines q (reverse (reverse opps)) []) (turned arrivals)
    ∙ arrivals_back q (reverse opps) (reverse arrivals)
    in
    ap (λ (ks : List Timed). entries_of
    (merged (opportunity_lines ks opps 0 opps) (arrival_lines q opps [] arrivals))) (keep_is q opps arrivals)
    ∙ ap (λ (l : List Lines). entries_of (merged l (arrival_lines q opps [] arrivals))) offered_is
    ∙ ap (λ (l : List Lines). entries_of (merged (reverse offered) l)) came_is
    ∙ sym (merged_back (reverse offered) came (arrivals_fall q (reverse opps) (reverse arrivals) f))
    ∙ ap (λ (l : List Lines). back.in_order (back.merged l came)) (reverse-reverse offered)
