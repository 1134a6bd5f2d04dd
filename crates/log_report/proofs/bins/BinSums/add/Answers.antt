use Rattle.std.proofs.Common.{◌≡◌, ◌+◌, ◌++◌, ◌∷◌, [], ℕ, List, length, refl, ap, sym, ◌∙◌, length-append}
use Rattle.shell_log.specs.declared.entry.Entry.{Entry}
use Rattle.shell_log.specs.declared.entry.Entry.TheVariants.{Arrival, Opportunity, Departure, Drop}
use Rattle.log_report.specs.Reports.{arrived_bytes, offered_bytes, departed_bytes, delay_of, dropped_packets}
use Rattle.log_report.proofs.SumLaws.{sum_more, sum_same, no_delay, one_delay}
use Rattle.log_report.proofs.bins.BinSums.add.Goals as goal

one_more : (es : List Entry) (e : Entry) (n : ℕ) → n ≡ length es → n + 1 ≡ length (es ++ e ∷ [])
one_more es e n is = ap (λ (k : ℕ). k + 1) is ∙ sym (length-append es (e ∷ []))

pub returns-in-Arrival-clause-sums : goal.returns-in-Arrival-clause-sums
returns-in-Arrival-clause-sums c = rw c.in-Arrival.is (λ es are.
    let e = Arrival c.in-Arrival.moment c.in-Arrival.size in
    let old = c.args.self.now in
    record {
      entries = one_more es e old.entries are.entries;
      offered = sum_same offered_bytes es e old.offered refl are.offered;
      arrived = sum_more arrived_bytes es e c.from.result old.arrived
          (ap (λ (n : ℕ). n ∷ []) (sym c.from.ensures)) are.arrived;
      departed = sum_same departed_bytes es e old.departed refl are.departed;
      dropped = sum_same dropped_packets es e old.dropped refl are.dropped;
      delays = are.delays ∙ no_delay es e refl;
    })

pub returns-in-Opportunity-clause-sums : goal.returns-in-Opportunity-clause-sums
returns-in-Opportunity-clause-sums c = rw c.in-Opportunity.is (λ es are.
    let e = Opportunity c.in-Opportunity.moment c.in-Opportunity.bytes in
    let old = c.args.self.now in
    record {
      entries = one_more es e old.entries are.entries;
      offered = sum_more offered_bytes es e c.from-in-Opportunity.result old.offered
          (ap (λ (n : ℕ). n ∷ []) (sym c.from-in-Opportunity.ensures)) are.offered;
      arrived = sum_same arrived_bytes es e old.arrived refl are.arrived;
      departed = sum_same departed_bytes es e old.departed refl are.departed;
      dropped = sum_same dropped_packets es e old.dropped refl are.dropped;
      delays = are.delays ∙ no_delay es e refl;
    })

pub returns-in_ok-push-in-Departure-clause-sums : goal.returns-in_ok-push-in-Departure-clause-sums
returns-in_ok-push-in-Departure-clause-sums c = rw c.in-Departure.is (λ es are.
    let e = Departure c.in-Departure.moment c.in-Departure.size c.in-Departure.delay in
    let old = c.args.self.now in
    record {
      entries = one_more es e old.entries are.entries;
      offered = sum_same offered_bytes es e old.offered refl are.offered;
      arrived = sum_same arrived_bytes es e old.arrived refl are.arrived;
      departed = sum_more departed_bytes es e c.from-in-Departure.result old.departed
          (ap (λ (n : ℕ). n ∷ []) (sym c.from-in-Departure.ensures)) are.departed;
      dropped = sum_same dropped_packets es e old.dropped refl are.dropped;
      delays = c.in_ok-push-in-Departure.ensures.items
          ∙ ap (λ (l : List ℕ). l ++ c.in-Departure.delay ∷ []) are.delays
          ∙ one_delay es e c.in-Departure.delay refl;
    })

pub returns-in-Drop-clause-sums : goal.returns-in-Drop-clause-sums
returns-in-Drop-clause-sums c = rw c.in-Drop.is (λ es are.
    let e = Drop c.in-Drop.moment c.in-Drop.packets c.in-Drop.bytes in
    let old = c.args.self.now in
    record {
      entries = one_more es e old.entries are.entries;
      offered = sum_same offered_bytes es e old.offered refl are.offered;
      arrived = sum_same arrived_bytes es e old.arrived refl are.arrived;
      departed = sum_same departed_bytes es e old.departed refl are.departed;
      dropped = sum_more dropped_packets es e c.in-Drop.packets old.dropped refl are.dropped;
      delays = are.delays ∙ no_delay es e refl;
    })
