use Rattle.std.proofs.Common.{◌∷◌, [], ℕ, List, refl, ap, sym, subst, ◌∙◌, arith}
use Rattle.shell_log.specs.declared.entry.Entry.TheVariants.{Arrival, Opportunity, Departure, Drop}
use Rattle.shell_log.specs.Entries.{moment_of}
use Rattle.std.specs.List.{filter_map}
use Rattle.log_report.specs.Counted.{AreCounts}
use Rattle.log_report.specs.Reports.{arrived_bytes, offered_bytes, departed_bytes, delay_of}
use Rattle.log_report.proofs.SumLaws.{passed_more, in_sum, not_in_sum, in_drops, not_in_drops, no_delay, one_delay}
use Rattle.log_report.proofs.sums.Sums.add.Goals as goal

pub add-requires : goal.add-requires
add-requires c = let few = c.args.self.now.delays_few in let room = c.if-self-ge-MOST_ENTRIES.false in omega arith

pub returns-in-Arrival : goal.returns-in-Arrival
returns-in-Arrival c = rw c.in-Arrival.is (λ es are.
    let e = Arrival c.in-Arrival.moment c.in-Arrival.size in
    let old = c.args.self.now in
    record {
      passed = passed_more es e old.entries old.first old.last c.first_with-self.result c.moment-self.result
          c.moment.result are.passed (c.moment.ensures ∙ ap moment_of c.in-Arrival.is) c.first_with-self.ensures
          (c.moment-self.ensures ∙ ap moment_of c.in-Arrival.is);
      arrived = in_sum arrived_bytes es e c.from.result old.arrived.count old.arrived.bytes
          (ap (λ (n : ℕ). n ∷ []) (sym c.from.ensures)) are.arrived;
      offered = not_in_sum offered_bytes es e old.offered refl are.offered;
      departed = not_in_sum departed_bytes es e old.departed refl are.departed;
      dropped = not_in_drops es e old.dropped refl refl are.dropped;
      delays = subst (λ (l : List ℕ). AreCounts l old.delays) (no_delay es e refl) are.delays;
    })

pub returns-in-Opportunity : goal.returns-in-Opportunity
returns-in-Opportunity c = rw c.in-Opportunity.is (λ es are.
    let e = Opportunity c.in-Opportunity.moment c.in-Opportunity.bytes in
    let old = c.args.self.now in
    record {
      passed = passed_more es e old.entries old.first old.last c.first_with-self.result c.moment-self.result
          c.moment.result are.passed (c.moment.ensures ∙ ap moment_of c.in-Opportunity.is) c.first_with-self.ensures
          (c.moment-self.ensures ∙ ap moment_of c.in-Opportunity.is);
      arrived = not_in_sum arrived_bytes es e old.arrived refl are.arrived;
      offered = in_sum offered_bytes es e c.from-in-Opportunity.result old.offered.count old.offered.bytes
          (ap (λ (n : ℕ). n ∷ []) (sym c.from-in-Opportunity.ensures)) are.offered;
      departed = not_in_sum departed_bytes es e old.departed refl are.departed;
      dropped = not_in_drops es e old.dropped refl refl are.dropped;
      delays = subst (λ (l : List ℕ). AreCounts l old.delays) (no_delay es e refl) are.delays;
    })

pub returns-in_ok-add-in-Departure : goal.returns-in_ok-add-in-Departure
returns-in_ok-add-in-Departure c = rw c.in-Departure.is (λ es are.
    let e = Departure c.in-Departure.moment c.in-Departure.size c.in-Departure.delay in
    let old = c.args.self.now in
    record {
      passed = passed_more es e old.entries old.first old.last c.first_with-self.result c.moment-self.result
          c.moment.result are.passed (c.moment.ensures ∙ ap moment_of c.in-Departure.is) c.first_with-self.ensures
          (c.moment-self.ensures ∙ ap moment_of c.in-Departure.is);
      arrived = not_in_sum arrived_bytes es e old.arrived refl are.arrived;
      offered = not_in_sum offered_bytes es e old.offered refl are.offered;
      departed = in_sum departed_bytes es e c.from-in-Departure.result old.departed.count old.departed.bytes
          (ap (λ (n : ℕ). n ∷ []) (sym c.from-in-Departure.ensures)) are.departed;
      dropped = not_in_drops es e old.dropped refl refl are.dropped;
      delays = subst (λ (l : List ℕ). AreCounts l c.add.new.self) (one_delay es e c.in-Departure.delay refl)
          (c.in_ok-add-in-Departure.ensures.counts (filter_map delay_of es) are.delays);
    })

pub returns-in-Drop : goal.returns-in-Drop
returns-in-Drop c = rw c.in-Drop.is (λ es are.
    let e = Drop c.in-Drop.moment c.in-Drop.packets c.in-Drop.bytes in
    let old = c.args.self.now in
    record {
      passed = passed_more es e old.entries old.first old.last c.first_with-self.result c.moment-self.result
          c.moment.result are.passed (c.moment.ensures ∙ ap moment_of c.in-Drop.is) c.first_with-self.ensures
          (c.moment-self.ensures ∙ ap moment_of c.in-Drop.is);
      arrived = not_in_sum arrived_bytes es e old.arrived refl are.arrived;
      offered = not_in_sum offered_bytes es e old.offered refl are.offered;
      departed = not_in_sum departed_bytes es e old.departed refl are.departed;
      dropped = in_drops es e c.in-Drop.packets c.in-Drop.bytes old.dropped.count old.dropped.bytes refl refl
          are.dropped;
      delays = subst (λ (l : List ℕ). AreCounts l old.delays) (no_delay es e refl) are.delays;
    })
