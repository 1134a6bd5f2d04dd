use Rattle.std.proofs.Common.{IfSome, [], ◌∷◌, ◌++◌, ◌∙◌, ◌≤◌, ap, subst, sym, arith}
use Rattle.std.proofs.lemmas.Grind.{common_steps}
use Rattle.packet_record.specs.declared.packet.Row.{Row}
use Rattle.packet_record.specs.Orders.{AreWithin, IsSchedule}
use Rattle.packet_record.proofs.GatheringLemmas.{schedule_more, below_more}
use Rattle.packet_record.proofs.gathering.ScheduleRows.add.Goals as goal

pub invariant_of-self-2 : goal.invariant_of-self-2
invariant_of-self-2 c =
    let rows = c.self.inside.rows.items in
    let low = c.self.inside.low in
    let row = c.in_ok-row.row in
    let said = c.in_ok-row.ensures in
    let more = c.in_ok-push.ensures.items ∙ ap (λ (r : Row). rows ++ r ∷ []) c.new.ensures in
    let within : row.timed.moment ≤ 9999999999 = subst (λ o. IfSome o (λ s. s.moment ≤ 9999999999)) said.said
    c.requires.within in
    record {
      schedule = subst IsSchedule (sym more)
          (schedule_more low rows row c.self.invariant.schedule c.self.invariant.below said.order within
          (omega (arith, said.id)) (omega (arith, said.few)));
      below = subst (AreWithin row.timed.moment) (sym more)
          (below_more low rows row c.self.invariant.below said.order);
      named = grind (arith, common_steps);
    }
