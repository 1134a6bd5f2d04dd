use Rattle.std.proofs.Common.{◌≡◌, ◌+◌, ◌%◌, ◌-◌, ◌∷◌, [], ◌++◌, length, map, ap, sym, subst, ◌∙◌, arith, length-append}
use Rattle.packet_record.specs.Draws.{next_draw}
use Rattle.packet_record.specs.Loads.{load_from, load_of}
use Rattle.packet_record.specs.Schedules.{said}
use Rattle.packet_record.proofs.LoadLemmas.{IsPart, part_more, whole_more, load_schedule}
use Rattle.packet_record.proofs.load.make_load.Goals as goal

pub loop-before-preserved : goal.loop-before-preserved
loop-before-preserved c =
    let row = c.draw_row-row.result in
    let rows = c.loop-before.rows.items in
    let items : c.push.new.self.items ≡ c.loop-before.rows.items ++ c.draw_row-row.result ∷ [] =
    c.in_ok-push.ensures.items in
    let count : length c.loop-before.rows.items ≡ c.loop-before.before = c.loop-before.invariant.count in
    let moment : c.draw_row-row.result.timed.moment ≡ c.loop-before.moment + next_draw c.loop-before.draws % 4 =
    ap (λ s. s.moment) c.draw_row-row.ensures.said in
    let id : c.draw_row-row.result.timed.packet.id ≡ length c.loop-before.rows.items + 1 = c.draw_row-row.ensures.id
    ∙ ap (λ n. n + 1) (sym count) in
    let pushed : length (c.loop-before.rows.items ++ c.draw_row-row.result ∷ []) ≡ c.loop-before.before + 1 =
    omega (arith, length-append c.loop-before.rows.items (c.draw_row-row.result ∷ [])) in
    record {
      count = ap length items ∙ pushed;
      low = omega arith;
      part = subst (IsPart row.timed.moment) (sym items)
          (part_more c.loop-before.moment rows row c.loop-before.invariant.part id (omega arith));
      whole =
          ap (λ l. map said l ++ load_from c.draw_row-row.new.draws row.timed.moment
          (c.args.packets - (c.loop-before.before + 1))) items
          ∙ ap (λ x. map said (rows ++ row ∷ [])
          ++ load_from x row.timed.moment (c.args.packets - (c.loop-before.before + 1)))
          c.draw_row-row.ensures.after
          ∙ whole_more c.loop-before.draws c.loop-before.moment c.args.packets c.loop-before.before rows row
          (load_of c.args.number c.args.packets) c.loop-before-test.true c.loop-before.invariant.whole
          c.draw_row-row.ensures.said;
    }

pub from_rows-requires : goal.from_rows-requires
from_rows-requires c =
    load_schedule c.loop-before.moment c.loop-before.before c.loop-before.rows.items c.loop-before.invariant.part
    c.loop-before.invariant.count (omega arith) c.loop-before.invariant.low
