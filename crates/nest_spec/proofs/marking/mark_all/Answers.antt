use Rattle.std.proofs.Common.{◌≡◌, ◌≤◌, ◌-◌, ◌∙◌, suc, length, drop, ap, arith}
use Rattle.packet_record.proofs.MomentsLemmas.{up_to_read}
use Rattle.nest_spec.specs.Fates.{fated}
use Rattle.nest_spec.specs.Marks.{marked}
use Rattle.nest_spec.specs.inside.Marks.{put}
use Rattle.nest_spec.specs.views.MarkedRows.{rows_in}
use Rattle.nest_spec.proofs.MarkLemmas.{marks_none_yet, marks_more}
use Rattle.nest_spec.proofs.marking.mark_all.Goals as goal

pub packets-preserved : goal.packets-preserved
packets-preserved c =
    let a = c.args in
    let left = c.packets.left - 1 in
    let back : c.packets.left ≡ suc left = omega arith in
    let le : suc left ≤ length a.packets.now = omega arith in
    let t = c.index-packets-left.result in
    record {
      left = omega arith;
      long = c.put.ensures.length;
      fates = λ f e.
          c.put.ensures.fates (marked (drop (suc left) a.packets.now) a.mark f)
          (c.packets.invariant.fates f e ∙ ap (λ n. fated (marked (drop n a.packets.now) a.mark f) (rows_in a.rows)) back)
          ∙ ap (λ x. fated (put t.packet.id x (marked (drop (suc left) a.packets.now) a.mark f)) (rows_in a.rows))
          c.fate_by.ensures.fate
          ∙ marks_more a.packets.now left t a.mark f (rows_in a.rows) le c.index-packets-left.is;
    }

pub packets-init : goal.packets-init
packets-init c = record {
  left = omega arith;
  long = c.requires.length;
  fates = λ f e. e ∙ marks_none_yet c.args.packets.now c.args.mark f (rows_in c.args.rows);
}

pub returns-clause-fates : goal.returns-clause-fates
returns-clause-fates c = λ f e.
    let done : c.packets.left ≡ 0 = omega arith in
    c.packets.invariant.fates f e ∙ ap (λ n. fated (marked (drop n c.args.packets.now) c.args.mark f) (rows_in c.args.rows))
    done

pub put-requires-clause-short : goal.put-requires-clause-short
put-requires-clause-short c = c.fate_by.ensures.short c.requires.mark
    (up_to_read 3600000 c.args.packets.now (c.packets.left - 1) c.index-packets-left.result (omega arith)
    c.index-packets-left.is c.requires.short)
