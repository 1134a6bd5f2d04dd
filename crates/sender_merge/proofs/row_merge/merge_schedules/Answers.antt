use Rattle.std.proofs.Common.{◌≡◌, ◌∙◌, ◌++◌, ap, arith, length, replicate}
use Rattle.std.proofs.Common.{List}
use Rattle.std.proofs.lemmas.List.{length-replicate}
use Rattle.packet_record.specs.declared.packet.Row.{Row}
use Rattle.sender_merge.specs.Merges.{by_moment, row_moment}
use Rattle.sender_merge.specs.inside.RowMerges.{left_from}
use Rattle.sender_merge.proofs.Rowing.{left_all, rows_few}
use Rattle.sender_merge.proofs.row_merge.merge_schedules.Goals as goal

pub loop-init : goal.loop-init
loop-init c =
    let schedules = c.args.schedules.now in
    let places = c.in_ok-places.places.items in
    let zeros : places ≡ replicate (length schedules) 0 = c.in_ok-places.ensures.items_if_clones_equal (λ y h. h) in
    let none = c.in_ok-rows.ensures.items in (
      ap length zeros ∙ length-replicate (length schedules) 0,
      ap length none,
      ap (λ (l : List Row). l ++ by_moment row_moment (left_from 1 schedules places)) none
          ∙ ap (λ l. by_moment row_moment (left_from 1 schedules l)) zeros
          ∙ ap (by_moment row_moment) (left_all 1 schedules),
    )

pub unreachable-requires : goal.unreachable-requires
unreachable-requires c =
    let few = rows_few c.args.schedules.now c.loop.rows.items (left_from 1 c.args.schedules.now c.loop.places.items)
    c.loop.invariant.2 in
    let long = c.loop.invariant.1 in
    let count = c.count_packed-count.ensures.rows in
    let past = c.loop-test.false in
    omega arith
