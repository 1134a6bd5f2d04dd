use Rattle.std.proofs.Common.{◌%◌, ◌∙◌, sym, ap, map, take, arith, length, ◌<◌}
use Rattle.nest_core.specs.Orders.{numbered_step, after_steps}
use Rattle.nest_core.proofs.Ordering.{after_more, more_named, keep_on}
use Rattle.nest_core.proofs.order.Worlds.follow.Goals as goal

pub loop-byte-preserved : goal.loop-byte-preserved
loop-byte-preserved c =
    let count = c.numbers-count.result in
    let order = c.args.order.now in
    let i = c.loop-byte.byte-index in
    let before = c.loop-byte.worlds in
    let lt : i < length order = omega arith in
    record {
      made = after_more c.args.self before c.step.new.self (map (λ b. b % count) (take i order)) _
          c.loop-byte.invariant.made
          (c.in_ok-step.ensures.ok ∙ ap (λ b. numbered_step before (b % count)) c.from.ensures)
          ∙ ap (after_steps c.args.self) (sym (more_named count order i 0 lt));
      keep = keep_on c.args.self before c.step.new.self c.loop-byte.invariant.keep c.in_ok-step.ensures.keep;
      count = c.loop-byte.invariant.count;
      some = c.loop-byte.invariant.some;
    }
