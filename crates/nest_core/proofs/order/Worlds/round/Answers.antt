use Rattle.std.proofs.Common.{◌∙◌, ◌≤◌, sym, ap, arith}
use Rattle.std.specs.List.{range_with_len}
use Rattle.nest_core.specs.Orders.{numbers_of, after_steps}
use Rattle.nest_core.proofs.Ordering.{after_more, range_next, keep_on, less_on, less_ends}
use Rattle.nest_core.proofs.order.Worlds.round.Goals as goal

pub loop-number-preserved : goal.loop-number-preserved
loop-number-preserved c =
    let first = c.args.self.now in
    let before = c.loop-number.self in
    let new = c.step.new.self in
    let n = c.loop-number.number in
    let is = c.in_ok-step.ensures.ok in
    record {
      made = after_more first before new (range_with_len 0 n) n c.loop-number.invariant.made is
          ∙ ap (after_steps first) (sym (range_next n));
      keep = keep_on first before new c.loop-number.invariant.keep c.in_ok-step.ensures.keep;
      less = less_on first before new n c.in_ok-step.field-0 c.loop-number.invariant.less c.in_ok-step.ensures.same
          c.in_ok-step.ensures.less is;
    }

pub returns-clause-less : goal.returns-clause-less
returns-clause-less c =
    let count = c.numbers-number-end.ensures.count in
    let le = c.loop-number-test.false in
    let past : numbers_of c.args.self.now ≤ c.loop-number.number = omega arith in
    less_ends c.args.self.now c.loop-number.self c.loop-number.number past c.loop-number.invariant.less
