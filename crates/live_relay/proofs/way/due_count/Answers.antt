use Rattle.std.proofs.Common.{◌≡◌, ◌≤◌, ◌<◌, arith, ap, get_or}
use Rattle.packet_record.specs.declared.packet.Timed.{Timed}
use Rattle.live_relay.proofs.UpTo.{counts_in, counts_out, up_to_short}
use Rattle.live_relay.proofs.way.due_count.Goals as goal

pub loop-count-preserved : goal.loop-count-preserved
loop-count-preserved c =
    let t = c.index-departed-count.result in
    let is : t.moment ≡ (get_or c.args.departed.now c.loop-count.count t).moment =
    ap (λ (x : Timed). x.moment) c.index-departed-count.is in
    let test = c.if-departed-count.true in
    let le : (get_or c.args.departed.now c.loop-count.count t).moment ≤ c.args.moment = omega arith in
    let more = counts_in c.args.moment c.args.departed.now c.loop-count.count t c.requires.rises
    c.loop-count-test.true le
    in
    record {
      due = omega arith;
      known = let known = c.loop-count.invariant.known in omega arith;
    }

pub returns-else-departed-count-clause-count : goal.returns-else-departed-count-clause-count
returns-else-departed-count-clause-count c =
    let t = c.index-departed-count.result in
    let is : t.moment ≡ (get_or c.args.departed.now c.loop-count.count t).moment =
    ap (λ (x : Timed). x.moment) c.index-departed-count.is in
    let test = c.if-departed-count.false in
    let late : c.args.moment < (get_or c.args.departed.now c.loop-count.count t).moment = omega arith in
    let out = counts_out c.args.moment c.args.departed.now c.loop-count.count t c.requires.rises c.loop-count-test.true
    late in
    let due = c.loop-count.invariant.due in omega arith

pub returns-after-loop-count-clause-count : goal.returns-after-loop-count-clause-count
returns-after-loop-count-clause-count c =
    let short = up_to_short c.args.moment c.args.departed.now in
    let due = c.loop-count.invariant.due in
    let test = c.loop-count-test.false in omega arith

pub returns-after-loop-count-clause-within : goal.returns-after-loop-count-clause-within
returns-after-loop-count-clause-within c =
    let short = up_to_short c.args.moment c.args.departed.now in
    let due = c.loop-count.invariant.due in omega arith
