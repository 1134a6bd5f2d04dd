use Rattle.std.proofs.Common.{◌≡◌, ◌<◌, ◌-◌, ℕ, List, length, get_or, take, sum, refl, ap, sym, subst, ◌∙◌}
use Rattle.std.proofs.Common.{arith}
use Rattle.std.proofs.Math.Seq.{take-length}
use Rattle.std.proofs.lemmas.List.{get_or_default}
use Rattle.std.proofs.lemmas.List.Sums.{sum_by_more}
use Rattle.log_report.specs.Counted.{times}
use Rattle.log_report.proofs.RankLaws.{below, ranked, ranked_long, below_next, below_none}
use Rattle.log_report.proofs.delays.DelayCounts.at.Goals as goal

pub overflow_add-more : goal.overflow_add-more
overflow_add-more c =
    let low = c.loop-delay.invariant.low in
    let few = c.args.self.now.few in
    let within = c.requires.within in
    let count = c.from.ensures in
    let fits = c.type_inv.count-items c.loop-delay.delay in
    omega arith

pub loop-delay-init : goal.loop-delay-init
loop-delay-init c = record {
  seen = refl;
  low = omega (arith, c.requires.some);
  ranks = λ delays are. sym (below_none delays);
}

pub returns-then-rank-more : goal.returns-then-rank-more
returns-then-rank-more c = λ delays are.
    let short = c.args.self.now.short.items in
    let here : c.loop-delay.delay < 65536 = subst (λ (n : ℕ). c.loop-delay.delay < n)
    (ap length c.deref-count-items.ensures.value ∙ c.args.self.now.short_len) c.loop-delay-test.true in
    let count : c.from.result ≡ times delays c.loop-delay.delay =
    c.from.ensures ∙ ap (λ (l : List ℕ). get_or l c.loop-delay.delay 0) c.deref-count-items.ensures.value
    ∙ are.short c.loop-delay.delay here in
    let seen = c.loop-delay.invariant.ranks delays are in
    let low = c.loop-delay.invariant.low in
    let next = below_next c.loop-delay.delay delays in
    let high = c.if-rank-more.true in
    sym (ranked delays c.loop-delay.delay c.args.rank (omega arith) (omega arith))

pub loop-delay-preserved : goal.loop-delay-preserved
loop-delay-preserved c =
    let short = c.args.self.now.short.items in
    let value = c.deref-count-items.ensures.value in
    let lt : c.loop-delay.delay < length short = subst (λ (n : ℕ). c.loop-delay.delay < n) (ap length value)
    c.loop-delay-test.true in
    let here : c.loop-delay.delay < 65536 = subst (λ (n : ℕ). c.loop-delay.delay < n) c.args.self.now.short_len lt in
    let count : c.from.result ≡ get_or short c.loop-delay.delay 0 = c.from.ensures
    ∙ ap (λ (l : List ℕ). get_or l c.loop-delay.delay 0) value in
    let more = sum_by_more (λ (z : ℕ). z) short c.loop-delay.delay 0 lt in
    let seen = c.loop-delay.invariant.seen in
    record {
      seen = omega arith;
      low = c.if-rank-more.false;
      ranks = λ delays are.
          let below_it = c.loop-delay.invariant.ranks delays are in
          let next = below_next c.loop-delay.delay delays in
          let times_is = are.short c.loop-delay.delay here in
          omega arith;
    }

pub returns : goal.returns
returns c = λ delays are.
    let short = c.args.self.now.short.items in
    let long = c.args.self.now.long.items in
    let length_is : length c.deref-count-items.result.now ≡ 65536 = ap length c.deref-count-items.ensures.value
    ∙ c.args.self.now.short_len in
    let last : c.loop-delay.delay ≡ 65536 = let a = c.loop-delay-test.false in let b = c.loop-delay.auto.delay-end
    in omega arith in
    let whole : take c.loop-delay.delay short ≡ short =
    ap (λ (n : ℕ). take n short) (last ∙ sym c.args.self.now.short_len) ∙ take-length short in
    let seen : c.loop-delay.seen ≡ sum short = c.loop-delay.invariant.seen ∙ ap sum whole in
    let below_is : c.loop-delay.seen ≡ below 65536 delays = c.loop-delay.invariant.ranks delays are
    ∙ ap (λ (n : ℕ). below n delays) last in
    let low = c.loop-delay.invariant.low in
    let within = c.requires.within in
    let all = c.args.self.now.all in
    let place : c.args.rank - c.loop-delay.seen - 1 < length long = omega arith in
    c.index.ensures
    ∙ get_or_default long (c.args.rank - c.loop-delay.seen - 1) c.index.result.now 0 place
    ∙ sym (ranked_long delays long c.args.rank (c.args.rank - c.loop-delay.seen - 1) are.long are.sorted place
    (omega arith))
