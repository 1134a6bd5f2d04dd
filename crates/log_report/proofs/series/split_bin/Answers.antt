use Rattle.std.proofs.Common.{◌≡◌, ◌≢◌, ◌+◌, ◌/◌, ◌<◌, suc, ℕ, length, get_or, take, drop, ap, sym, subst, ◌∙◌, arith, add-one}
use Rattle.shell_log.specs.declared.entry.Entry.TheVariants.{Arrival}
use Rattle.shell_log.specs.Entries.{moment_of}
use Rattle.log_report.specs.Bins.{AreFromBin}
use Rattle.log_report.specs.inside.Places.{AreInBin}
use Rattle.log_report.proofs.BinLaws.{own_more, own_end}
use Rattle.log_report.proofs.series.split_bin.Goals as goal
use Rattle.log_report.proofs.series.split_bin.Goals.{then-own-test+else-moment-every, else-own-test}

pub own-preserved : goal.own-preserved
own-preserved c =
    let lt = c.own-test.true in
    let es = c.args.entries.now in
    let n = c.own.count in
    let is : moment_of (get_or es n (Arrival 0 0)) / c.args.every ≡ c.args.number =
    ap (λ (m : ℕ). m / c.args.every) (sym c.moment.ensures) ∙ c.if-moment-every.true in
    let next : suc n ≡ n + 1 = omega arith in
    record {
      within = omega arith;
      own = subst (λ (k : ℕ). AreInBin c.args.every c.args.number (take k es)) next
          (own_more c.args.every c.args.number es n (Arrival 0 0) lt is c.own.invariant.own);
    }

pub returns-clause-after : goal.returns-clause-after
returns-clause-after c =
    let es = c.args.entries.now in
    let n = c.own.count in
    let ended : n < length es → moment_of (get_or es n (Arrival 0 0)) / c.args.every ≢ c.args.number =
    elim c.own-test.branch [
      | then-own-test+else-moment-every w ↦ λ lt same. absurd (w.if-moment-every.false
          (ap (λ (m : ℕ). m / c.args.every) w.moment.ensures ∙ same))
      | else-own-test w ↦ λ lt. let no = w.own-test.false in absurd (omega arith)
    ] in
    subst (AreFromBin c.args.every (c.args.number + 1)) (sym c.split_at.ensures.back)
    (own_end c.args.every c.args.number es n (Arrival 0 0) c.requires.some c.requires.log c.requires.later ended)
