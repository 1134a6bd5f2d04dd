use Rattle.std.proofs.Common.{◌≡◌, ◌≤◌, ◌<◌, ◌+◌, ◌*◌, ◌++◌, ◌∷◌, ◌==◌, ℕ, zero, suc, Bool, true, false, List, [], length, ap, sym, subst, ◌∙◌, arith}
use Rattle.std.proofs.Common.{length-append, refl}
use Rattle.std.proofs.lemmas.Result.{err_from_is_err_and}
use Rattle.shell_log.specs.declared.entry.Entry.{Entry}
use Rattle.shell_log.specs.Entries.{IsLog}
use Rattle.log_report.specs.declared.bins.Bin.{Bin}
use Rattle.log_report.specs.Bins.{bin_over}
use Rattle.log_report.specs.inside.Places.{bins_left}
use Rattle.log_report.proofs.BinLaws.{next_bin, some_bins, log_front, log_back, begins_before}
use Rattle.log_report.proofs.series.Series.next.Goals as goal

-- what isn't empty has some
some_left : (b : Bool) (n : ℕ) → b ≡ (n == 0) → b ≡ false → 0 < n
some_left b zero e empty = absurd (let both : false ≡ true = sym empty ∙ e in cc)
some_left b (suc n) e empty = omega arith

pub sum_bin-requires-clause-log : goal.sum_bin-requires-clause-log
sum_bin-requires-clause-log c =
    log_front c.split_bin.result.0.now c.split_bin.result.1.now
    (subst IsLog c.split_bin.ensures.all c.args.self.now.log)

pub returns-in_err-bin-clause-err : goal.returns-in_err-bin-clause-err
returns-in_err-bin-clause-err c =
    let p = err_from_is_err_and c.from_residual.result c.from_residual.ensures.1 in
    let old = c.args.self.now in
    let all = c.split_bin.ensures.all in
    let some : 0 < length old.rest.now = some_left c.is_empty.result (length old.rest.now) c.is_empty.ensures
    c.if-is_empty.false in
    let bins : 0 < length (bins_left old.every old.number old.rest.now) =
    subst (λ (es : List Entry). 0 < length (bins_left old.every old.number es)) (sym all)
    (some_bins old.every old.number c.split_bin.result.0.now c.split_bin.result.1.now
    (subst (λ (es : List Entry). 0 < length es) all some) c.split_bin.ensures.own c.split_bin.ensures.after) in
    rw p.1 (refl, bins)

pub invariant_of-self : goal.invariant_of-self
invariant_of-self c =
    let old = c.args.self.now in
    let begins = old.begins in
    let all = ap length c.split_bin.ensures.all ∙ length-append c.split_bin.result.0.now c.split_bin.result.1.now in
    let few = old.few in
    let some : 0 < length old.rest.now = some_left c.is_empty.result (length old.rest.now) c.is_empty.ensures
    c.if-is_empty.false in
    let before : old.number * old.every ≤ 9999999999 = begins_before old.every old.number old.rest.now some old.log
    old.later in
    let most = old.most in
    record {
      some = old.some;
      most = old.most;
      begins = ap (λ (m : ℕ). m + old.every) begins ∙ (let e : old.number * old.every + old.every
          ≡ (old.number + 1) * old.every = omega arith in e);
      near = omega arith;
      log = log_back c.split_bin.result.0.now c.split_bin.result.1.now (subst IsLog c.split_bin.ensures.all old.log);
      few = omega arith;
      later = c.split_bin.ensures.after;
    }

pub returns-clause-ok : goal.returns-clause-ok
returns-clause-ok c =
    let old = c.args.self.now in
    let own = c.split_bin.result.0.now in
    let after = c.split_bin.result.1.now in
    let all = c.split_bin.ensures.all in
    let some : 0 < length old.rest.now = some_left c.is_empty.result (length old.rest.now) c.is_empty.ensures
    c.if-is_empty.false in
    ap (bins_left old.every old.number) all
    ∙ next_bin old.every old.number own after (subst (λ (es : List Entry). 0 < length es) all some)
    c.split_bin.ensures.own c.split_bin.ensures.after
    ∙ ap (λ (b : Bin). b ∷ bins_left old.every (old.number + 1) after)
    (ap (λ (m : ℕ). bin_over old.every m own) (sym old.begins) ∙ sym c.in_ok-bin.ensures)
