use Rattle.std.proofs.Common.{◌≡◌, ◌<◌, ◌+◌, ◌++◌, ◌∷◌, [], ℕ, List, get_or, set, ap, sym, subst, ◌∙◌}
use Rattle.std.proofs.Common.{length-append}
use Rattle.std.proofs.lemmas.List.{get_or_default}
use Rattle.log_report.specs.Counted.{times}
use Rattle.log_report.proofs.CountLaws.{short_more, short_other, long_more, long_same}
use Rattle.log_report.proofs.delays.DelayCounts.add.Goals as goal

pub returns-then-delay-clause-counts : goal.returns-then-delay-clause-counts
returns-then-delay-clause-counts c = λ delays are. record {
  count = ap (λ (n : ℕ). n + 1) are.count ∙ sym (length-append delays (c.args.delay ∷ []));
  short = λ d lt.
      subst (λ (n : ℕ). get_or (set c.args.self.now.short.items c.args.delay (n + 1)) d 0 ≡ times
      (delays ++ c.args.delay ∷ []) d)
      (sym (c.index_mut.ensures.value ∙ get_or_default c.args.self.now.short.items c.args.delay c.index_mut.result.now
      0 (subst (λ (n : ℕ). c.args.delay < n) (sym c.args.self.now.short_len) c.if-delay.true)))
      (short_more c.args.self.now.short.items delays c.args.delay c.if-delay.true c.args.self.now.short_len are.short
      d lt);
  long = are.long ∙ sym (long_same delays c.args.delay c.if-delay.true);
}

pub returns-clause-counts : goal.returns-clause-counts
returns-clause-counts c = λ delays are. record {
  count = ap (λ (n : ℕ). n + 1) are.count ∙ sym (length-append delays (c.args.delay ∷ []));
  short = short_other c.args.self.now.short.items delays c.args.delay c.if-delay.false are.short;
  long = c.in_ok-push.ensures.items ∙ ap (λ (l : List ℕ). l ++ c.args.delay ∷ []) are.long
      ∙ sym (long_more delays c.args.delay c.if-delay.false);
}
