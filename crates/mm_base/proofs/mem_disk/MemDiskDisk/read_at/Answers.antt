use Rattle.std.proofs.Common.{◌∙◌, ap, rules}
use Rattle.mm_base.proofs.FailsLemmas.{is_named}
use Rattle.mm_base.proofs.mem_disk.MemDiskDisk.read_at.Goals as goal

pub returns-then-is_failing-clause-call : goal.returns-then-is_failing-clause-call
returns-then-is_failing-clause-call c = record {
  same_fails = search rules;
  counted = search rules;
  failed = (
    λ _. is_named _ _ _ _ (c.deref.ensures.value ∙ ap (λ s. s.fails) c.self.view_is) c.is_failing.ensures.failing
        c.if-is_failing.true,
    λ _. search rules,
  );
}

pub returns-then-is_failing-clause-counted : goal.returns-then-is_failing-clause-counted
returns-then-is_failing-clause-counted c = search rules

pub returns-in-Some-clause-counted : goal.returns-in-Some-clause-counted
returns-in-Some-clause-counted c = search rules

pub returns-in-None-clause-counted : goal.returns-in-None-clause-counted
returns-in-None-clause-counted c = search rules
