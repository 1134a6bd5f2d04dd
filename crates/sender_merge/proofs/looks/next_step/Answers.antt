use Rattle.std.proofs.Common.{sym, ◌∙◌}
use Rattle.sender_merge.proofs.Looking.{needed_for, needed_without}
use Rattle.sender_merge.proofs.looks.next_step.Goals as goal
use Rattle.sender_merge.proofs.looks.next_step.Goals.{in_default-via-in-Some+else-all_clear}
use Rattle.sender_merge.proofs.looks.next_step.Goals.{in_default-via-in-None+else-all_ended}

pub mark_or_need-requires-clause-some : goal.mark_or_need-requires-clause-some
mark_or_need-requires-clause-some c =
    let o = c.args.candidate.now in
    let ss = c.args.senders.now in
    elim c.in_default.branch [
      | in_default-via-in-Some+else-all_clear w ↦ needed_for o _ ss w.in-Some.is (sym w.all_clear.ensures
          ∙ w.if-all_clear.false)
      | in_default-via-in-None+else-all_ended w ↦ needed_without o ss c.requires.candidate w.in-None.is
          (sym w.all_ended.ensures ∙ w.if-all_ended.false)
    ]
