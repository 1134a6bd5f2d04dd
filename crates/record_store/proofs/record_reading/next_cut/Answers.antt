use Rattle.std.proofs.Common.{◌∙◌, ◌++◌, ℕ, List, Err, not, ap, sym, append-nil}
use Rattle.record_store.specs.Cuts.{cut_of}
use Rattle.record_store.proofs.MoreLaws.{cut_more}
use Rattle.record_store.proofs.record_reading.next_cut.Goals as goal
use Rattle.record_store.proofs.record_reading.next_cut.Goals.{else-not-ended-via-then-not-ended+else-cut_off, else-not-ended-via-else-not-ended}

pub returns-else-not-ended-clause-refused : goal.returns-else-not-ended-clause-refused
returns-else-not-ended-clause-refused c = λ more ending.
    let form = c.args.form in
    let place = c.args.place in
    let bytes = c.args.bytes.now in
    elim c.else-not-ended.branch [
      | else-not-ended-via-then-not-ended+else-cut_off w ↦
          cut_more form place bytes more (Err c.in-Err.error)
          (ap not (sym w.cut_off.ensures ∙ w.if-cut_off.false)) (sym c.in-Err.ensures.cut)
      | else-not-ended-via-else-not-ended w ↦
          ap (λ (l : List ℕ). cut_of form place (bytes ++ l)) (ending w.if-not-ended.false)
          ∙ ap (cut_of form place) (append-nil bytes) ∙ sym c.in-Err.ensures.cut
    ]
