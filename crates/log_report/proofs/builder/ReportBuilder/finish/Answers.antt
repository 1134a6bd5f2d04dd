use Rattle.std.proofs.Common.{[], ℕ, List, Some, refl, ap, sym, subst, ◌∙◌, append-nil}
use Rattle.std.proofs.lemmas.Result.{err_from_is_err_and}
use Rattle.shell_log.specs.LogText.{log_text}
use Rattle.shell_log.proofs.FaultLaws.{only_memory, same_log}
use Rattle.log_report.specs.Reports.{report_of}
use Rattle.log_report.specs.ReportBuilder.{IsSummed}
use Rattle.log_report.proofs.builder.ReportBuilder.finish.Goals as goal

pub returns-in_err-finish-clause-exact : goal.returns-in_err-finish-clause-exact
returns-in_err-finish-clause-exact c = λ text read.
    let s = subst (λ (w : List ℕ). IsSummed w [] c.args.self) (append-nil text) (read []) in
    let p = err_from_is_err_and c.from_residual.result c.from_residual.ensures.1 in
    rw p.1 (λ other. c.in_err-finish.ensures.exact text s.0 s.1 (λ e. other (p.2 ∙ e)) ∙ ap Some (sym p.2))

pub returns-in_err-finish-clause-every : goal.returns-in_err-finish-clause-every
returns-in_err-finish-clause-every c = λ es is read.
    let s = subst (λ (w : List ℕ). IsSummed w [] c.args.self) (append-nil (log_text es)) (read []) in
    let p = err_from_is_err_and c.from_residual.result c.from_residual.ensures.1 in
    let memory = only_memory (log_text es) es c.in_err-finish.field-0.0 is refl
    (c.in_err-finish.ensures.exact (log_text es) s.0 s.1) in
    rw p.1 (p.2 ∙ memory)

pub returns-clause-found : goal.returns-clause-found
returns-clause-found c = λ text read.
    let s = subst (λ (w : List ℕ). IsSummed w [] c.args.self) (append-nil text) (read []) in
    let found = c.in_ok-finish.ensures.found text s.0 s.1 in
    (s.0, found.1, found.0, c.report.ensures s.0 (s.2 c.in_ok-finish.ensures.accepted))

pub returns-clause-every : goal.returns-clause-every
returns-clause-every c = λ es is read.
    let s = subst (λ (w : List ℕ). IsSummed w [] c.args.self) (append-nil (log_text es)) (read []) in
    let found = c.in_ok-finish.ensures.found (log_text es) s.0 s.1 in
    c.report.ensures s.0 (s.2 c.in_ok-finish.ensures.accepted)
    ∙ ap report_of (same_log (log_text es) s.0 es found.1 is found.0 refl)

pub returns-clause-exact : goal.returns-clause-exact
returns-clause-exact c = λ text read.
    let s = subst (λ (w : List ℕ). IsSummed w [] c.args.self) (append-nil text) (read []) in
    c.in_ok-finish.ensures.exact text s.0 s.1
