use Rattle.std.proofs.Common.{List, ℕ, refl, subst, sym}
use Rattle.command_report.specs.SummaryText.{IsSummary}
use Rattle.command_ends.specs.Ends.{offline}
use Rattle.command_ends.specs.Works.{only}
use Rattle.command_ends.specs.Outputs.{prints}
use Rattle.command_ends.proofs.EndLemmas.{ends_printed, finishes_only, handed_early, keeps_all}
use Rattle.command_ends.proofs.ReadingLemmas.{stays}
use Rattle.command_report.specs.Make.{GivesMake, make_reading}
use Rattle.command_report.specs.inside.Values.{make_values}
use Rattle.command_report.proofs.make.make.Goals as goal

pub returns-in_err-summary-clause-ends : goal.returns-in_err-summary-clause-ends
returns-in_err-summary-clause-ends g c = λ disk.
    handed_early (only GivesMake) (make_reading (make_values c.args.job.now)) _ _ _ tt c.from_residual.result
    c.from_residual.ensures.1 (keeps_all disk)

pub returns-clause-ends : goal.returns-clause-ends
returns-clause-ends g c = λ disk.
    let job = make_values c.args.job.now in
    let reading = make_reading job in
    let text = c.as_slice.result.now in
    let is = subst (λ (t : List ℕ). IsSummary job.number job.packets t) (sym c.as_slice.ensures)
    c.in_ok-summary.ensures in
    ends_printed (only GivesMake) reading (offline disk (g.O.Sink.view c.args.out.now))
    (offline disk (g.O.Sink.view c.print.new.out)) text c.print.result
    (finishes_only reading GivesMake job disk.files (prints text) (stays reading)
    (record { text = text; is = is; output_is = refl }))
    (keeps_all disk) c.print.ensures.ok c.print.ensures.stopped
