use Rattle.std.proofs.Common.{List, ℕ, subst, sym, ◌∙◌}
use Rattle.command_ends.specs.Ends.{offline}
use Rattle.command_ends.specs.inside.Ends.{FinishesOnly}
use Rattle.command_ends.specs.Outputs.{prints}
use Rattle.command_ends.specs.Works.{only}
use Rattle.command_ends.proofs.EndLemmas.{ends_printed, handed_early, handed_stopped, keeps}
use Rattle.command_stores.specs.Matching.{GivesMatch, match_reading}
use Rattle.command_stores.specs.inside.Values.{match_values}
use Rattle.command_stores.proofs.matching.print_best.Goals as goal

pub returns-in_err-number-clause-ends : goal.returns-in_err-number-clause-ends
returns-in_err-number-clause-ends g c =
    handed_stopped (only GivesMatch) (match_reading (match_values c.args.job.now)) _ _ _ tt _ c.from_residual.result
    c.from_residual.ensures.1 (keeps c.find_best.ensures.only_reads) c.in_err-number.ensures.stopped

pub returns-in_err-text-clause-ends : goal.returns-in_err-text-clause-ends
returns-in_err-text-clause-ends g c =
    handed_early (only GivesMatch) (match_reading (match_values c.args.job.now)) _ _ _ tt
    c.from_residual-in_err-text.result c.from_residual-in_err-text.ensures.1 (keeps c.find_best.ensures.only_reads)

pub returns-clause-ends : goal.returns-clause-ends
returns-clause-ends g c =
    let reading = match_reading (match_values c.args.job.now) in
    let old = offline (g.D.Disk.view c.args.disk.now) (g.O.Sink.view c.args.out.now) in
    let new = offline (g.D.Disk.view c.find_best.new.disk) (g.O.Sink.view c.print.new.out) in
    let same = sym (c.as_slice.ensures ∙ c.in_ok-text.ensures) in
    ends_printed (only GivesMatch) reading old new c.as_slice.result.now c.print.result
    (subst (λ (text : List ℕ). FinishesOnly GivesMatch reading old.disk.files (prints text)) same
    c.in_ok-number.ensures.found)
    (keeps c.find_best.ensures.only_reads) c.print.ensures.ok c.print.ensures.stopped
