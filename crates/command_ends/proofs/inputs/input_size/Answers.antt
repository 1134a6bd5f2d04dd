use Rattle.std.proofs.Common.{Err, ap, subst, sym, ◌∙◌}
use Rattle.command_ends.specs.inside.Loads.{cause_of_load}
use Rattle.command_ends.specs.Stops.{StopsAtFile}
use Rattle.command_ends.specs.declared.cause.Cause.{Cause}
use Rattle.command_ends.proofs.InputLemmas.{load_stops}
use Rattle.command_ends.proofs.inputs.input_size.Goals as goal

pub returns-in_ok-from_text-in-Err-clause-stopped : goal.returns-in_ok-from_text-in-Err-clause-stopped
returns-in_ok-from_text-in-Err-clause-stopped g c =
    let name = c.args.name.now in
    let old = g.D.Disk.view c.args.disk.now in
    let new = g.D.Disk.view c.size_within.new.disk in
    let error = c.in-Err.error in
    let why = c.in-Err.ensures in
    subst (λ (cause : Cause). StopsAtFile name old new cause)
    (sym (c.cause_of_load.ensures ∙ ap (λ n. cause_of_load n error) c.in_ok-from_text-in-Err.ensures))
    (load_stops name old new error (λ e. why.absent (ap Err e)) (λ e. why.absent_cause (ap Err e))
    (λ e. why.failed_cause (ap Err e)) (λ size e. why.too_long size (ap Err e)))
