use Rattle.std.proofs.Common.{Err, ap, subst, sym, ◌∙◌}
use Rattle.mm_base.proofs.PieceLemmas.{none_read, whole_read}
use Rattle.command_ends.specs.inside.Loads.{cause_of_disk}
use Rattle.command_ends.specs.Stops.{StopsAtFile}
use Rattle.command_ends.specs.declared.cause.Cause.{Cause}
use Rattle.command_ends.proofs.InputLemmas.{disk_stops}
use Rattle.command_ends.proofs.PieceLemmas.{whole_input}
use Rattle.command_ends.proofs.inputs.read_pieces.Goals as goal

pub returns-in-Ok-clause-read : goal.returns-in-Ok-clause-read
returns-in-Ok-clause-read g c =
    let has_read = g.P.PieceReader.has_read in
    let told = (g.D.Disk.view c.args.disk.now).files in
    let name = c.args.name.now in
    let old = c.args.reader.now in
    let new = c.push_pieces.new.reader in
    whole_input has_read told name old new (whole_read has_read told name c.args.size old new c.requires
    (c.in-Ok.ensures.front old (none_read has_read told name old)))

pub returns-clause-stopped : goal.returns-clause-stopped
returns-clause-stopped g c =
    let name = c.args.name.now in
    let old = g.D.Disk.view c.args.disk.now in
    let new = g.D.Disk.view c.push_pieces.new.disk in
    let error = c.in-Err.error in
    let why = c.in-Err.ensures in
    subst (λ (cause : Cause). StopsAtFile name old new cause)
    (sym (c.cause_of_disk.ensures ∙ ap (λ n. cause_of_disk n error) c.in_ok-from_text-in-Err.ensures))
    (disk_stops name old new error (λ e. why.absent (ap Err e)) (λ e. why.cause.absent (ap Err e))
    (λ e. why.cause.failed (ap Err e)))
