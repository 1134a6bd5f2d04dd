use Rattle.std.proofs.Common.{Option, [], subst, sym}
use Rattle.std.proofs.lemmas.Result.{err_from_is_err_and}
use Rattle.mm_base.specs.Files.{Files}
use Rattle.command_ends.specs.Stops.{IsInput, StopsAtFile}
use Rattle.command_ends.specs.declared.cause.Cause.{Cause}
use Rattle.command_ends.proofs.ReadingLemmas.{file_later}
use Rattle.nest_command.proofs.schedules.read_schedule_file.Goals as goal

pub returns-in_err-read_pieces-clause-stopped : goal.returns-in_err-read_pieces-clause-stopped
returns-in_err-read_pieces-clause-stopped g c =
    let p = err_from_is_err_and c.from_residual-in_err-read_pieces.result c.from_residual-in_err-read_pieces.ensures.1
    in
    let name = c.args.name.now in
    let old = g.D.Disk.view c.args.disk.now in
    let mid = g.D.Disk.view c.input_size.new.disk in
    let new = g.D.Disk.view c.read_pieces.new.disk in
    rw p.1 (subst (λ (k : Cause). StopsAtFile name old new k) (sym p.2)
    (file_later name old mid new _ c.input_size.ensures.only_reads c.in_err-read_pieces.ensures.stopped))

pub returns-clause-read : goal.returns-clause-read
returns-clause-read g c =
    let read = c.in_ok-read_pieces.ensures.read in (
      read.bytes,
      subst (λ (told : Option Files). IsInput told c.args.name.now read.bytes)
          c.input_size.ensures.only_reads.same_files read.input,
      read.goes_on [] c.in_ok-text.ensures.read,
    )
