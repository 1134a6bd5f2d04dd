use Rattle.std.proofs.Common.{◌≡◌, List, OnOk, subst}
use Rattle.mm_base.specs.Files.{holding}
use Rattle.shell_log.specs.declared.entry.Entry.{Entry}
use Rattle.shell_log.specs.LogText.{log_text}
use Rattle.nest_command.proofs.run_files.save_log.Goals as goal

pub returns-clause-ok : goal.returns-clause-ok
returns-clause-ok g c =
    subst (λ (entries : List Entry). OnOk c.save_pieces.result ((g.D.Disk.view c.save_pieces.new.disk).files
    ≡ holding c.args.name.now (log_text entries) (g.D.Disk.view c.args.disk.now).files)) c.in_ok-log.ensures
    c.save_pieces.ensures.ok
