use Rattle.std.proofs.Common.{◌∷◌, ◌++◌, [], ap, sym, ◌∙◌}
use Rattle.std.proofs.lemmas.Result.{on_ok_weaker, on_err_weaker}
use Rattle.mm_base.specs.Files.{holding}
use Rattle.mm_base.proofs.FilesLemmas.{holding-lengthened}
use Rattle.mm_base.proofs.LineTextsLemmas.{first_held, on_err}
use Rattle.shell_log.specs.LogText.{header, lines_text, log_text}
use Rattle.nest_command.proofs.LogFileLemmas.{text_cut}
use Rattle.nest_command.proofs.run_files.save_pieces.Goals as goal

-- the file isn't made, or its header isn't written whole
pub returns-in_err-save-clause-err : goal.returns-in_err-save-clause-err
returns-in_err-save-clause-err g c =
    on_err _ (first_held (g.D.Disk.view c.args.disk.now).files (g.D.Disk.view c.save.new.disk).files c.args.name.now
    (header ++ 10 ∷ []) (lines_text c.args.log) c.in_err-save.ensures.err)

pub returns-clause-ok : goal.returns-clause-ok
returns-clause-ok g c =
    on_ok_weaker c.append_pieces.result
    (λ added. holding-lengthened _ _ _ _ (header ++ 10 ∷ []) _ c.in_ok-save.ensures.ok added
    ∙ ap (λ es. holding c.args.name.now (log_text es) (g.D.Disk.view c.args.disk.now).files)
    (sym c.next.ensures.same ∙ c.pieces-pieces.ensures.rest))
    c.append_pieces.ensures.ok

pub returns-clause-err : goal.returns-clause-err
returns-clause-err g c =
    on_err_weaker c.append_pieces.result
    (λ part. text_cut (g.D.Disk.view c.args.disk.now).files (g.D.Disk.view c.save.new.disk).files
    (g.D.Disk.view c.append_pieces.new.disk).files c.args.name.now _ c.args.log part.0
    (sym c.next.ensures.same ∙ c.pieces-pieces.ensures.rest) part.1 c.in_ok-save.ensures.ok part.2)
    c.append_pieces.ensures.err
