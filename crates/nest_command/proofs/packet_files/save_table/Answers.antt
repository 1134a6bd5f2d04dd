use Rattle.std.proofs.Common.{◌+◌, length, inr, ap, sym, ◌∙◌, arith, length-append}
use Rattle.std.proofs.Math.Seq.{take-append-add}
use Rattle.std.proofs.lemmas.Result.{on_ok_weaker, on_err_weaker}
use Rattle.mm_base.specs.Files.{holding}
use Rattle.mm_base.proofs.FilesLemmas.{holding-lengthened}
use Rattle.mm_base.proofs.LineTextsLemmas.{first_held, on_err}
use Rattle.nest_spec.specs.TableText.{table_header, table_lines}
use Rattle.nest_command.proofs.packet_files.save_table.Goals as goal

pub returns-in_err-save-clause-err : goal.returns-in_err-save-clause-err
returns-in_err-save-clause-err g c =
    on_err _ (first_held _ _ c.args.name.now table_header _ c.in_err-save.ensures.err)

pub returns-clause-ok : goal.returns-clause-ok
returns-clause-ok g c =
    on_ok_weaker c.append_table.result
    (λ added. holding-lengthened _ _ _ _ table_header _ c.in_ok-save.ensures.ok added)
    c.append_table.ensures.ok

pub returns-clause-err : goal.returns-clause-err
returns-clause-err g c =
    let lines = table_lines g.P.TableRow.row_of g.F.TableFate.entry_of c.args.rows.now c.args.fates.now in
    on_err_weaker c.append_table.result
    (λ part. inr (
      length table_header + part.0,
      omega (arith, part.1, length-append table_header lines),
      holding-lengthened _ _ _ _ table_header _ c.in_ok-save.ensures.ok part.2
          ∙ ap (λ l. holding c.args.name.now l (g.D.Disk.view c.args.disk.now).files)
          (sym (take-append-add table_header lines part.0)),
    ))
    c.append_table.ensures.err
