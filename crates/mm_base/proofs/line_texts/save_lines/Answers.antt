use Rattle.std.proofs.Common.{◌+◌, length, inr, ap, sym, ◌∙◌, arith, length-append}
use Rattle.std.proofs.Math.Seq.{take-append-add}
use Rattle.std.specs.List.{flat_map}
use Rattle.std.proofs.lemmas.Result.{on_ok_weaker, on_err_weaker}
use Rattle.mm_base.specs.Files.{holding}
use Rattle.mm_base.proofs.FilesLemmas.{holding-lengthened}
use Rattle.mm_base.proofs.LineTextsLemmas.{first_held, on_err}
use Rattle.mm_base.proofs.line_texts.save_lines.Goals as goal

pub returns-in_err-save-clause-err : goal.returns-in_err-save-clause-err
returns-in_err-save-clause-err g c =
    on_err _ (first_held _ _ c.args.name.now c.args.first.now _ c.in_err-save.ensures.err)

pub returns-clause-ok : goal.returns-clause-ok
returns-clause-ok g c =
    on_ok_weaker c.append_lines.result
    (λ added. holding-lengthened _ _ _ _ c.args.first.now _ c.in_ok-save.ensures.ok added)
    c.append_lines.ensures.ok

pub returns-clause-err : goal.returns-clause-err
returns-clause-err g c =
    let lines = flat_map g.T.PrintLine.line c.args.items.now in
    on_err_weaker c.append_lines.result
    (λ part. inr (
      length c.args.first.now + part.0,
      omega (arith, part.1, length-append c.args.first.now lines),
      holding-lengthened _ _ _ _ c.args.first.now _ c.in_ok-save.ensures.ok part.2
          ∙ ap (λ l. holding c.args.name.now l (g.D.Disk.view c.args.disk.now).files)
          (sym (take-append-add c.args.first.now lines part.0)),
    ))
    c.append_lines.ensures.err
