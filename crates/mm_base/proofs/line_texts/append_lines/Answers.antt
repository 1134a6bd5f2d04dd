use Rattle.std.proofs.Common.{◌++◌, sym, ◌∙◌}
use Rattle.mm_base.proofs.FilesLemmas.{lengthened_more}
use Rattle.mm_base.proofs.LineTextsLemmas.{on_err, text_split, adds_front}
use Rattle.mm_base.proofs.Then.{OnlyWrites-then}
use Rattle.mm_base.proofs.line_texts.append_lines.Goals as goal

-- a piece that the disk refuses
pub returns-in_err-append_all-clause-err : goal.returns-in_err-append_all-clause-err
returns-in_err-append_all-clause-err g c =
    let so_far = c.pieces.invariant.so_far in
    let part = c.in_err-append_all.ensures.err in
    on_err _ (adds_front _ _ c.args.name.now _ so_far.0 c.as_slice.result.now _ part.0
    (text_split g.T.PrintLine.line so_far.0 c.as_slice.result.now c.args.items.now c.pieces.left.now _ _ so_far.1
    c.split_lines.ensures.all (c.as_slice.ensures ∙ c.put_lines.ensures))
    part.1
    (lengthened_more _ _ _ _ _ _ so_far.2 part.2))

pub pieces-preserved : goal.pieces-preserved
pieces-preserved g c =
    let so_far = c.pieces.invariant.so_far in
    record {
      so_far = (
        so_far.0 ++ c.as_slice.result.now,
        sym (text_split g.T.PrintLine.line so_far.0 c.as_slice.result.now c.args.items.now c.pieces.left.now _ _
            so_far.1 c.split_lines.ensures.all (c.as_slice.ensures ∙ c.put_lines.ensures)),
        lengthened_more _ _ _ _ _ _ so_far.2 c.in_ok-append_all.ensures.ok,
      );
      only_writes = OnlyWrites-then c.pieces.invariant.only_writes c.append_all.ensures.only_writes;
    }
