use Rattle.std.proofs.Common.{◌++◌, ap, length, sym, ◌∙◌}
use Rattle.mm_base.specs.Files.{lengthened}
use Rattle.mm_base.proofs.FilesLemmas.{lengthened_more}
use Rattle.mm_base.proofs.LineTextsLemmas.{adds_front, on_err}
use Rattle.mm_base.proofs.Then.{OnlyWrites-then}
use Rattle.nest_command.proofs.TableFileLemmas.{no_fates_left, none_at, table_split}
use Rattle.nest_command.proofs.packet_files.append_table.Goals as goal

-- a piece that the disk refuses
pub returns-in_err-append_all-clause-err : goal.returns-in_err-append_all-clause-err
returns-in_err-append_all-clause-err g c =
    let so_far = c.pieces.invariant.so_far in
    let part = c.in_err-append_all.ensures.err in
    on_err _ (adds_front _ _ c.args.name.now _ so_far.0 c.as_slice.result.now _ part.0
    (table_split g.P.TableRow.row_of g.F.TableFate.entry_of _ so_far.0 c.as_slice.result.now c.args.rows.now
    c.pieces.left.now _ _ c.args.fates.now c.pieces.ends.now _ _ so_far.1 c.split_at.ensures.front
    c.split_at.ensures.back c.split_at-in-pieces.ensures.front c.split_at-in-pieces.ensures.back
    (c.as_slice.ensures ∙ c.put_table.ensures))
    part.1
    (lengthened_more _ _ _ _ _ _ so_far.2 part.2))

pub pieces-preserved : goal.pieces-preserved
pieces-preserved g c =
    let so_far = c.pieces.invariant.so_far in
    record {
      so_far = (
        so_far.0 ++ c.as_slice.result.now,
        sym (table_split g.P.TableRow.row_of g.F.TableFate.entry_of _ so_far.0 c.as_slice.result.now c.args.rows.now
            c.pieces.left.now _ _ c.args.fates.now c.pieces.ends.now _ _ so_far.1 c.split_at.ensures.front
            c.split_at.ensures.back c.split_at-in-pieces.ensures.front c.split_at-in-pieces.ensures.back
            (c.as_slice.ensures ∙ c.put_table.ensures)),
        lengthened_more _ _ _ _ _ _ so_far.2 c.in_ok-append_all.ensures.ok,
      );
      only_writes = OnlyWrites-then c.pieces.invariant.only_writes c.append_all.ensures.only_writes;
    }

pub returns-else-not-is_empty-clause-ok : goal.returns-else-not-is_empty-clause-ok
returns-else-not-is_empty-clause-ok g c =
    let so_far = c.pieces.invariant.so_far in
    let none = none_at (length c.pieces.ends.now) (sym c.is_empty-in-pieces.ensures ∙ c.if-not-is_empty.false) in
    so_far.2
    ∙ ap (λ l. lengthened c.args.name.now l (g.D.Disk.view c.args.disk.now).files)
    (no_fates_left g.P.TableRow.row_of g.F.TableFate.entry_of so_far.0 c.args.rows.now c.pieces.left.now
    c.args.fates.now c.pieces.ends.now so_far.1 none)
