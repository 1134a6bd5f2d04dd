use Rattle.std.proofs.Common.{◌≡◌, ◌++◌, [], ap, sym, refl, ◌∙◌}
use Rattle.std.proofs.lemmas.List.{append-nil}
use Rattle.mm_base.specs.Files.{lengthened}
use Rattle.mm_base.proofs.FilesLemmas.{lengthened_more}
use Rattle.mm_base.proofs.LineTextsLemmas.{adds_front, on_err}
use Rattle.mm_base.proofs.Then.{OnlyWrites-then}
use Rattle.shell_log.specs.LogText.{lines_text}
use Rattle.nest_command.proofs.LogFileLemmas.{all_split, at_false, lines_some}
use Rattle.nest_command.proofs.run_files.append_pieces.Goals as goal

-- the disk fails at a piece
pub returns-in_err-append_lines-clause-err : goal.returns-in_err-append_lines-clause-err
returns-in_err-append_lines-clause-err g c =
    let so_far = c.pieces.invariant.so_far in
    let part = c.in_err-append_lines.ensures.err in
    on_err _ (adds_front _ _ c.args.name.now _ so_far.0 (lines_text c.piece.result.now) _ part.0
    (all_split so_far.0 c.piece.result.now (c.args.pieces.now.piece ++ c.args.pieces.now.rest)
    (c.pieces.pieces.piece ++ c.pieces.pieces.rest) c.pieces.pieces.piece c.pieces.pieces.rest so_far.1 refl
    c.piece.ensures)
    part.1
    (lengthened_more _ _ _ _ _ _ so_far.2 part.2))

-- out of memory for the next piece
pub returns-in_err-next-clause-err : goal.returns-in_err-next-clause-err
returns-in_err-next-clause-err g c =
    let so_far = c.pieces.invariant.so_far in
    let front = so_far.0 ++ lines_text c.piece.result.now in
    on_err _ (adds_front _ _ c.args.name.now _ front (lines_text c.pieces.pieces.rest) [] 0
    (all_split so_far.0 c.piece.result.now (c.args.pieces.now.piece ++ c.args.pieces.now.rest)
    (c.pieces.pieces.piece ++ c.pieces.pieces.rest) c.pieces.pieces.piece c.pieces.pieces.rest so_far.1 refl
    c.piece.ensures
    ∙ sym (append-nil (front ++ lines_text c.pieces.pieces.rest)))
    (lines_some c.pieces.pieces.rest c.in_err-next.ensures.err)
    (lengthened_more _ _ _ _ _ _ so_far.2 c.in_ok-append_lines.ensures.ok
    ∙ ap (λ l. lengthened c.args.name.now l (g.D.Disk.view c.args.disk.now).files) (sym (append-nil front))))

pub pieces-preserved : goal.pieces-preserved
pieces-preserved g c =
    let so_far = c.pieces.invariant.so_far in record {
      so_far = (
        so_far.0 ++ lines_text c.piece.result.now,
        sym (all_split so_far.0 c.piece.result.now (c.args.pieces.now.piece ++ c.args.pieces.now.rest)
            (c.pieces.pieces.piece ++ c.pieces.pieces.rest) c.pieces.pieces.piece c.pieces.pieces.rest so_far.1 refl
            c.piece.ensures
            ∙ ap (λ es. (so_far.0 ++ lines_text c.piece.result.now) ++ lines_text es) c.next.ensures.same),
        lengthened_more _ _ _ _ _ _ so_far.2 c.in_ok-append_lines.ensures.ok,
      );
      only_writes = OnlyWrites-then c.pieces.invariant.only_writes c.append_lines.ensures.only_writes;
    }

pub returns-then-not-branch-clause-ok : goal.returns-then-not-branch-clause-ok
returns-then-not-branch-clause-ok g c =
    let so_far = c.pieces.invariant.so_far in
    let front = so_far.0 ++ lines_text c.piece.result.now in
    let split = all_split so_far.0 c.piece.result.now (c.args.pieces.now.piece ++ c.args.pieces.now.rest)
    (c.pieces.pieces.piece ++ c.pieces.pieces.rest) c.pieces.pieces.piece c.pieces.pieces.rest so_far.1 refl
    c.piece.ensures in
    let none = at_false c.in_ok-next.field-0 c.if-not-branch.true c.in_ok-next.ensures.none in
    let over : c.pieces.pieces.rest ≡ [] =
    c.next.ensures.same ∙ ap (λ es. es ++ c.next.new.self.rest) none.0 ∙ none.1 in
    lengthened_more _ _ _ _ _ _ so_far.2 c.in_ok-append_lines.ensures.ok
    ∙ ap (λ l. lengthened c.args.name.now l (g.D.Disk.view c.args.disk.now).files)
    (sym (append-nil front) ∙ ap (λ es. front ++ lines_text es) (sym over) ∙ sym split)
