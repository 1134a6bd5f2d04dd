use Rattle.std.proofs.Common.{[], ◌++◌, ap, sym, ◌∙◌}
use Rattle.mm_base.proofs.LineTextsLemmas.{on_err}
use Rattle.mm_base.proofs.Then.{OnlyWrites-then}
use Rattle.record_store.specs.StoreText.{store_text}
use Rattle.record_store.specs.declared.header.StoreForm.TheVariants.{Two}
use Rattle.store_files.proofs.WritingLemmas.{all_written, at_false, front_held, none_held, piece_held, piece_written}
use Rattle.store_files.proofs.writing.save_store.Goals as goal

pub returns-in_err-create-clause-err : goal.returns-in_err-create-clause-err
returns-in_err-create-clause-err g c =
    on_err _ (none_held (g.D.Disk.view c.args.disk.now).files (g.D.Disk.view c.create.new.self).files c.args.name.now
    c.args.store.now c.in_err-create.ensures.err)

pub pieces-init : goal.pieces-init
pieces-init g c = record {
  so_far = ([], ap (λ p. p.rest) (c.reserve.ensures ∙ c.new-pieces.ensures), c.in_ok-create.ensures.ok);
  only_writes = c.create.ensures.only_writes;
}

-- out of memory for the next piece
pub returns-in_err-next-clause-err : goal.returns-in_err-next-clause-err
returns-in_err-next-clause-err g c =
    let so_far = c.pieces.invariant.so_far in
    on_err _ (front_held (g.D.Disk.view c.args.disk.now).files (g.D.Disk.view c.pieces.disk).files c.args.name.now
    (store_text Two c.args.store.now) so_far.0 c.pieces.pieces.rest so_far.1 c.in_err-next.ensures.err so_far.2)

pub pieces-preserved : goal.pieces-preserved
pieces-preserved g c =
    let so_far = c.pieces.invariant.so_far in record {
      so_far = piece_written (g.D.Disk.view c.args.disk.now).files (g.D.Disk.view c.pieces.disk).files
          (g.D.Disk.view c.append_all.new.disk).files c.args.name.now (store_text Two c.args.store.now) so_far.0
          c.pieces.pieces.rest c.piece.result.now c.next.new.self.rest so_far.1
          (c.next.ensures.same ∙ ap (λ l. l ++ c.next.new.self.rest) (sym c.piece.ensures)) so_far.2
          c.in_ok-append_all.ensures.ok;
      only_writes = OnlyWrites-then c.pieces.invariant.only_writes c.append_all.ensures.only_writes;
    }

-- the disk fails at a piece
pub returns-in_err-append_all-clause-err : goal.returns-in_err-append_all-clause-err
returns-in_err-append_all-clause-err g c =
    let so_far = c.pieces.invariant.so_far in
    on_err _ (piece_held (g.D.Disk.view c.args.disk.now).files (g.D.Disk.view c.pieces.disk).files
    (g.D.Disk.view c.append_all.new.disk).files c.args.name.now (store_text Two c.args.store.now) so_far.0
    c.pieces.pieces.rest c.piece.result.now c.next.new.self.rest so_far.1
    (c.next.ensures.same ∙ ap (λ l. l ++ c.next.new.self.rest) (sym c.piece.ensures)) so_far.2
    c.in_err-append_all.ensures.err)

pub returns-clause-ok : goal.returns-clause-ok
returns-clause-ok g c =
    let so_far = c.pieces.invariant.so_far in
    all_written (g.D.Disk.view c.args.disk.now).files (g.D.Disk.view c.pieces.disk).files c.args.name.now
    (store_text Two c.args.store.now) so_far.0 c.pieces.pieces.rest c.next.new.self.piece c.next.new.self.rest so_far.1
    c.next.ensures.same (at_false c.in_ok-next.field-0 c.if-branch.false c.in_ok-next.ensures.none) so_far.2
