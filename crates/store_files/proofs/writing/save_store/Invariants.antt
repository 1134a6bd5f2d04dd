use Rattle.std.proofs.Common.{◌≡◌, ◌++◌, ℕ, List, length}
use Rattle.mm_base.specs.Files.{holding}
use Rattle.mm_base.specs.Disk.{OnlyWrites}
use Rattle.record_store.specs.StoreText.{store_text}
use Rattle.record_store.specs.declared.header.StoreForm.TheVariants.{Two}
use Rattle.store_files.proofs.writing.save_store.Given as goal

abbrev pub invariant-pieces : goal.invariant-pieces
invariant-pieces g l = record {
  so_far : (front : List ℕ) × (front ++ l.pieces.rest ≡ store_text Two l.store)
      × ((g.D.Disk.view l.disk).files ≡ holding l.name front (g.D.Disk.view l.fn.disk).files);
  only_writes : OnlyWrites (g.D.Disk.view l.fn.disk) (g.D.Disk.view l.disk);
}

abbrev pub decreases-pieces : goal.decreases-pieces
decreases-pieces g l = length l.pieces.rest
