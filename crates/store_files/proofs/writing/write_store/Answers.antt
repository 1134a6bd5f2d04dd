use Rattle.record_store.specs.StoreText.{store_text}
use Rattle.record_store.specs.declared.header.StoreForm.TheVariants.{Two}
use Rattle.command_ends.specs.Outputs.{named_text}
use Rattle.store_files.proofs.WritingLemmas.{written_stops}
use Rattle.store_files.proofs.writing.write_store.Goals as goal

pub returns-clause-stopped : goal.returns-clause-stopped
returns-clause-stopped g c =
    let old = g.D.Disk.view c.args.disk.now in
    let new = g.D.Disk.view c.save_store-written.new.disk in
    written_stops (named_text c.args.name.now (store_text Two c.args.store.now)) c.save_store-written.result
    c.file_written.result old new c.file_written.ensures.done c.save_store-written.ensures.err
    (c.file_written.ensures.stopped old new c.save_store-written.ensures.cause)
