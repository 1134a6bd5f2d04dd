use Rattle.std.proofs.Common.{◌∙◌, sym}
use Rattle.record_store.proofs.ReaderLaws.{passed_over}
use Rattle.record_store.proofs.store_reader.StoreReaderPieceReader.push.Goals as goal

pub returns-then-is_some : goal.returns-then-is_some
returns-then-is_some c = λ text has. passed_over text c.args.piece.now c.args.self.now c.args.self.now.refused
    (sym c.is_some.ensures ∙ c.if-is_some.true) has

pub returns-in-Err : goal.returns-in-Err
returns-in-Err c = λ text has more. c.in-Err.ensures.refused text more has
