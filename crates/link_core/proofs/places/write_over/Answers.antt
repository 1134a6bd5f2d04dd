use Rattle.std.proofs.Common.{◌+◌, ◌-◌, length, arith}
use Rattle.std.proofs.lemmas.Slice.{drop-put_mid}
use Rattle.link_core.proofs.places.write_over.Goals as goal

pub returns-clause-behind : goal.returns-clause-behind
returns-clause-behind c = λ n le.
    let start = c.args.start in
    let count = start + length c.args.packets.now - start in
    drop-put_mid start count c.args.list.now c.copy_from_slice.new.self n (omega arith) (omega arith) (omega arith)
