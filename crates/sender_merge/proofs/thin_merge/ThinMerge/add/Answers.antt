use Rattle.std.proofs.Common.{◌∙◌, ◌-◌, ◌<◌, arith, length}
use Rattle.sender_merge.proofs.Inletting.{on_err, on_ok}
use Rattle.sender_merge.proofs.Thinning.{add-thin, same-item}
use Rattle.sender_merge.proofs.thin_merge.ThinMerge.add.Goals as goal

pub returns-clause-ok : goal.returns-clause-ok
returns-clause-ok c =
    let i = c.args.sender - 1 in
    let lt : i < length c.args.self.now.senders.items =
    (let some = c.requires.some in let few = c.requires.few in omega arith) in
    on_ok c.add.result _ _
    (λ one m stands is. record {
      senders = add-thin m c.args.self.now i c.args.item c.index_mut-incoming.result.now c.add.new.self is stands lt
          c.index_mut-incoming.ensures.value one;
      bound = is.bound;
      end = is.end;
    })
    c.add.ensures.ok

pub returns-clause-err : goal.returns-clause-err
returns-clause-err c =
    on_err c.add.result _ _
    (λ err. (
      λ m is. record {
        senders = same-item c.args.self.now.senders.items (c.args.sender - 1) c.index_mut-incoming.result.now
            c.add.new.self c.index_mut-incoming.ensures.value err.0 ∙ is.senders;
        bound = is.bound;
        end = is.end;
      },
      err.1,
    ))
    c.add.ensures.err
