use Rattle.std.proofs.Common.{◌≡◌, ◌∙◌, ap, arith, replicate}
use Rattle.sender_merge.specs.Inflows.{fresh}
use Rattle.sender_merge.proofs.incoming.Incoming.new_list.Goals as goal

pub returns : goal.returns
returns c =
    let all : c.loop.counter ≡ c.args.count = omega arith in
    c.loop.invariant ∙ ap (λ n. replicate n fresh) all
