use Rattle.std.proofs.Common.{◌-◌, length, drop, ap, ◌∙◌, arith, length-drop}
use Rattle.std.proofs.lemmas.Grind.{common_steps}
use Rattle.std.proofs.lemmas.List.{length-take}
use Rattle.mm_base.specs.Sink.{sending}
use Rattle.mm_base.proofs.SinkLemmas.{sent_more}
use Rattle.mm_base.proofs.ListPieces.{next_piece}
use Rattle.mm_base.proofs.Then.{CountsFaults-then}
use Rattle.mm_base.proofs.sink.send_all.Goals as goal

pub loop-at-preserved : goal.loop-at-preserved
loop-at-preserved g c = record {
  within = let bs = c.args.bytes.now
      in omega (
        arith,
        c.in_ok-at.ensures.within,
        length-take (length bs - c.loop-at.at) (drop c.loop-at.at bs),
        length-drop c.loop-at.at bs,
      );
  so_far = sent_more _ _ _ _ _ c.loop-at.invariant.so_far c.in_ok-at.ensures.ok
      ∙ ap (λ l. sending l (g.O.Sink.view c.args.out.now).written)
      (next_piece c.args.bytes.now c.loop-at.at c.in_ok-at.field-0);
  counts = CountsFaults-then c.loop-at.invariant.counts c.write.ensures.counts;
}

pub returns-clause-ok : goal.returns-clause-ok
returns-clause-ok g c = grind (arith, common_steps)
