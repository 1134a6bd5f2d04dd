use Rattle.std.proofs.Common.{◌-◌, ◌<◌, length, drop, refl, ap, ◌∙◌, arith, length-drop}
use Rattle.std.proofs.lemmas.List.{length-take}
use Rattle.std.specs.Option.{option_map}
use Rattle.mm_base.specs.Link.{giving}
use Rattle.mm_base.proofs.ListPieces.{next_piece}
use Rattle.mm_base.proofs.Then.{CountsFaults-then}
use Rattle.replay_server.proofs.GivingLemmas.{broken, giving_more, on_err}
use Rattle.replay_server.proofs.giving.give.Goals as goal

pub returns-in_err-at-clause-err : goal.returns-in_err-at-clause-err
returns-in_err-at-clause-err g c =
    let short : c.loop-at.at < length c.args.piece.now = omega arith in
    on_err c.from_residual.result (broken c.args.piece.now c.loop-at.at _ _ _ _ short c.loop-at.invariant.so_far
    (λ l. refl) c.in_err-at.ensures.told)

pub loop-at-preserved : goal.loop-at-preserved
loop-at-preserved g c = record {
  within = let bs = c.args.piece.now
      in omega (
        arith,
        c.in_ok-at.ensures.within,
        length-take (length bs - c.loop-at.at) (drop c.loop-at.at bs),
        length-drop c.loop-at.at bs,
      );
  so_far = c.in_ok-at.ensures.told ∙ ap (option_map (giving _)) c.loop-at.invariant.so_far ∙ giving_more _ _ _
      ∙ ap (λ l. option_map (giving l) (g.L.Link.view c.args.link.now).told)
      (next_piece c.args.piece.now c.loop-at.at c.in_ok-at.field-0);
  counts = CountsFaults-then c.loop-at.invariant.counts c.write.ensures.counts;
}
