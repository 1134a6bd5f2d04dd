use Rattle.std.proofs.Common.{◌≡◌, ◌+◌, true, false, ap, sym, ◌∙◌, arith, rules}
use Rattle.std.proofs.lemmas.Grind.{common_steps}
use Rattle.loss_core.specs.Losses.{drops}
use Rattle.loss_core.proofs.Wholes.{one_lost, one_passes}
use Rattle.loss_core.proofs.whole.lose_all.Goals as goal
use Rattle.loss_core.proofs.whole.lose_all.Goals.{then-drops, else-drops}

pub loop-t-preserved : goal.loop-t-preserved
loop-t-preserved g c =
    let word = g.W.Words.word c.args.words in
    let rate = c.args.rate.billionths in
    let n = c.loop-t.t-index in
    let draws = c.loop-t.invariant.draws in
    let here : g.W.Words.word c.loop-t.words 0 ≡ word n = draws.next 0
    ∙ ap word (let e : n + 0 ≡ n = omega arith in e) in
    elim c.if-drops.branch [
      | then-drops w ↦
          let test : drops rate (g.W.Words.word c.loop-t.words 0) ≡ true = search rules in
          record {
            draws = one_lost rate word _ _ _ n c.t-item.result _ _ _ _ (omega arith) c.t-item.is draws
                c.next-word.ensures.after (ap (drops rate) (sym here) ∙ test) (search rules) (search rules);
            departed_room = search rules;
            lost_room = search rules;
          }
      | else-drops w ↦
          let test : drops rate (g.W.Words.word c.loop-t.words 0) ≡ false = search rules in
          record {
            draws = one_passes rate word _ _ _ n c.t-item.result _ _ _ _ (omega arith) c.t-item.is draws
                c.next-word.ensures.after (ap (drops rate) (sym here) ∙ test) (search rules) (search rules);
            departed_room = search rules;
            lost_room = search rules;
          }
    ]

pub returns-clause-departed : goal.returns-clause-departed
returns-clause-departed g c = grind (arith, common_steps)
