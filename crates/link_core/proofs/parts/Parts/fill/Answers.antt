use Rattle.std.proofs.Common.{Result, Ok, Err, OnErr, ◌∙◌, arith}
use Rattle.std.proofs.lemmas.Grind.{common_steps}
use Rattle.link_core.proofs.PlayLemmas.{same_rest, rest_some}
use Rattle.link_core.proofs.parts.Parts.fill.Goals as goal

where_err : {T E P : Type 0} (r : Result T E) → P → OnErr r P
where_err (Ok x) p = tt
where_err (Err e) p = p

pub returns-in_err-run-clause-same : goal.returns-in_err-run-clause-same
returns-in_err-run-clause-same g c =
    let was = c.filling.invariant in
    let now = c.run.ensures in
    same_rest g.gone c.filling.self was.well was.logged c.args.last c.run.new.self now.sound
    (now.link.logged ∙ was.logged) was.playable now.playable now.link.opportunities now.link.spec now.arrivals
    ∙ was.same

pub returns-then-not-branch-clause-same : goal.returns-then-not-branch-clause-same
returns-then-not-branch-clause-same g c =
    let was = c.filling.invariant in
    let now = c.run.ensures in
    same_rest g.gone c.filling.self was.well was.logged c.args.last c.run.new.self now.sound
    (now.link.logged ∙ was.logged) was.playable now.playable now.link.opportunities now.link.spec now.arrivals
    ∙ was.same

pub filling-preserved : goal.filling-preserved
filling-preserved g c =
    let was = c.filling.invariant in
    let now = c.run.ensures in
    record {
      well = now.sound;
      playable = now.playable;
      logged = now.link.logged ∙ was.logged;
      same =
          same_rest g.gone c.filling.self was.well was.logged c.args.last c.run.new.self now.sound
          (now.link.logged ∙ was.logged) was.playable now.playable now.link.opportunities now.link.spec now.arrivals
          ∙ was.same;
    }

pub returns-in_err-run-clause-err : goal.returns-in_err-run-clause-err
returns-in_err-run-clause-err g c =
    let was = c.filling.invariant in
    let now = c.run.ensures in
    let some = rest_some g.gone c.run.new.self now.sound (now.link.logged ∙ was.logged) c.args.last now.playable
    c.in_err-run.ensures.err in
    where_err c.from_residual.result some

pub returns-then-not-branch-clause-none : goal.returns-then-not-branch-clause-none
returns-then-not-branch-clause-none g c = grind (arith, common_steps)
