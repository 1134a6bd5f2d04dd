use Rattle.std.proofs.Common.{inl, inr, refl, sym, subst, arith}
use Rattle.request_match.specs.Match.{score, BestCause}
use Rattle.request_match.proofs.DecideLemmas.{of_request}
use Rattle.request_match.proofs.MatchLemmas.{step_agrees, step_other, best_found}
use Rattle.request_match.proofs.matching.best.Goals as goal

pub loop-i-preserved : goal.loop-i-preserved
loop-i-preserved c =
    let q = c.args.request.now in
    let records = c.records-records.result.now in
    let r = c.index-records-i.result in
    elim (of_request q c.new-asked.result.request.now c.args.port c.new-asked.result.port r c.loop-i.i c.loop-i.found
    c.with_record-found.result c.new-asked.ensures.request c.new-asked.ensures.port c.with_record-found.ensures) [
      | inl x ↦
          step_agrees q c.args.port records c.loop-i.i (score q r) r c.loop-i.found c.with_record-found.result
          c.loop-i-test.true c.index-records-i.is
          c.loop-i.invariant x.0 refl x.1
      | inr x ↦
          step_other q c.args.port records c.loop-i.i r c.loop-i.found c.with_record-found.result c.loop-i-test.true
          c.index-records-i.is
          c.loop-i.invariant x.0 x.1
    ]

pub returns : goal.returns
returns c =
    let q = c.args.request.now in
    subst (BestCause q c.args.port c.args.store.now) (sym c.place_of.ensures)
    (best_found q c.args.port c.records-records.result.now c.args.store.now c.loop-i.i c.loop-i.found
    c.loop-i.invariant (omega arith) c.records-records.ensures.same)
