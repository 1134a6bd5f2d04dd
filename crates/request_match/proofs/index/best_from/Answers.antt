use Rattle.std.proofs.Common.{◌<◌, ◌≤◌, ◌-◌, refl, length, get_or, None, sym, subst, arith}
use Rattle.std.proofs.lemmas.Option.{slice_get_read}
use Rattle.request_match.specs.Match.{BestCause}
use Rattle.request_match.specs.inside.Index.{entry_at, Scanned}
use Rattle.request_match.proofs.IndexLemmas.{none_below, next_scanned, next_near, next_has_score, scanned_all}
use Rattle.request_match.proofs.index.best_from.Goals as goal

pub entries-init : goal.entries-init
entries-init c =
    let asked = c.args.asked.now in
    let es = c.args.entries.now in
    let none = none_below asked.request.now asked.port c.args.records.now es c.args.fronts.now c.requires.index
    c.args.start c.requires.bound
    (λ k d small. subst (λ n. (get_or es k d).0 < n) c.requires.key (c.requires.below k d small)) in
    record {
      started = omega arith;
      inside = c.requires.bound;
      scanned = none;
      near = λ r pos there. none (c.args.start - 1) r (omega (arith, pos)) there;
    }

pub returns : goal.returns
returns c =
    let asked = c.args.asked.now in
    subst (BestCause asked.request.now asked.port c.args.records.now) (sym c.place_of-2.ensures)
    (scanned_all asked.request.now asked.port c.args.records.now c.args.entries.now c.args.fronts.now c.requires.index
    c.entries.i c.entries.found c.entries.invariant.scanned
    (λ j up small e. omega (arith, up, small, c.entries-test.false)))

pub entries-preserved : goal.entries-preserved
entries-preserved c =
    let q = c.args.asked.now.request.now in
    let port = c.args.asked.now.port in
    let rs = c.args.records.now in
    let es = c.args.entries.now in
    let i = c.entries.i in
    let r = c.index-records-place.result in
    let inside = (c.requires.index.entries i (0, 0) c.entries-test.true).place in
    let there = slice_get_read rs (length rs) (entry_at es i).1 r refl inside c.index-records-place.is in
    let score = next_has_score q port rs es c.requires.index.entries i c.entries-test.true r there
    (get_or c.args.fronts.now i None) c.entries.score c.next_score-score.result
    (c.requires.index.fronts.each i None c.entries-test.true) c.entries.invariant.near c.next_score-score.ensures.anew
    c.next_score-score.ensures.onward in
    let stands = c.pass_equals-next.ensures.stands q port rs c.entries.found c.requires.index (
      next_near q port rs es i r there c.next_score-score.result score,
      next_scanned q port rs es i r there c.entries.found c.next_score-score.result c.entries.invariant.scanned score,
    ) in
    record {
      started = omega (arith, c.entries.invariant.started, c.pass_equals-next.ensures.onward);
      inside = c.pass_equals-next.ensures.inside;
      scanned = subst (Scanned q port rs es c.pass_equals-next.result.0) (sym c.better_place-found.ensures) stands.1;
      near = stands.0;
    }

pub returns-then-found_key-key : goal.returns-then-found_key-key
returns-then-found_key-key c =
    let asked = c.args.asked.now in
    let es = c.args.entries.now in
    let i = c.entries.i in
    let least : c.args.key ≤ (entry_at es i).0 = c.requires.from i (0, 0)
    c.entries.invariant.started c.entries-test.true in
    subst (BestCause asked.request.now asked.port c.args.records.now) (sym c.place_of.ensures)
    (scanned_all asked.request.now asked.port c.args.records.now es c.args.fronts.now c.requires.index i
    c.entries.found c.entries.invariant.scanned
    (λ j up small e. let o = c.requires.index.ordered i j (0, 0) up small
    in c.if-found_key-key.true (omega (arith, least, o, e, c.requires.key))))
