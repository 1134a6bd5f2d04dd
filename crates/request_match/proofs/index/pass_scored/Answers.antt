use Rattle.std.proofs.Common.{◌≡◌, true, min, arith, rules}
use Rattle.request_match.specs.inside.Index.{entry_at}
use Rattle.request_match.proofs.IndexLemmas.{stands_more}
use Rattle.request_match.proofs.index.pass_scored.Goals as goal

pub equals-preserved : goal.equals-preserved
equals-preserved c =
    let es = c.args.entries.now in
    let i = c.equals.i in
    let past : c.is_past.result ≡ true = search rules in
    let front = c.is_past.ensures past in
    let first : c.min-first.result ≡ min c.equals.first (entry_at es i).1 = omega (arith, c.min-first.ensures) in
    record {
      onward = omega (arith, c.equals.invariant.onward);
      inside = omega (arith, c.equals-test.true);
      stands = λ q asked rs found index x.
          stands_more q asked rs es c.args.fronts.now found index i c.equals.first c.min-first.result front.0
          c.args.score c.equals-test.true front.1 front.2 first (c.equals.invariant.stands q asked rs found index x);
    }
