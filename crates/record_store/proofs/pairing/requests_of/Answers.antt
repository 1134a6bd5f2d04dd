use Rattle.std.proofs.Common.{◌≡◌, ◌+◌, ◌∷◌, ◌++◌, [], Some, None, length, drop, sym, ap, subst, arith, length-drop}
use Rattle.http_frame.specs.Runs.{AreRequests, FirstRequest}
use Rattle.record_store.proofs.PairLemmas.{request_some, requests_push, drop_after, place_inside}
use Rattle.record_store.proofs.pairing.requests_of.Goals as goal

pub requests-smaller : goal.requests-smaller
requests-smaller c =
    let first = rw c.in-Some.is at c.in_ok-request.ensures in
    omega (
      arith,
      c.len-place.ensures,
      request_some c.in-Some.request first.0,
      c.requests-test.true,
      c.requests.invariant.inside,
    )

pub requests-preserved : goal.requests-preserved
requests-preserved c =
    let client = c.args.client.now in
    let place = c.requests.place in
    let n = place + c.len-place.result in
    let m = c.in-Some.request in
    let first : FirstRequest (drop place client) (Some m) = subst (λ ys. FirstRequest ys (Some m))
    c.from_place.ensures (rw c.in-Some.is at c.in_ok-request.ensures) in
    let n_is : n ≡ place + length m.bytes = ap (λ k. place + k) c.len-place.ensures in
    let after_is : drop n client ≡ first.1 = drop_after client m.bytes first.1 place n first.2 n_is in
    let rs = c.requests.requests.items in
    let pushed = requests_push client first.1 rs m (subst (AreRequests client rs) first.2 c.requests.invariant.whole)
    first.0 in
    record {
      inside = place_inside client m.bytes first.1 place n c.requests.invariant.inside first.2 n_is;
      whole = subst (λ qs. AreRequests client qs (drop n client)) (sym c.in_ok-push-in-Some.ensures.items)
          (subst (AreRequests client (rs ++ m ∷ [])) (sym after_is) pushed);
    }

pub returns-in-None-clause-err : goal.returns-in-None-clause-err
returns-in-None-clause-err c =
    let client = c.args.client.now in
    let place = c.requests.place in
    let none : FirstRequest (drop place client) None = subst (λ ys. FirstRequest ys None) c.from_place.ensures
    (rw c.in-None.is at c.in_ok-request.ensures) in (
      c.requests.requests.items,
      drop place client,
      c.requests.invariant.whole,
      none,
      omega (arith, length-drop place client, c.requests-test.true),
      omega (arith, ap length c.as_slice.ensures.value),
    )
