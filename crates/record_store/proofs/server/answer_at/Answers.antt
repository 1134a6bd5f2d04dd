use Rattle.std.proofs.Common.{◌≡◌, ◌+◌, ◌∷◌, ◌++◌, [], Some, None, length, drop, refl, ap, subst, arith, length-drop}
use Rattle.http_frame.specs.Runs.{FirstResponse, BeginsResponse, BeginsWithNoResponse}
use Rattle.record_store.proofs.PairLemmas.{response_some, interim_push, drop_after, place_inside, is_then}
use Rattle.record_store.proofs.server.answer_at.Goals as goal

pub returns-then-response-ge200 : goal.returns-then-response-ge200
returns-then-response-ge200 c =
    let bytes = c.args.bytes.now in
    let place = c.interim.place in
    let m = c.in-Some.response in
    let n = place + c.len.result in
    let n_is : n ≡ place + length m.bytes = ap (λ k. place + k) c.len.ensures in
    let b : BeginsResponse c.args.to_head (drop place bytes) m =
    subst (λ ys. FirstResponse c.args.to_head ys (Some m)) c.from_place.ensures
    (rw c.in-Some.is at c.in_ok-response.ensures) in
    let after_is : drop n bytes ≡ b.after = drop_after bytes m.bytes b.after place n b.split n_is in (
      place_inside bytes m.bytes b.after place n c.interim.invariant.inside b.split n_is,
      record {
        before = drop place bytes;
        passed = c.interim.invariant.passed;
        is = is_then c.args.to_head (drop place bytes) m (drop n bytes) b after_is;
        final = c.if-response-ge200.true;
      },
    )

pub interim-smaller : goal.interim-smaller
interim-smaller c =
    let b = rw c.in-Some.is at c.in_ok-response.ensures in
    omega (
      arith,
      c.len.ensures,
      response_some c.args.to_head c.in-Some.response b.is,
      c.interim-test.true,
      c.interim.invariant.inside,
    )

pub interim-preserved : goal.interim-preserved
interim-preserved c =
    let bytes = c.args.bytes.now in
    let place = c.interim.place in
    let m = c.in-Some.response in
    let n = place + c.len.result in
    let n_is : n ≡ place + length m.bytes = ap (λ k. place + k) c.len.ensures in
    let b : BeginsResponse c.args.to_head (drop place bytes) m =
    subst (λ ys. FirstResponse c.args.to_head ys (Some m)) c.from_place.ensures
    (rw c.in-Some.is at c.in_ok-response.ensures) in
    let after_is : drop n bytes ≡ b.after = drop_after bytes m.bytes b.after place n b.split n_is in
    let before = c.interim.invariant.passed in
    record {
      inside = place_inside bytes m.bytes b.after place n c.interim.invariant.inside b.split n_is;
      passed = (
        before.0 ++ m ∷ [],
        interim_push c.args.to_head bytes (drop place bytes) (drop n bytes) before.0 m before.1
            (is_then c.args.to_head (drop place bytes) m (drop n bytes) b after_is)
            (omega (arith, c.if-response-ge200.false)),
      );
    }

pub returns-in-None : goal.returns-in-None
returns-in-None c =
    let bytes = c.args.bytes.now in
    let place = c.interim.place in
    let none : BeginsWithNoResponse c.args.to_head (drop place bytes) =
    subst (λ ys. FirstResponse c.args.to_head ys None) c.from_place.ensures
    (rw c.in-None.is at c.in_ok-response.ensures) in (
      refl,
      drop place bytes,
      c.interim.invariant.passed,
      none,
      omega (arith, length-drop place bytes, c.interim-test.true),
    )
