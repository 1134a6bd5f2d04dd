use Rattle.std.proofs.Common.{◌≡◌, ◌∙◌, ℕ, ◌+◌, ◌∷◌, ◌++◌, List, [], Ok, Err, length, drop, refl, sym, ap, subst}
use Rattle.std.proofs.Common.{arith, length-drop, append_assoc}
use Rattle.std.proofs.lemmas.Grind.{common_steps}
use Rattle.std.proofs.lemmas.List.{drop-drop}
use Rattle.std.proofs.lemmas.Result.{err_from_is_err_and}
use Rattle.std.specs.Vec.Iter.{into_iter_items}
use Rattle.http_frame.specs.Runs.{AreRequests}
use Rattle.http_frame.specs.declared.messages.Request.{Request}
use Rattle.record_store.specs.Pairs.{AreAnswers, IsAnswer, Pairs}
use Rattle.record_store.specs.inside.Pairs.{AnswerSays}
use Rattle.record_store.specs.declared.record.Record.{Record}
use Rattle.record_store.proofs.PairLemmas.{request_at, answers_push, answers_count, pairs_lack}
use Rattle.record_store.proofs.pairing.pair_streams.Goals as goal

-- the requests of the client, at the one that is being answered
reached : (client : List ℕ) (all done left later : List Request) (m : Request) → AreRequests client all [] → done
    ++ left ≡ all → left ≡ m ∷ later
    → AreRequests client (done ++ m ∷ later) []
reached client all done left later m is order steps = subst (λ ys. AreRequests client ys []) (sym order
    ∙ ap (λ ys. done ++ ys) steps) is

pub answers-preserved : goal.answers-preserved
answers-preserved c =
    let at = c.answers in
    let m = c.in-Some.request in
    let server = c.args.server.now in
    let place = at.place in
    let answer = c.in_ok-answer.answer in
    let later = into_iter_items c.next.new.self in
    let steps : into_iter_items at.request-iterator ≡ m ∷ later = c.in-Some.ensures.steps.0 in
    let says = subst (λ ys. AnswerSays (length c.records.result.now + 1) m.head.head_only ys (Ok answer))
    c.from_place.ensures c.in_ok-answer.ensures in
    let n = place + answer.end in
    let after_is : drop answer.end (drop place server) ≡ drop n server = drop-drop answer.end place server in
    let r : Record = record { port = c.args.port; request = m; response = answer.response } in
    let pushed = answers_push c.args.port server (drop place server) (drop n server) at.yielded at.store m r
    at.invariant.answers refl refl
    (subst (IsAnswer m.head.head_only (drop place server) answer.response) after_is says.1) in
    record {
      order = append_assoc at.yielded (m ∷ []) later ∙ ap (λ ys. at.yielded ++ ys) (sym steps) ∙ at.invariant.order;
      count = let was = at.invariant.count in let gone = c.in-Some.ensures.steps.1 in let short = ap length steps
          in omega arith;
      inside = omega (arith, says.0, length-drop place server, at.invariant.inside);
      answers = subst (λ rs. AreAnswers c.args.port server (at.yielded ++ m ∷ []) rs (drop n server))
          (sym c.in_ok-add.ensures.ok) pushed;
    }

pub add-requires : goal.add-requires
add-requires c =
    let at = c.answers in
    let m = c.in-Some.request in
    let server = c.args.server.now in
    let later = into_iter_items c.next.new.self in
    let steps : into_iter_items at.request-iterator ≡ m ∷ later = c.in-Some.ensures.steps.0 in
    let reqs = reached c.args.client.now c.in_ok-requests.requests.items at.yielded
    (into_iter_items at.request-iterator) later m c.in_ok-requests.ensures.ok
    (at.invariant.order ∙ c.into_iter-request-iterator.ensures.into_iter_gives.0) steps in
    record {
      port = omega (arith, c.ranges.port.fits);
      request = request_at c.args.client.now at.yielded later m [] reqs;
      response = c.in_ok-answer.ensures.1.is.is;
      final = c.in_ok-answer.ensures.1.final;
    }

pub returns-in_err-answer : goal.returns-in_err-answer
returns-in_err-answer c =
    let at = c.answers in
    let m = c.in-Some.request in
    let server = c.args.server.now in
    let place = at.place in
    let later = into_iter_items c.next.new.self in
    let steps : into_iter_items at.request-iterator ≡ m ∷ later = c.in-Some.ensures.steps.0 in
    let e = c.in_err-answer.field-0.0 in
    let says = subst (λ ys. AnswerSays (length c.records.result.now + 1) m.head.head_only ys (Err e))
    c.from_place.ensures c.in_err-answer.ensures in
    let reqs = reached c.args.client.now c.in_ok-requests.requests.items at.yielded
    (into_iter_items at.request-iterator) later m c.in_ok-requests.ensures.ok
    (at.invariant.order ∙ c.into_iter-request-iterator.ensures.into_iter_gives.0) steps in
    let lacks = pairs_lack c.args.client.now server c.args.port (length c.records.result.now + 1) m (drop place server)
    e (record {
      done = at.yielded;
      later = later;
      whole = reqs;
      records = at.store;
      answers = at.invariant.answers;
      place = omega (
        arith,
        answers_count c.args.port server (drop place server) at.yielded at.store
            at.invariant.answers,
        ap length c.records.ensures.same,
      );
    }) says in
    let p = err_from_is_err_and c.from_residual-in_err-answer.result c.from_residual-in_err-answer.ensures.1 in
    subst (Pairs c.args.client.now server c.args.port) (sym (p.1 ∙ ap Err p.2)) lacks

pub returns : goal.returns
returns c = grind (arith, common_steps)
