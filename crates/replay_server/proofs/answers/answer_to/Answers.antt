use Rattle.std.proofs.Common.{◌∙◌, Bool, List, ℕ, get_or, ap}
use Rattle.record_store.specs.declared.record.Record.{Record}
use Rattle.replay_server.specs.Answers.{Answer}
use Rattle.replay_server.proofs.AnswerLemmas.{recorded_answer}
use Rattle.replay_server.proofs.answers.answer_to.Goals as goal

pub returns-in-Some : goal.returns-in-Some
returns-in-Some c =
    let other = c.index-records-place.result in
    let r = get_or c.records.result.now c.in-Some.place other in
    let answer : List ℕ → Bool → Answer = λ bytes closes. record { bytes = bytes; closes = closes } in
    recorded_answer c.args.head.now c.args.source.now.index.port c.args.source.now.store.now c.in-Some.place
    c.in-Some.ensures r other _
    (ap (λ (rs : List Record). get_or rs c.in-Some.place other) c.records.ensures.same)
    (ap (λ bytes. answer bytes c.either.result) c.as_slice.ensures ∙ ap (answer r.response.bytes) c.either.ensures)
