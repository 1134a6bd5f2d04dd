use Rattle.std.proofs.Common.{◌≡◌, ◌≤◌, ◌∙◌, ℕ, ◌+◌, ◌++◌, List, Ok, Err, Some, None, length, drop, refl, sym, ap, subst}
use Rattle.std.proofs.Common.{arith, length-drop}
use Rattle.std.specs.Prelude.{Result}
use Rattle.std.proofs.lemmas.Result.{err_from_is_err_and}
use Rattle.record_store.specs.Cuts.{cut_of, request_part, response_part}
use Rattle.record_store.specs.StoreText.{store_text, StoreSays}
use Rattle.record_store.specs.inside.Cuts.{IsInside}
use Rattle.record_store.specs.inside.Exchanges.{OneExchange}
use Rattle.record_store.specs.declared.cutting.Cut.{Cut}
use Rattle.record_store.specs.declared.header.StoreForm.{StoreForm}
use Rattle.record_store.specs.declared.record.Record.{Record}
use Rattle.record_store.specs.declared.store_error.StoreError.{StoreError}
use Rattle.record_store.specs.declared.store_error.StoreError.TheVariants as errors
use Rattle.record_store.proofs.StoreLaws.{record_read}
use Rattle.record_store.proofs.MoreLaws.{place_on, refused_more, unmatched_more}
use Rattle.record_store.proofs.record_reading.read_on.Goals as goal

-- what was cut at a place was cut where the rest stands
cut_there : (form : StoreForm) (place k : ℕ) (bytes rest : List ℕ) (r : Result Cut StoreError)
    → cut_of form place bytes ≡ r → bytes ≡ rest → place ≡ k → cut_of form k rest ≡ r
cut_there form place k bytes rest r cut same at = ap (λ (n : ℕ). cut_of form n rest) (sym at)
    ∙ ap (cut_of form place) (sym same) ∙ cut

pub returns-in_err-cut-clause-refused : goal.returns-in_err-cut-clause-refused
returns-in_err-cut-clause-refused c =
    let p = err_from_is_err_and c.from_residual.result c.from_residual.ensures.1 in
    let form = c.args.form in
    let store = c.records.store in
    let rest = drop c.records.at c.args.bytes.now in
    let e = c.in_err-cut.field-0.0 in
    rw p.1 (λ text more reaches at ending.
    let here = c.records.invariant.reached text reaches at in
    subst (λ (error : StoreError). StoreSays (text ++ more) (Err error)) (sym p.2)
    (refused_more form text rest more store e here.0
    (omega (arith, length-drop c.records.at c.args.bytes.now, c.records-test.true))
    (cut_there form (c.args.place + c.records.at) (length (store_text form store))
    (c.from_place-rest.result.now ++ more) (rest ++ more) (Err e) (c.in_err-cut.ensures.refused more ending)
    (ap (λ (l : List ℕ). l ++ more) c.from_place-rest.ensures) here.1)))

pub returns-in_default-clause-reached : goal.returns-in_default-clause-reached
returns-in_default-clause-reached c = λ text reaches at. (c.records.invariant.reached text reaches at).0

pub returns-in-None-clause-refused : goal.returns-in-None-clause-refused
returns-in-None-clause-refused c =
    let form = c.args.form in
    let store = c.records.store in
    let rest = drop c.records.at c.args.bytes.now in
    let cut = c.in-Some.cut in
    let is : cut_of form (c.args.place + c.records.at) c.from_place-rest.result.now ≡ Ok cut =
    rw c.in-Some.is at c.in_ok-cut.ensures.cut in
    let inside : IsInside c.from_place-rest.result.now cut = rw c.in-Some.is at c.in_ok-cut.ensures.inside in
    λ text more reaches at ending.
    let here = c.records.invariant.reached text reaches at in
    unmatched_more form text rest more store cut (errors.BadMessage (length c.records-in-None.result.now + 1)) here.0
    (subst (λ (bytes : List ℕ). IsInside bytes cut) c.from_place-rest.ensures inside)
    (cut_there form (c.args.place + c.records.at) (length (store_text form store)) c.from_place-rest.result.now rest
    (Ok cut) is c.from_place-rest.ensures here.1)
    (subst (λ (bytes : List ℕ). OneExchange cut.port (request_part cut bytes) (response_part cut bytes) None)
    c.from_place-rest.ensures (rw c.in-None.is at c.in_ok-record.ensures))
    (ap (λ (rs : List Record). errors.BadMessage (length rs + 1)) c.records-in-None.ensures.same)

pub records-preserved : goal.records-preserved
records-preserved c =
    let form = c.args.form in
    let store = c.records.store in
    let bytes = c.args.bytes.now in
    let rest = drop c.records.at bytes in
    let cut = c.in-Some.cut in
    let next = c.records.at + (cut.end + 1) in
    let is : cut_of form (c.args.place + c.records.at) c.from_place-rest.result.now ≡ Ok cut =
    rw c.in-Some.is at c.in_ok-cut.ensures.cut in
    let inside : IsInside c.from_place-rest.result.now cut = rw c.in-Some.is at c.in_ok-cut.ensures.inside in
    let long = ap length c.from_place-rest.ensures in
    let within : next ≤ length bytes = omega (arith, length-drop c.records.at bytes, long, inside.2, c.records-test.true)
    in
    let found = subst (λ (l : List ℕ). OneExchange cut.port (request_part cut l) (response_part cut l)
    (Some c.in-Some-2.record)) c.from_place-rest.ensures (rw c.in-Some-2.is at c.in_ok-record.ensures) in
    record {
      inside = within;
      reached = λ text reaches at.
          let here = c.records.invariant.reached text reaches at in
          let after = record_read form text bytes store c.add.new.self c.records.at next cut c.in-Some-2.record here.0
          (cut_there form (c.args.place + c.records.at) (length (store_text form store)) c.from_place-rest.result.now
          rest (Ok cut) is c.from_place-rest.ensures here.1) found c.in_ok-add-in-Some-2.ensures.ok refl in
          (after, place_on form text bytes c.args.store.now c.add.new.self next c.args.place within reaches after at);
    }

pub returns-clause-reached : goal.returns-clause-reached
returns-clause-reached c = λ text reaches at. (c.records.invariant.reached text reaches at).0
