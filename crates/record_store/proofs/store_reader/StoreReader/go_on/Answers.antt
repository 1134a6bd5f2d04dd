use Rattle.std.proofs.Common.{◌≡◌, ◌+◌, ◌∙◌, ◌++◌, Err, Some, drop, sym, ap, subst}
use Rattle.std.proofs.lemmas.Result.{err_from_is_err_and}
use Rattle.record_store.specs.StoreText.{Reaches, StoreSays}
use Rattle.record_store.specs.declared.store_error.StoreError.{StoreError}
use Rattle.record_store.specs.declared.store_reader.StoreReader.{StoreReader}
use Rattle.record_store.proofs.MoreLaws.{place_on}
use Rattle.record_store.proofs.ReaderLaws.{going_has, going_read}
use Rattle.record_store.proofs.store_reader.StoreReader.go_on.Goals as goal

pub returns-in_err-count-clause-refused : goal.returns-in_err-count-clause-refused
returns-in_err-count-clause-refused c =
    let p = err_from_is_err_and c.from_residual.result c.from_residual.ensures.1 in
    let reader = c.args.self.now in
    let form = c.in-Some.form in
    rw p.1 (λ text more has.
    let read = going_has text reader (Some form) c.requires c.in-Some.is has in
    subst (λ (error : StoreError). StoreSays (text ++ more) (Err error)) (sym p.2)
    (c.in_err-count.ensures.refused text more
    (subst (Reaches form text reader.store) (sym c.as_slice.ensures.value) read.0) read.1 (λ no. absurd (cc no))))

pub returns-clause-read : goal.returns-clause-read
returns-clause-read c = λ text has.
    let reader = c.args.self.now in
    let form = c.in-Some.form in
    let count = c.in_ok-count.count in
    let store = c.read_on.new.store in
    let bytes = c.as_slice.result.now in
    let read = going_has text reader (Some form) c.requires c.in-Some.is has in
    let before = subst (Reaches form text reader.store) (sym c.as_slice.ensures.value) read.0 in
    let after = c.in_ok-count.ensures.reached text before read.1 in
    let kept : drop count bytes ≡ c.in_ok-left.left.items = ap (drop count) (c.as_slice.ensures.value
    ∙ sym c.as_slice-2.ensures.value) ∙ sym c.in_ok-left.ensures in
    let next : StoreReader = record reader {
      store = store;
      place = reader.place + count;
      kept = c.in_ok-left.left;
      wanted = c.saturating_mul-self.result;
    } in
    going_read text next (Some form) c.requires c.in-Some.is (
      subst (Reaches form text store) kept after,
      place_on form text bytes reader.store store count reader.place c.in_ok-count.ensures.within before after read.1,
    )
