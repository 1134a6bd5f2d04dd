use Rattle.std.proofs.Common.{◌∙◌, ℕ, List, Err, Some, None, sym, subst}
use Rattle.record_store.specs.StoreText.{Reaches, StoreSays}
use Rattle.record_store.proofs.StoreLaws.{one_outcome}
use Rattle.record_store.proofs.ReaderLaws.{going_has, refused_says}
use Rattle.record_store.proofs.store_reader.StoreReader.finish.Goals as goal

pub returns-in-Some-clause-says : goal.returns-in-Some-clause-says
returns-in-Some-clause-says c = λ text has. refused_says text c.args.self c.in-Some.error c.in-Some.is has

pub returns-in-Some-clause-exact : goal.returns-in-Some-clause-exact
returns-in-Some-clause-exact c = λ text other has says other_some some.
    one_outcome text (Err c.in-Some.error) other (refused_says text c.args.self c.in-Some.error c.in-Some.is has) says
    other_some some

pub returns-in-Some-form-clause-says : goal.returns-in-Some-form-clause-says
returns-in-Some-form-clause-says c = λ text has.
    let reader = c.args.self in
    let form = c.in-Some-form.form in
    let read = going_has text reader (Some form) c.in_default.is c.in-Some-form.is has in
    c.read_rest.ensures text (subst (Reaches form text reader.store) (sym c.as_slice.ensures.value) read.0) read.1

pub returns-in-Some-form-clause-exact : goal.returns-in-Some-form-clause-exact
returns-in-Some-form-clause-exact c = λ text other has says other_some some.
    let reader = c.args.self in
    let form = c.in-Some-form.form in
    let read = going_has text reader (Some form) c.in_default.is c.in-Some-form.is has in
    one_outcome text c.read_rest.result other
    (c.read_rest.ensures text (subst (Reaches form text reader.store) (sym c.as_slice.ensures.value) read.0) read.1)
    says other_some some

pub returns-in-None-clause-says : goal.returns-in-None-clause-says
returns-in-None-clause-says c = λ text has.
    let read = going_has text c.args.self None c.in_default.is c.in-None.is has in
    subst (λ (l : List ℕ). StoreSays l c.read_text.result) (c.as_slice-in-None.ensures.value ∙ read.0)
    c.read_text.ensures

pub returns-in-None-clause-exact : goal.returns-in-None-clause-exact
returns-in-None-clause-exact c = λ text other has says other_some some.
    let read = going_has text c.args.self None c.in_default.is c.in-None.is has in
    one_outcome text c.read_text.result other
    (subst (λ (l : List ℕ). StoreSays l c.read_text.result) (c.as_slice-in-None.ensures.value ∙ read.0)
    c.read_text.ensures) says other_some some
