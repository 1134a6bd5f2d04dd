-- What a reader of a store's text has read, step by step.
use Rattle.std.proofs.Common.{◌≡◌, ◌++◌, ◌∙◌, ℕ, List, [], Option, Some, None, Err, true, length, sym, ap, subst}
use Rattle.std.proofs.Common.{append_assoc, append-nil}
use Rattle.std.specs.Prelude.{is_some}
use Rattle.record_store.specs.StoreText.{StoreSays, Reaches, store_text}
use Rattle.record_store.specs.StoreReaders.{HasRead, HasReadTo, HasReadForm}
use Rattle.record_store.specs.declared.header.StoreForm.{StoreForm}
use Rattle.record_store.specs.declared.record.Record.{Record}
use Rattle.record_store.specs.declared.store_error.StoreError.{StoreError}
use Rattle.record_store.specs.declared.store_reader.StoreReader.{StoreReader}
use Rattle.record_store.proofs.MoreLaws.{reaches_more}

-- what a refused reader says
pub refused_says : (text : List ℕ) (reader : StoreReader) (error : StoreError) → reader.refused ≡ Some error
    → HasRead text reader → StoreSays text (Err error)
refused_says text reader error is has =
    subst (λ (l : List ℕ). StoreSays l (Err error)) (append-nil text)
    (subst (HasReadTo text reader) is has [])

-- what a reader that isn't refused has read, by its form
pub going_has : (text : List ℕ) (reader : StoreReader) (form : Option StoreForm) → reader.refused ≡ None
    → reader.form ≡ form → HasRead text reader → HasReadForm text reader form
going_has text reader form going is has = subst (HasReadForm text reader) is (subst (HasReadTo text reader) going has)

pub going_read : (text : List ℕ) (reader : StoreReader) (form : Option StoreForm) → reader.refused ≡ None
    → reader.form ≡ form → HasReadForm text reader form → HasRead text reader
going_read text reader form going is has =
    subst (HasReadTo text reader) (sym going) (subst (HasReadForm text reader) (sym is) has)

-- a piece is kept
kept_form : (text piece : List ℕ) (old new : StoreReader) (form : Option StoreForm)
    → new.kept.items ≡ old.kept.items ++ piece → new.store ≡ old.store → new.place ≡ old.place
    → HasReadForm text old form → HasReadForm (text ++ piece) new form
kept_form text piece old new None kept store place has =
    (kept ∙ ap (λ (l : List ℕ). l ++ piece) has.0, store ∙ has.1)
kept_form text piece old new (Some form) kept store place has =
    let more = reaches_more form text old.store old.kept.items piece has.0 in (
      subst (λ (rs : List Record). Reaches form (text ++ piece) rs new.kept.items) (sym store)
          (subst (Reaches form (text ++ piece) old.store) (sym kept) more),
      place ∙ has.1 ∙ ap (λ (rs : List Record). length (store_text form rs)) (sym store),
    )

pub kept_read : (text piece : List ℕ) (old new : StoreReader) → old.refused ≡ None → new.refused ≡ None
    → new.form ≡ old.form → new.kept.items ≡ old.kept.items ++ piece → new.store ≡ old.store
    → new.place ≡ old.place → HasRead text old → HasRead (text ++ piece) new
kept_read text piece old new going going' form kept store place has =
    going_read (text ++ piece) new old.form going' form
    (kept_form text piece old new old.form kept store place
    (subst (HasReadTo text old) going has))

-- after a refusal pieces are passed over
pub passed_over : (text piece : List ℕ) (reader : StoreReader) (refused : Option StoreError)
    → is_some refused ≡ true → HasReadTo text reader refused → HasReadTo (text ++ piece) reader refused
passed_over text piece reader None is has = cc
passed_over text piece reader (Some error) is has =
    λ more. subst (λ (l : List ℕ). StoreSays l (Err error)) (sym (append_assoc text piece more)) (has (piece ++ more))
