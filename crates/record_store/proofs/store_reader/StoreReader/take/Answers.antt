use Rattle.std.proofs.Common.{◌++◌, ℕ, List, Result, Ok, Err, OnOk, refl, sym, subst}
use Rattle.std.specs.Prelude.{IfErr}
use Rattle.std.proofs.lemmas.Result.{err_from_is_err_and}
use Rattle.record_store.specs.StoreText.{StoreSays}
use Rattle.record_store.specs.StoreReaders.{HasRead}
use Rattle.record_store.specs.declared.store_error.StoreError.{StoreError}
use Rattle.record_store.specs.declared.store_reader.StoreReader.{StoreReader}
use Rattle.record_store.proofs.ReaderLaws.{kept_read}
use Rattle.record_store.proofs.store_reader.StoreReader.take.Goals as goal

ok_then : {A B P Q : Type 0} (r : Result A B) → (P → Q) → OnOk r P → OnOk r Q
ok_then (Ok a) f p = f p
ok_then (Err b) f p = tt

err_then : {A B : Type 0} (P Q : B → Type 0) (r : Result A B) → ((b : B) → P b → Q b) → IfErr r P → IfErr r Q
err_then P Q (Ok a) f p = tt
err_then P Q (Err b) f p = f b p

pub returns-in_err-begin-clause-refused : goal.returns-in_err-begin-clause-refused
returns-in_err-begin-clause-refused c =
    let p = err_from_is_err_and c.from_residual-in_err-begin.result c.from_residual-in_err-begin.ensures.1 in
    let piece = c.args.piece.now in
    let old : StoreReader = c.args.self.now in
    let kept : StoreReader = record old { kept = c.add.new.bytes } in
    rw p.1 (λ text more has. subst (λ (error : StoreError). StoreSays ((text ++ piece) ++ more) (Err error)) (sym p.2)
    (c.in_err-begin.ensures.refused (text ++ piece) more
    (kept_read text piece old kept c.requires c.requires refl c.in_ok-add.ensures refl refl has)))

pub returns-clause-read : goal.returns-clause-read
returns-clause-read c =
    let piece = c.args.piece.now in
    let old : StoreReader = c.args.self.now in
    let kept : StoreReader = record old { kept = c.add.new.bytes } in
    ok_then c.go_on.result (λ go text has. go (text ++ piece) (c.in_ok-begin.ensures.read (text ++ piece)
    (kept_read text piece old kept c.requires c.requires refl c.in_ok-add.ensures refl refl has)))
    c.go_on.ensures.read

pub returns-clause-refused : goal.returns-clause-refused
returns-clause-refused c =
    let piece = c.args.piece.now in
    let old : StoreReader = c.args.self.now in
    let kept : StoreReader = record old { kept = c.add.new.bytes } in
    err_then
    (λ e. (text more : List ℕ) → HasRead text c.begin.new.self → StoreSays (text ++ more) (Err e))
    (λ e. (text more : List ℕ) → HasRead text old → StoreSays ((text ++ piece) ++ more) (Err e))
    c.go_on.result
    (λ e go text more has. go (text ++ piece) more (c.in_ok-begin.ensures.read (text ++ piece)
    (kept_read text piece old kept c.requires c.requires refl c.in_ok-add.ensures refl refl has)))
    c.go_on.ensures.refused
