-- A text whose end cuts its last record says one thing: the records before it.
use Rattle.std.proofs.Common.{◌≡◌, ◌≢◌, ◌∙◌, ℕ, ◌+◌, ◌++◌, ◌==◌, Bool, true, false, cond, List, length, take, refl, sym, ap}
use Rattle.std.proofs.Common.{subst, Option, Some, None, Ok, Err, nat_lt}
use Rattle.std.specs.Prelude.{Result, codes, position, slice_index}
use Rattle.std.specs.Option.{ok_or}
use Rattle.std.specs.Str.{bytes_eq}
use Rattle.std.proofs.Math.Seq.{take-append_seam}
use Rattle.text_base.specs.Words.{first_word, other_words}
use Rattle.record_store.specs.Cuts.{cut_by_header, cut_by_line}
use Rattle.record_store.specs.Headers.{header_by_form, header_of, is_scheme, lengths_of, port_and_lengths_of}
use Rattle.record_store.specs.Headers.{with_scheme}
use Rattle.record_store.specs.StoreText.{StoreSays, store_text, whole, no_form, no_parts, no_exchange, no_memory}
use Rattle.record_store.specs.CutText.{CutSays, SaysAs, cut, uncut}
use Rattle.record_store.specs.declared.header.Header.{Header}
use Rattle.record_store.specs.declared.header.StoreForm.{StoreForm}
use Rattle.record_store.specs.declared.header.StoreForm.TheVariants.{One, Two}
use Rattle.record_store.specs.declared.record.Record.{Record}
use Rattle.record_store.specs.declared.cutting.Cut.{Cut}
use Rattle.record_store.specs.declared.store_error.StoreError.{StoreError}
use Rattle.record_store.specs.declared.store_error.StoreError.TheVariants as errors
use Rattle.record_store.proofs.StoreLaws.{one_outcome}

-- ---- where a cut record begins

scheme_by : (b c : Bool) (place p : ℕ) (h : Header)
    → cond b (Ok h) (cond c (Err (errors.BadScheme place)) (Err (errors.BadHeader place))) ≢ Err (errors.Truncated p)
scheme_by true c place p h e = cc e
scheme_by false true place p h e = cc e
scheme_by false false place p h e = cc e

by_scheme : (place p : ℕ) (scheme : List ℕ) (o : Option Header) → with_scheme place scheme o ≢ Err (errors.Truncated p)
by_scheme place p scheme None e = cc e
by_scheme place p scheme (Some h) e = scheme_by (bytes_eq scheme (codes "http")) (is_scheme scheme) place p h e

by_lengths : (place p : ℕ) (o : Option Header) → ok_or o (errors.BadHeader place) ≢ Err (errors.Truncated p)
by_lengths place p None e = cc e
by_lengths place p (Some h) e = cc e

by_form : (form : StoreForm) (place p : ℕ) (rest : List ℕ) → header_by_form form place rest ≢ Err (errors.Truncated p)
by_form One place p rest e = by_lengths place p (lengths_of 0 rest) e
by_form Two place p rest e = by_scheme place p (first_word rest) (port_and_lengths_of (other_words rest)) e

header_by : (b : Bool) (form : StoreForm) (place p : ℕ) (rest : List ℕ)
    → cond b (header_by_form form place rest) (Err (errors.BadHeader place)) ≢ Err (errors.Truncated p)
header_by true form place p rest e = by_form form place p rest e
header_by false form place p rest e = cc e

-- a header is never refused as cut off
header_whole : (form : StoreForm) (place p : ℕ) (line : List ℕ) → header_of form place line ≢ Err (errors.Truncated p)
header_whole form place p line e =
    header_by (bytes_eq (first_word line) (codes "record")) form place p (other_words line) e

end_at : (b c : Bool) (place p q : ℕ) (parts : Cut)
    → cond b (cond c (Ok parts) (Err (errors.BadHeader q))) (Err (errors.Truncated place)) ≡ Err (errors.Truncated p)
    → p ≡ place
end_at true true place p q parts e = absurd (cc e)
end_at true false place p q parts e = absurd (cc e)
end_at false c place p q parts e = cc

header_at : (place p start : ℕ) (bytes : List ℕ) (h : Result Header StoreError) → h ≢ Err (errors.Truncated p)
    → cut_by_header place bytes start h ≡ Err (errors.Truncated p) → p ≡ place
header_at place p start bytes (Ok h) none e =
    let stop = start + h.request + h.response in
    end_at (nat_lt stop (length bytes)) (slice_index bytes stop == 10) place p (place + stop)
    (record { port = h.port; request = start; response = start + h.request; end = stop }) e
header_at place p start bytes (Err error) none e = absurd (none (cc e))

line_at : (form : StoreForm) (place p : ℕ) (bytes : List ℕ) (o : Option ℕ)
    → cut_by_line form place bytes o ≡ Err (errors.Truncated p) → p ≡ place
line_at form place p bytes None e = cc
line_at form place p bytes (Some end) e =
    header_at place p (end + 1) bytes (header_of form place (take end bytes)) (header_whole form place p (take end bytes)) e

-- ---- the text before it

before_parts : (form : StoreForm) (text rest : List ℕ) (rs : List Record) (p : ℕ) → text ≡ store_text form rs ++ rest
    → p ≡ length (store_text form rs) → take p text ≡ store_text form rs
before_parts form text rest rs p split at =
    ap (λ (n : ℕ). take n text) at ∙ ap (take (length (store_text form rs))) split
    ∙ take-append_seam (store_text form rs) rest

before : (text : List ℕ) (p : ℕ) (result : Result (List Record) StoreError) → StoreSays text result
    → result ≡ Err (errors.Truncated p) → (rs : List Record) × StoreSays (take p text) (Ok rs)
before text p result (whole form rs is records r) e = let no = sym r ∙ e in absurd (cc no)
before text p result (no_form none r) e = let no = sym r ∙ e in absurd (cc no)
before text p result (no_parts form rs rest error reaches some parts r) e =
    let same : Err error ≡ Err (errors.Truncated p) = sym r ∙ e in
    let errors_same : error ≡ errors.Truncated p = cc in
    let at : p ≡ length (store_text form rs) =
    line_at form (length (store_text form rs)) p rest (position (λ byte. byte == 10) rest) (parts ∙ ap Err errors_same) in
    (rs, whole form rs (before_parts form text rest rs p reaches.split at) reaches.records refl)
before text p result (no_exchange form rs rest parts reaches is none r) e = let no = sym r ∙ e in absurd (cc no)
before text p result (no_memory r) e = let no = sym r ∙ e in absurd (cc no)

refused : (text : List ℕ) (p : ℕ) (error : StoreError) → StoreSays text (Err (errors.Truncated p))
    → StoreSays (take p text) (Err error) → error ≢ errors.OutOfMemory → ⊥
refused text p error says short other =
    let found = before text p (Err (errors.Truncated p)) says refl in
    let same : Err error ≡ Ok found.0 =
    one_outcome (take p text) (Err error) (Ok found.0) short found.1 (λ e. cc e) (λ e. other (cc e)) in
    cc same

-- what the text before a cut record says
pub before_cut : (text : List ℕ) (p : ℕ) (result : Result (List Record) StoreError)
    → StoreSays text (Err (errors.Truncated p)) → StoreSays (take p text) result → CutSays text result
before_cut text p (Ok rs) says short = cut p rs says short refl
before_cut text p (Err errors.OutOfMemory) says short = uncut (no_memory refl) (λ place e. cc e)
before_cut text p (Err errors.BadMagic) says short = absurd (refused text p errors.BadMagic says short (λ e. cc e))
before_cut text p (Err (errors.BadHeader q)) says short =
    absurd (refused text p (errors.BadHeader q) says short (λ e. cc e))
before_cut text p (Err (errors.Truncated q)) says short =
    absurd (refused text p (errors.Truncated q) says short (λ e. cc e))
before_cut text p (Err (errors.BadMessage q)) says short =
    absurd (refused text p (errors.BadMessage q) says short (λ e. cc e))
before_cut text p (Err (errors.BadScheme q)) says short =
    absurd (refused text p (errors.BadScheme q) says short (λ e. cc e))

-- ---- one outcome

cut_outcome : (text : List ℕ) (a b : Result (List Record) StoreError) → CutSays text a → CutSays text b
    → b ≢ Err errors.OutOfMemory → a ≢ Err errors.OutOfMemory → a ≡ b
cut_outcome text a b (uncut x n) (uncut y m) q p = one_outcome text a b x y q p
cut_outcome text a b (uncut x n) (cut place rs y t r) q p =
    absurd (n place (one_outcome text a (Err (errors.Truncated place)) x y (λ e. cc e) p))
cut_outcome text a b (cut place rs y t r) (uncut x n) q p =
    absurd (n place (one_outcome text b (Err (errors.Truncated place)) x y (λ e. cc e) q))
cut_outcome text a b (cut place rs x t r) (cut place' rs' x' t' r') q p =
    let same : Err (errors.Truncated place') ≡ Err (errors.Truncated place) =
    one_outcome text (Err (errors.Truncated place')) (Err (errors.Truncated place)) x' x (λ e. cc e) (λ e. cc e) in
    let places : place' ≡ place = cc in
    let records : Ok rs ≡ Ok rs' = one_outcome (take place text) (Ok rs) (Ok rs') t
    (subst (λ (n : ℕ). StoreSays (take n text) (Ok rs')) places t') (λ e. cc e) (λ e. cc e) in
    r ∙ records ∙ sym r'

-- a text says one thing, but for memory, whether its last record may be cut or not
pub outcome_as : (may : Bool) (text : List ℕ) (a b : Result (List Record) StoreError) → SaysAs may text a
    → SaysAs may text b → b ≢ Err errors.OutOfMemory → a ≢ Err errors.OutOfMemory → a ≡ b
outcome_as false text a b x y q p = one_outcome text a b x y q p
outcome_as true text a b x y q p = cut_outcome text a b x y q p
