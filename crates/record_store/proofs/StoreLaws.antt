-- A text says one thing: the records that it begins with, and what stands after them.
use Rattle.std.proofs.Common.{◌≡◌, ◌≢◌, ℕ, ◌+◌, ◌<◌, ◌≤◌, ◌++◌, Bool, true, false, cond, List, [], ◌∷◌, length, take}
use Rattle.std.proofs.Common.{drop, Option, Some, None, Ok, Err, inl, inr, ◌⊎◌, refl, ap, sym, subst, ◌∙◌, arith}
use Rattle.std.proofs.Common.{append_assoc, append-nil, length-append, length-drop}
use Rattle.std.specs.Prelude.{Result, All, MatchResult}
use Rattle.std.specs.Str.{bytes_eq}
use Rattle.std.proofs.lemmas.List.{drop-drop, drop_all, take-append-drop}
use Rattle.std.proofs.lemmas.List.Elements.{All-nil, All-head, All-tail, All-push, All-weaker}
use Rattle.std.proofs.lemmas.Slice.Eq.{bytes_eq-Decides}
use Rattle.record_store.specs.Records.{IsRecord}
use Rattle.record_store.specs.Headers.{header_line, HasPort}
use Rattle.record_store.specs.Cuts.{cut_of, request_part, response_part}
use Rattle.record_store.specs.Exchanges.{IsExchange}
use Rattle.record_store.specs.inside.Exchanges.{OneExchange}
use Rattle.record_store.specs.StoreText.{magic, record_text, records_text, store_text, IsRecordIn, form_of, Reaches}
use Rattle.record_store.specs.StoreText.{StoreSays, whole, no_form, no_parts, no_exchange, no_memory}
use Rattle.record_store.specs.declared.header.StoreForm.{StoreForm}
use Rattle.record_store.specs.declared.header.StoreForm.TheVariants.{One, Two}
use Rattle.record_store.specs.declared.record.Record.{Record}
use Rattle.record_store.specs.declared.cutting.Cut.{Cut}
use Rattle.record_store.specs.declared.store_error.StoreError.{StoreError}
use Rattle.record_store.specs.declared.store_error.StoreError.TheVariants as errors
use Rattle.record_store.proofs.HeaderLaws.{header_of-line, is_one_line-header}
use Rattle.record_store.proofs.CutLaws.{parts_text, cut_after, request_is, response_is, after_is, cut_of-text, is_cut}
use Rattle.record_store.proofs.ExchangeLaws.{request_short, response_short, same_record}

-- ---- one record at the front

abbrev line_of : StoreForm → Record → List ℕ
line_of form r = header_line form r.port (length r.request.bytes) (length r.response.bytes)

abbrev cut_for : StoreForm → Record → Cut
cut_for form r = cut_after r.port (length (line_of form r) + 1) (length r.request.bytes) (length r.response.bytes)

record_parts : (form : StoreForm) (r : Record) (after : List ℕ) → record_text form r
    ++ after ≡ parts_text (line_of form r) r.request.bytes r.response.bytes after
record_parts form r after =
    let q = r.request.bytes in
    let s = r.response.bytes in
    append_assoc (line_of form r) (10 ∷ (q ++ (s ++ 10 ∷ []))) after
    ∙ ap (λ (l : List ℕ). line_of form r ++ 10 ∷ l) (append_assoc q (s ++ 10 ∷ []) after
    ∙ ap (λ (l : List ℕ). q ++ l) (append_assoc s (10 ∷ []) after))

record_cut : (form : StoreForm) (place : ℕ) (r : Record) (after : List ℕ) → IsRecordIn form r
    → cut_of form place (record_text form r ++ after) ≡ Ok (cut_for form r)
record_cut form place r after is =
    let m = length r.request.bytes in
    let n = length r.response.bytes in
    let p = request_short r.request is.0.request in
    let q = response_short r.request.head.head_only r.response is.0.response in
    ap (cut_of form place) (record_parts form r after)
    ∙ cut_of-text form place (line_of form r) r.request.bytes r.response.bytes after
    (record { port = r.port; request = m; response = n })
    (is_one_line-header form r.port m n is.0.port p q) (header_of-line form place r.port m n is.0.port is.1 p q) refl
    refl

record_request : (form : StoreForm) (r : Record) (after : List ℕ)
    → request_part (cut_for form r) (record_text form r ++ after) ≡ r.request.bytes
record_request form r after =
    ap (request_part (cut_for form r)) (record_parts form r after)
    ∙ request_is (line_of form r) r.request.bytes r.response.bytes after (length r.request.bytes)
    (length r.response.bytes) refl refl r.port

record_response : (form : StoreForm) (r : Record) (after : List ℕ)
    → response_part (cut_for form r) (record_text form r ++ after) ≡ r.response.bytes
record_response form r after =
    ap (response_part (cut_for form r)) (record_parts form r after)
    ∙ response_is (line_of form r) r.request.bytes r.response.bytes after (length r.request.bytes)
    (length r.response.bytes) refl refl r.port

record_after : (form : StoreForm) (r : Record) (after : List ℕ)
    → drop ((cut_for form r).end + 1) (record_text form r ++ after) ≡ after
record_after form r after =
    ap (drop ((cut_for form r).end + 1)) (record_parts form r after)
    ∙ after_is (line_of form r) r.request.bytes r.response.bytes after (length r.request.bytes)
    (length r.response.bytes) refl refl r.port

same_cut : (a b : Cut) (r : Result Cut StoreError) → r ≡ Ok a → r ≡ Ok b → a ≡ b
same_cut a b r p q = let e : r ≡ Ok b = q in cc

-- two records with which one text begins are the same
pub same_front : (form : StoreForm) (r s : Record) (a b : List ℕ) → IsRecordIn form r → IsRecordIn form s
    → record_text form r ++ a ≡ record_text form s ++ b → (r ≡ s) × (a ≡ b)
same_front form r s a b p q e =
    let text = record_text form s ++ b in
    let cuts : cut_for form r ≡ cut_for form s = same_cut (cut_for form r) (cut_for form s) (cut_of form 0 text)
    (sym (ap (cut_of form 0) e) ∙ record_cut form 0 r a p) (record_cut form 0 s b q) in
    let requests : r.request.bytes ≡ s.request.bytes =
    sym (record_request form r a) ∙ ap (request_part (cut_for form r)) e ∙ ap (λ (c : Cut). request_part c text) cuts
    ∙ record_request form s b in
    let responses : r.response.bytes ≡ s.response.bytes =
    sym (record_response form r a) ∙ ap (response_part (cut_for form r)) e
    ∙ ap (λ (c : Cut). response_part c text) cuts ∙ record_response form s b in
    let afters : a ≡ b =
    sym (record_after form r a) ∙ ap (drop ((cut_for form r).end + 1)) e
    ∙ ap (λ (c : Cut). drop (c.end + 1) text) cuts ∙ record_after form s b in
    (same_record r s p.0 q.0 (ap (λ (c : Cut). c.port) cuts) requests responses, afters)

-- ---- many

-- no record stands at the front
abbrev Stops : StoreForm → List ℕ → Type 0
Stops form rest = (r : Record) (after : List ℕ) → IsRecordIn form r → rest ≡ record_text form r ++ after → ⊥

same_run : (form : StoreForm) (rs ss : List Record) (x y : List ℕ) → All (IsRecordIn form) rs → All (IsRecordIn form) ss
    → Stops form x → Stops form y
    → records_text form rs ++ x ≡ records_text form ss ++ y → (rs ≡ ss) × (x ≡ y)
same_run form [] [] x y p q stop stop' e = (refl, e)
same_run form [] (s ∷ ss) x y p q stop stop' e =
    absurd (stop s (records_text form ss ++ y) (All-head (IsRecordIn form) s ss q)
    (e ∙ append_assoc (record_text form s) (records_text form ss) y))
same_run form (r ∷ rs) [] x y p q stop stop' e =
    absurd (stop' r (records_text form rs ++ x) (All-head (IsRecordIn form) r rs p)
    (sym e ∙ append_assoc (record_text form r) (records_text form rs) x))
same_run form (r ∷ rs) (s ∷ ss) x y p q stop stop' e =
    let front = same_front form r s (records_text form rs ++ x) (records_text form ss ++ y)
    (All-head (IsRecordIn form) r rs p) (All-head (IsRecordIn form) s ss q)
    (sym (append_assoc (record_text form r) (records_text form rs) x) ∙ e
    ∙ append_assoc (record_text form s) (records_text form ss) y) in
    let later = same_run form rs ss x y (All-tail (IsRecordIn form) r rs p) (All-tail (IsRecordIn form) s ss q) stop
    stop' front.1 in
    (λ i. front.0 i ∷ later.0 i, later.1)

-- the form is known by the first 10 bytes
form_reached : (form : StoreForm) (text : List ℕ) (rs : List Record) (rest : List ℕ) → text ≡ store_text form rs ++ rest
    → form_of text ≡ Some form
form_reached One text rs rest e = ap form_of e
form_reached Two text rs rest e = ap form_of e

some_form : (a b : StoreForm) (o : Option StoreForm) → o ≡ Some a → o ≡ Some b → a ≡ b
some_form a b o p q = let e : o ≡ Some b = q in cc

after_magic : (form : StoreForm) (rs ss : List Record) (x y : List ℕ)
    → store_text form rs ++ x ≡ store_text form ss ++ y → records_text form rs ++ x ≡ records_text form ss ++ y
after_magic One rs ss x y e = ap (drop 10) e
after_magic Two rs ss x y e = ap (drop 10) e

-- ---- what a text says, by what stands after its records

data Says (form : StoreForm) (rs : List Record) (rest : List ℕ) (result : Result (List Record) StoreError) : Type 0
  where
    ends : rest ≡ [] → result ≡ Ok rs → Says form rs rest result
    uncut : 0 < length rest → (e : StoreError) → cut_of form (length (store_text form rs)) rest ≡ Err e → result ≡ Err e
        → Says form rs rest result
    unmatched : (cut : Cut) → cut_of form (length (store_text form rs)) rest ≡ Ok cut
        → (IsExchange (request_part cut rest) (response_part cut rest) → ⊥)
        → result ≡ Err (errors.BadMessage (length rs + 1)) → Says form rs rest result

record Reading (text : List ℕ) (result : Result (List Record) StoreError) : Type 0 where
  pub form : StoreForm
  pub records : List Record
  pub rest : List ℕ
  pub reaches : Reaches form text records rest
  pub says : Says form records rest result

data Kind (text : List ℕ) (result : Result (List Record) StoreError) : Type 0 where
  formless : form_of text ≡ None → result ≡ Err errors.BadMagic → Kind text result
  formed : Reading text result → Kind text result
  forgotten : result ≡ Err errors.OutOfMemory → Kind text result

kind_of : (text : List ℕ) (result : Result (List Record) StoreError) → StoreSays text result → Kind text result
kind_of text result (whole form rs e is r) =
    formed (record {
      form = form;
      records = rs;
      rest = [];
      reaches = record { split = e ∙ sym (append-nil (store_text form rs)); records = is };
      says = ends refl r;
    })
kind_of text result (no_form e r) = formless e r
kind_of text result (no_parts form rs rest fault reaches some cut r) =
    formed (record { form = form; records = rs; rest = rest; reaches = reaches; says = uncut some fault cut r })
kind_of text result (no_exchange form rs rest parts reaches cut none r) =
    formed (record { form = form; records = rs; rest = rest; reaches = reaches; says = unmatched parts cut none r })
kind_of text result (no_memory r) = forgotten r

some_line : (form : StoreForm) (r : Record) (after : List ℕ) → 0 < length (record_text form r ++ after)
some_line One r after = omega arith
some_line Two r after = omega arith

stops_so : (form : StoreForm) (rs : List Record) (rest : List ℕ) (result : Result (List Record) StoreError)
    → Says form rs rest result → Stops form rest
stops_so form rs rest result (ends none r) = λ s after is e. let long = some_line form s after
    in let zero = ap length (sym none ∙ e) in absurd (omega arith)
stops_so form rs rest result (uncut some fault cut r) = λ s after is e.
    let read = sym cut ∙ ap (cut_of form (length (store_text form rs))) e
    ∙ record_cut form (length (store_text form rs)) s after is in cc
stops_so form rs rest result (unmatched parts cut none r) = λ s after is e.
    let text = record_text form s ++ after in
    let cuts : parts ≡ cut_for form s = same_cut parts (cut_for form s) (cut_of form (length (store_text form rs)) text)
    (sym (ap (cut_of form (length (store_text form rs))) e) ∙ cut)
    (record_cut form (length (store_text form rs)) s after is) in
    none (
      s,
      is.0,
      sym (ap (request_part parts) e ∙ ap (λ (c : Cut). request_part c text) cuts ∙ record_request form s after),
      sym (ap (response_part parts) e ∙ ap (λ (c : Cut). response_part c text) cuts ∙ record_response form s after),
    )

says_once : (form : StoreForm) (rs : List Record) (rest : List ℕ) (a b : Result (List Record) StoreError)
    → Says form rs rest a → Says form rs rest b → a ≡ b
says_once form rs rest a b (ends none r) (ends none' r') = r ∙ sym r'
says_once form rs rest a b (ends none r) (uncut some fault cut r') = let zero = ap length none in absurd (omega arith)
says_once form rs rest a b (ends none r) (unmatched parts cut lacks r') = let nothing =
    sym (ap (cut_of form (length (store_text form rs))) none) ∙ cut in cc
says_once form rs rest a b (uncut some fault cut r) (ends none r') = let zero = ap length none in absurd (omega arith)
says_once form rs rest a b (uncut some fault cut r) (uncut some' fault' cut' r') = let same = sym cut ∙ cut' in cc
says_once form rs rest a b (uncut some fault cut r) (unmatched parts cut' lacks r') = let same = sym cut ∙ cut' in cc
says_once form rs rest a b (unmatched parts cut lacks r) (ends none r') = let nothing =
    sym (ap (cut_of form (length (store_text form rs))) none) ∙ cut in cc
says_once form rs rest a b (unmatched parts cut lacks r) (uncut some fault cut' r') = let same = sym cut ∙ cut' in cc
says_once form rs rest a b (unmatched parts cut lacks r) (unmatched parts' cut' lacks' r') = r ∙ sym r'

readings_same : (text : List ℕ) (a b : Result (List Record) StoreError) → Reading text a → Reading text b → a ≡ b
readings_same text a b x y =
    let forms : x.form ≡ y.form = some_form x.form y.form (form_of text)
    (form_reached x.form text x.records x.rest x.reaches.split)
    (form_reached y.form text y.records y.rest y.reaches.split) in
    let reaches : Reaches y.form text x.records x.rest =
    subst (λ (f : StoreForm). Reaches f text x.records x.rest) forms x.reaches in
    let says : Says y.form x.records x.rest a = subst (λ (f : StoreForm). Says f x.records x.rest a) forms x.says in
    let run = same_run y.form x.records y.records x.rest y.rest reaches.records y.reaches.records
    (stops_so y.form x.records x.rest a says) (stops_so y.form y.records y.rest b y.says)
    (after_magic y.form x.records y.records x.rest y.rest (sym reaches.split ∙ y.reaches.split)) in
    says_once y.form y.records y.rest a b
    (subst (λ (r : List ℕ). Says y.form y.records r a) run.1
    (subst (λ (rs : List Record). Says y.form rs x.rest a) run.0 says)) y.says

kinds_same : (text : List ℕ) (a b : Result (List Record) StoreError) → a ≢ Err errors.OutOfMemory
    → b ≢ Err errors.OutOfMemory → Kind text a → Kind text b → a ≡ b
kinds_same text a b p q (formless e r) (formless e' r') = r ∙ sym r'
kinds_same text a b p q (formless e r) (formed y) = let form = sym e
    ∙ form_reached y.form text y.records y.rest y.reaches.split in cc
kinds_same text a b p q (formed x) (formless e r) = let form = sym e
    ∙ form_reached x.form text x.records x.rest x.reaches.split in cc
kinds_same text a b p q (formed x) (formed y) = readings_same text a b x y
kinds_same text a b p q (forgotten r) y = absurd (p r)
kinds_same text a b p q (formless e r) (forgotten r') = absurd (q r')
kinds_same text a b p q (formed x) (forgotten r') = absurd (q r')

-- a text says one thing, but for memory
pub one_outcome : (text : List ℕ) (a b : Result (List Record) StoreError) → StoreSays text a → StoreSays text b
    → b ≢ Err errors.OutOfMemory → a ≢ Err errors.OutOfMemory → a ≡ b
one_outcome text a b x y q p = kinds_same text a b p q (kind_of text a x) (kind_of text b y)

-- what is printed is read
with_ports : (rs : List Record) → All IsRecord rs → All (IsRecordIn Two) rs
with_ports rs is = All-weaker IsRecord (IsRecordIn Two) (λ r p. (p, tt)) rs is

by_result : (rs : List Record) (result : Result (List Record) StoreError)
    → (result ≢ Err errors.OutOfMemory → result ≡ Ok rs)
    → MatchResult result (λ s. s ≡ rs) (λ e. e ≡ errors.OutOfMemory)
by_result rs (Ok s) h = let same : Ok s ≡ Ok rs = h (λ e. cc) in cc
by_result rs (Err errors.BadMagic) h = let same = h (λ e. cc) in cc
by_result rs (Err (errors.BadHeader place)) h = let same = h (λ e. cc) in cc
by_result rs (Err (errors.Truncated place)) h = let same = h (λ e. cc) in cc
by_result rs (Err (errors.BadMessage number)) h = let same = h (λ e. cc) in cc
by_result rs (Err (errors.BadScheme place)) h = let same = h (λ e. cc) in cc
by_result rs (Err errors.OutOfMemory) h = refl

pub read_back : (text : List ℕ) (result : Result (List Record) StoreError) → StoreSays text result
    → (rs : List Record) → All IsRecord rs → text ≡ store_text Two rs
    → MatchResult result (λ s. s ≡ rs) (λ e. e ≡ errors.OutOfMemory)
read_back text result says rs is e =
    by_result rs result (one_outcome text result (Ok rs) says (whole Two rs e (with_ports rs is) refl) (λ q. cc))

-- ---- steps of reading

take_known : (text known : List ℕ) → bytes_eq (take 10 text) known ≡ true → text ≡ known ++ drop 10 text
take_known text known e = sym (take-append-drop 10 text)
    ∙ ap (λ (l : List ℕ). l ++ drop 10 text) ((bytes_eq-Decides (take 10 text) known).0 e)

by_magic : (b c : Bool) (form : StoreForm) → cond b (Some Two) (cond c (Some One) None) ≡ Some form
    → ((form ≡ Two) × (b ≡ true)) ⊎ ((form ≡ One) × (c ≡ true))
by_magic true c form e = inl (cc, refl)
by_magic false true form e = inr (cc, refl)
by_magic false false form e = cc

pub begins : (form : StoreForm) (text : List ℕ) (rs : List Record) → form_of text ≡ Some form → rs ≡ []
    → (10 ≤ length text) × Reaches form text rs (drop 10 text)
begins form text rs e none =
    let parts : text ≡ magic form ++ drop 10 text =
    elim (by_magic (bytes_eq (take 10 text) (magic Two)) (bytes_eq (take 10 text) (magic One)) form e) [
      | inl two ↦ take_known text (magic Two) two.1 ∙ ap (λ (f : StoreForm). magic f ++ drop 10 text) (sym two.0)
      | inr one ↦ take_known text (magic One) one.1 ∙ ap (λ (f : StoreForm). magic f ++ drop 10 text) (sym one.0)
    ] in
    let long : length (magic form) ≡ 10 = magic_long form in
    let here : text ≡ store_text form [] ++ drop 10 text = parts
    ∙ ap (λ (l : List ℕ). l ++ drop 10 text) (sym (append-nil (magic form))) in (
      omega (arith, ap length parts, length-append (magic form) (drop 10 text)),
      record {
        split = here ∙ ap (λ (l : List Record). store_text form l ++ drop 10 text) (sym none);
        records = subst (All (IsRecordIn form)) (sym none) (All-nil (IsRecordIn form));
      },
    )
  where
    magic_long : (form : StoreForm) → length (magic form) ≡ 10
    magic_long One = refl
    magic_long Two = refl

-- where the rest stands
pub place_of_rest : (form : StoreForm) (text : List ℕ) (rs : List Record) (place : ℕ) → place ≤ length text
    → Reaches form text rs (drop place text) → place ≡ length (store_text form rs)
place_of_rest form text rs place inside reaches =
    omega (arith, ap length reaches.split, length-append (store_text form rs) (drop place text), length-drop place text)

store_text_more : (form : StoreForm) (rs : List Record) (r : Record) (rest : List ℕ) → store_text form rs
    ++ (record_text form r ++ rest) ≡ store_text form (rs ++ r ∷ []) ++ rest
store_text_more form rs r rest =
    append_assoc (magic form) (records_text form rs) (record_text form r ++ rest)
    ∙ ap (λ (l : List ℕ). magic form ++ l) (more rs)
    ∙ sym (append_assoc (magic form) (records_text form (rs ++ r ∷ [])) rest)
  where
    more : (rs : List Record) → records_text form rs
        ++ (record_text form r ++ rest) ≡ records_text form (rs ++ r ∷ []) ++ rest
    more [] = sym (append_assoc (record_text form r) [] rest)
    more (s ∷ rs) =
        append_assoc (record_text form s) (records_text form rs) (record_text form r ++ rest)
        ∙ ap (λ (l : List ℕ). record_text form s ++ l) (more rs)
        ∙ sym (append_assoc (record_text form s) (records_text form (rs ++ r ∷ [])) rest)

-- a record more
pub record_read : (form : StoreForm) (text bytes : List ℕ) (rs ss : List Record) (place next : ℕ) (cut : Cut)
    (r : Record) → Reaches form text rs (drop place bytes)
    → cut_of form (length (store_text form rs)) (drop place bytes) ≡ Ok cut
    → OneExchange cut.port (request_part cut (drop place bytes)) (response_part cut (drop place bytes)) (Some r)
    → ss ≡ rs ++ r ∷ [] → next ≡ place + (cut.end + 1) → Reaches form text ss (drop next bytes)
record_read form text bytes rs ss place next cut r reaches cut_is found more next_is =
    let rest = drop place bytes in
    let parts = is_cut form (length (store_text form rs)) rest cut cut_is in
    let after = drop (cut.end + 1) rest in
    let q = request_part cut rest in
    let s = response_part cut rest in
    let same : parts_text (header_line form cut.port (length q) (length s)) q s after ≡ parts_text (line_of form r)
    r.request.bytes r.response.bytes after =
    ap (λ (p : ℕ). parts_text (header_line form p (length q) (length s)) q s after) (sym found.1)
    ∙ ap (λ (l : List ℕ). parts_text (header_line form r.port (length l) (length s)) l s after) (sym found.2)
    ∙ ap (λ (l : List ℕ). parts_text (header_line form r.port (length r.request.bytes) (length l)) r.request.bytes l
    after) (sym found.3) in
    let rest_is : rest ≡ record_text form r ++ after = parts.text ∙ same ∙ sym (record_parts form r after) in
    let after_rest : after ≡ drop next bytes = drop-drop (cut.end + 1) place bytes
    ∙ ap (λ (n : ℕ). drop n bytes) (sym next_is) in
    let own : HasPort form r.port = subst (HasPort form) (sym found.1) parts.own in
    record {
      split = reaches.split ∙ ap (λ (l : List ℕ). store_text form rs ++ l) rest_is ∙ store_text_more form rs r after
          ∙ ap (λ (l : List ℕ). store_text form (rs ++ r ∷ []) ++ l) after_rest
          ∙ ap (λ (l : List Record). store_text form l ++ drop next bytes) (sym more);
      records = subst (All (IsRecordIn form)) (sym more)
          (All-push (IsRecordIn form) rs r reaches.records (found.0, own));
    }

-- the end of the text
pub all_read : (form : StoreForm) (text bytes : List ℕ) (rs : List Record) (place : ℕ)
    (result : Result (List Record) StoreError) → length bytes ≤ place → Reaches form text rs (drop place bytes)
    → result ≡ Ok rs → StoreSays text result
all_read form text bytes rs place result past reaches is =
    whole form rs (reaches.split ∙ ap (λ (l : List ℕ). store_text form rs ++ l) (drop_all place bytes past)
    ∙ append-nil (store_text form rs)) reaches.records is

no_form_by : (b c : Bool) → b ≡ false → c ≡ false → None ≡ cond b (Some Two) (cond c (Some One) None)
no_form_by b c p q = sym (ap (λ x. cond x (Some Two) (cond c (Some One) None)) p ∙ ap (λ x. cond x (Some One) None) q)

-- neither form's first 10 bytes
pub no_magic : (text first : List ℕ) → first ≡ take 10 text → bytes_eq first (magic Two) ≡ false
    → bytes_eq first (magic One) ≡ false → None ≡ form_of text
no_magic text first is two one =
    no_form_by (bytes_eq (take 10 text) (magic Two)) (bytes_eq (take 10 text) (magic One))
    (ap (λ (l : List ℕ). bytes_eq l (magic Two)) (sym is) ∙ two)
    (ap (λ (l : List ℕ). bytes_eq l (magic One)) (sym is) ∙ one)
