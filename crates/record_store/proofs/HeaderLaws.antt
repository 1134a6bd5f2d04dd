-- A header line says the port and the lengths whose line it is, and no others.
use Rattle.std.proofs.Common.{◌≡◌, ℕ, ◌<◌, ◌≤◌, ◌^◌, ◌++◌, Bool, true, false, cond, List, [], ◌∷◌, length, Option, Some}
use Rattle.std.proofs.Common.{None, Ok, Err, nat_le, codes, refl, ap, sym, subst, ◌∙◌, arith}
use Rattle.std.specs.Prelude.{Result, decimal}
use Rattle.std.specs.Option.{ok_or, option_and_then}
use Rattle.std.specs.Str.{bytes_eq}
use Rattle.std.proofs.lemmas.Bool.{le-leb, leb-true}
use Rattle.std.proofs.lemmas.Slice.Eq.{bytes_eq-Decides}
use Rattle.text_base.specs.Numbers.{canonical_of}
use Rattle.text_base.specs.Lines.{is_one_line}
use Rattle.text_base.proofs.TextLemmas.{is_one_line-append}
use Rattle.text_base.proofs.NumbersLemmas.{canonical_of-decimal, canonical_of-Some, decimal-canonical_of}
use Rattle.text_base.proofs.NumbersLemmas.{no_space-decimal, is_one_line-decimal}
use Rattle.text_base.specs.Words.{first_word, other_words}
use Rattle.record_store.specs.Headers.{header_line, HasPort, if_at_most, number_up_to, most_length, lengths_of}
use Rattle.record_store.specs.Headers.{port_and_lengths_of, is_scheme, with_scheme, header_by_form, header_of}
use Rattle.record_store.specs.inside.Headers.{IsShort}
use Rattle.record_store.specs.declared.header.StoreForm.{StoreForm}
use Rattle.record_store.specs.declared.header.StoreForm.TheVariants.{One, Two}
use Rattle.record_store.specs.declared.header.Header.{Header}
use Rattle.record_store.specs.declared.store_error.StoreError.{StoreError}
use Rattle.record_store.specs.declared.store_error.StoreError.TheVariants as errors
use Rattle.text_base.proofs.WordsLemmas.{spaced_again, first_word-spaced, other_words-spaced}

-- ---- numbers

pub number_of-decimal : (most n : ℕ) → n ≤ most → most < 10 ^ 10 → number_up_to most (decimal n) ≡ Some n
number_of-decimal most n le small =
    ap (option_and_then (if_at_most most)) (canonical_of-decimal n (omega (arith, le, small)))
    ∙ ap (λ b. cond b (Some n) None) (le-leb n most le)

and_then : {X Y : Type 0} (o : Option X) (f : X → Option Y) (y : Y) → option_and_then f o ≡ Some y → (x : X)
    × (o ≡ Some x) × (f x ≡ Some y)
and_then None f y e = cc
and_then (Some x) f y e = (x, refl, e)

at_most : (b : Bool) (m n : ℕ) → cond b (Some m) None ≡ Some n → (b ≡ true) × (m ≡ n)
at_most true m n e = (refl, cc)
at_most false m n e = cc

-- a word that is read is what is written of its number
pub record IsNumber (most : ℕ) (word : List ℕ) (n : ℕ) : Type 0 where
  pub written : decimal n ≡ word
  pub small : n ≤ most
  pub some : 0 < length word

is_number : (most : ℕ) (word : List ℕ) (n : ℕ) → number_up_to most word ≡ Some n → IsNumber most word n
is_number most word n e =
    let x = and_then (canonical_of word) (if_at_most most) n e in
    let t = at_most (nat_le x.0 most) x.0 n x.2 in
    let read : canonical_of word ≡ Some n = x.1 ∙ ap Some t.1 in
    record {
      written = decimal-canonical_of word n read;
      small = subst (λ (k : ℕ). k ≤ most) t.1 (leb-true x.0 most t.0);
      some = (canonical_of-Some word n read).some;
    }

-- ---- two lengths, and three numbers

abbrev pub numbers : ℕ → ℕ → List ℕ
numbers m n = decimal m ++ 32 ∷ decimal n

pub lengths_of-line : (port m n : ℕ) → m ≤ most_length → n ≤ most_length
    → lengths_of port (numbers m n) ≡ Some (record { port = port; request = m; response = n })
lengths_of-line port m n p q =
    let none = no_space-decimal m (omega (arith, p)) in
    let first : number_up_to most_length (first_word (numbers m n)) ≡ Some m =
    ap (number_up_to most_length) (first_word-spaced (decimal m) (decimal n) none)
    ∙ number_of-decimal most_length m p (omega arith) in
    let second : number_up_to most_length (other_words (numbers m n)) ≡ Some n =
    ap (number_up_to most_length) (other_words-spaced (decimal m) (decimal n) none)
    ∙ number_of-decimal most_length n q (omega arith) in
    let f : ℕ → ℕ → Option Header = λ x y. Some (record { port = port; request = x; response = y }) in
    ap (λ (o : Option ℕ). option_and_then
    (λ (x : ℕ). option_and_then (f x) (number_up_to most_length (other_words (numbers m n)))) o) first
    ∙ ap (λ (o : Option ℕ). option_and_then (f m) o) second

pub record IsLengths (port : ℕ) (rest : List ℕ) (h : Header) : Type 0 where
  pub port_is : h.port ≡ port
  pub text : rest ≡ numbers h.request h.response
  pub short : IsShort h
  pub some : 0 < length rest

more_than_one : (text : List ℕ) → 0 < length (other_words text) → 0 < length text
more_than_one [] some = absurd (omega arith)
more_than_one (x ∷ xs) some = omega arith

pub is_lengths : (port : ℕ) (rest : List ℕ) (h : Header) → lengths_of port rest ≡ Some h → IsLengths port rest h
is_lengths port rest h e =
    let m = and_then (number_up_to most_length (first_word rest))
    (λ m. option_and_then (λ n. Some (record { port = port; request = m; response = n }))
    (number_up_to most_length (other_words rest))) h e in
    let n = and_then (number_up_to most_length (other_words rest))
    (λ n. Some (record { port = port; request = m.0; response = n })) h m.2 in
    let first = is_number most_length (first_word rest) m.0 m.1 in
    let second = is_number most_length (other_words rest) n.0 n.1 in
    let line : rest ≡ numbers m.0 n.0 =
    spaced_again rest second.some ∙ ap (λ (l : List ℕ). l ++ 32 ∷ other_words rest) (sym first.written)
    ∙ ap (λ (l : List ℕ). decimal m.0 ++ 32 ∷ l) (sym second.written) in
    let found : IsLengths port rest (record { port = port; request = m.0; response = n.0 }) = record {
      port_is = refl;
      text = line;
      short = (first.small, second.small);
      some = more_than_one rest second.some;
    } in
    let same : record { port = port; request = m.0; response = n.0 } ≡ h = cc in
    subst (IsLengths port rest) same found

abbrev pub numbers_with_port : ℕ → ℕ → ℕ → List ℕ
numbers_with_port port m n = decimal port ++ 32 ∷ numbers m n

pub port_and_lengths_of-line : (port m n : ℕ) → port ≤ 65535 → m ≤ most_length → n ≤ most_length
    → port_and_lengths_of (numbers_with_port port m n) ≡ Some (record { port = port; request = m; response = n })
port_and_lengths_of-line port m n o p q =
    let none = no_space-decimal port (omega (arith, o)) in
    let rest = numbers_with_port port m n in
    let first : number_up_to 65535 (first_word rest) ≡ Some port =
    ap (number_up_to 65535) (first_word-spaced (decimal port) (numbers m n) none)
    ∙ number_of-decimal 65535 port o (omega arith) in
    ap (λ (o : Option ℕ). option_and_then (λ (x : ℕ). lengths_of x (other_words rest)) o) first
    ∙ ap (lengths_of port) (other_words-spaced (decimal port) (numbers m n) none)
    ∙ lengths_of-line port m n p q

pub record IsPortAndLengths (rest : List ℕ) (h : Header) : Type 0 where
  pub text : rest ≡ numbers_with_port h.port h.request h.response
  pub port : h.port ≤ 65535
  pub some : 0 < length rest

is_port_and_lengths : (rest : List ℕ) (h : Header) → port_and_lengths_of rest ≡ Some h → IsPortAndLengths rest h
is_port_and_lengths rest h e =
    let x = and_then (number_up_to 65535 (first_word rest)) (λ port. lengths_of port (other_words rest)) h e in
    let first = is_number 65535 (first_word rest) x.0 x.1 in
    let tail = is_lengths x.0 (other_words rest) h x.2 in
    record {
      text = spaced_again rest tail.some
          ∙ ap (λ (l : List ℕ). l ++ 32 ∷ other_words rest) (sym first.written)
          ∙ ap (λ (l : List ℕ). decimal x.0 ++ 32 ∷ l) tail.text
          ∙ ap (λ (p : ℕ). numbers_with_port p h.request h.response) (sym tail.port_is);
      port = subst (λ (p : ℕ). p ≤ 65535) (sym tail.port_is) first.small;
      some = more_than_one rest tail.some;
    }

-- ---- whole lines

by_record : (form : StoreForm) (place : ℕ) (rest : List ℕ)
    → header_of form place (codes "record" ++ 32 ∷ rest) ≡ header_by_form form place rest
by_record form place rest =
    let line : List ℕ = codes "record" ++ 32 ∷ rest in
    ap (λ (w : List ℕ). cond (bytes_eq w (codes "record")) (header_by_form form place (other_words line))
    (Err (errors.BadHeader place))) (first_word-spaced (codes "record") rest refl)
    ∙ ap (header_by_form form place) (other_words-spaced (codes "record") rest refl)

by_http : (place : ℕ) (rest : List ℕ) → header_by_form Two place (codes "http" ++ 32 ∷ rest) ≡ with_scheme place
    (codes "http") (port_and_lengths_of rest)
by_http place rest =
    let line : List ℕ = codes "http" ++ 32 ∷ rest in
    ap (λ (w : List ℕ). with_scheme place w (port_and_lengths_of (other_words line)))
    (first_word-spaced (codes "http") rest refl)
    ∙ ap (λ (w : List ℕ). with_scheme place (codes "http") (port_and_lengths_of w))
    (other_words-spaced (codes "http") rest refl)

-- a header line is read
pub header_of-line : (form : StoreForm) (place port m n : ℕ) → port ≤ 65535 → HasPort form port → m ≤ most_length
    → n ≤ most_length
    → header_of form place (header_line form port m n) ≡ Ok (record { port = port; request = m; response = n })
header_of-line One place port m n small own p q =
    by_record One place (numbers m n)
    ∙ ap (λ (o : Option Header). ok_or o (errors.BadHeader place)) (lengths_of-line 0 m n p q)
    ∙ ap (λ (k : ℕ). Ok (record { port = k; request = m; response = n })) (sym own)
header_of-line Two place port m n small own p q =
    by_record Two place (codes "http" ++ 32 ∷ numbers_with_port port m n)
    ∙ by_http place (numbers_with_port port m n)
    ∙ ap (with_scheme place (codes "http")) (port_and_lengths_of-line port m n small p q)

-- what is read is a header line
pub record IsHeader (form : StoreForm) (line : List ℕ) (h : Header) : Type 0 where
  pub text : line ≡ header_line form h.port h.request h.response
  pub port : h.port ≤ 65535
  pub own : HasPort form h.port

passed : (b : Bool) (x : Result Header StoreError) (e : StoreError) (h : Header) → cond b x (Err e) ≡ Ok h
    → (b ≡ true) × (x ≡ Ok h)
passed true x e h is = (refl, is)
passed false x e h is = cc

some_of : (o : Option Header) (e : StoreError) (h : Header) → ok_or o e ≡ Ok h → o ≡ Some h
some_of None e h is = cc
some_of (Some g) e h is = cc

checked : (b c : Bool) (g h : Header) (e f : StoreError) → cond b (Ok g) (cond c (Err e) (Err f)) ≡ Ok h → (b ≡ true)
    × (g ≡ h)
checked true c g h e f is = (refl, cc)
checked false true g h e f is = cc
checked false false g h e f is = cc

same_word : (word known : List ℕ) → bytes_eq word known ≡ true → word ≡ known
same_word word known e = (bytes_eq-Decides word known).0 e

scheme_is : (place : ℕ) (scheme : List ℕ) (o : Option Header) (h : Header) → with_scheme place scheme o ≡ Ok h
    → (o ≡ Some h) × (scheme ≡ codes "http")
scheme_is place scheme None h is = cc
scheme_is place scheme (Some g) h is =
    let t = checked (bytes_eq scheme (codes "http")) (is_scheme scheme) g h (errors.BadScheme place)
    (errors.BadHeader place) is in
    (ap Some t.1, same_word scheme (codes "http") t.0)

two_words : (line rest word : List ℕ) → other_words line ≡ rest → 0 < length rest → first_word line ≡ word
    → line ≡ word ++ 32 ∷ rest
two_words line rest word others some first =
    spaced_again line (subst (λ (l : List ℕ). 0 < length l) (sym others) some)
    ∙ ap (λ (l : List ℕ). l ++ 32 ∷ other_words line) first ∙ ap (λ (l : List ℕ). word ++ 32 ∷ l) others

by_form : (form : StoreForm) (place : ℕ) (line : List ℕ) (h : Header) → first_word line ≡ codes "record"
    → header_by_form form place (other_words line) ≡ Ok h → IsHeader form line h
by_form One place line h first is =
    let found = is_lengths 0 (other_words line) h (some_of (lengths_of 0 (other_words line)) (errors.BadHeader place)
    h is) in
    record {
      text = two_words line (other_words line) (codes "record") refl found.some first
          ∙ ap (λ (l : List ℕ). codes "record" ++ 32 ∷ l) found.text;
      port = omega (arith, found.port_is);
      own = found.port_is;
    }
by_form Two place line h first is =
    let rest = other_words line in
    let t = scheme_is place (first_word rest) (port_and_lengths_of (other_words rest)) h is in
    let found = is_port_and_lengths (other_words rest) h t.0 in
    let after : rest ≡ codes "http" ++ 32 ∷ numbers_with_port h.port h.request h.response =
    two_words rest (other_words rest) (codes "http") refl found.some t.1
    ∙ ap (λ (l : List ℕ). codes "http" ++ 32 ∷ l) found.text in
    record {
      text = two_words line rest (codes "record") refl (more_than_one rest found.some) first
          ∙ ap (λ (l : List ℕ). codes "record" ++ 32 ∷ l) after;
      port = found.port;
      own = tt;
    }

pub is_header : (form : StoreForm) (place : ℕ) (line : List ℕ) (h : Header) → header_of form place line ≡ Ok h
    → IsHeader form line h
is_header form place line h e =
    let t = passed (bytes_eq (first_word line) (codes "record")) (header_by_form form place (other_words line))
    (errors.BadHeader place) h e in
    by_form form place line h (same_word (first_word line) (codes "record") t.0) t.1

-- a header line is one line
pub is_one_line-header : (form : StoreForm) (port m n : ℕ) → port ≤ 65535 → m ≤ most_length → n ≤ most_length
    → is_one_line (header_line form port m n) ≡ true
is_one_line-header One port m n o p q =
    is_one_line-append (decimal m) (32 ∷ decimal n) (is_one_line-decimal m (omega (arith, p)))
    (is_one_line-decimal n (omega (arith, q)))
is_one_line-header Two port m n o p q =
    is_one_line-append (decimal port) (32 ∷ numbers m n) (is_one_line-decimal port (omega (arith, o)))
    (is_one_line-append (decimal m) (32 ∷ decimal n) (is_one_line-decimal m (omega (arith, p)))
    (is_one_line-decimal n (omega (arith, q))))
