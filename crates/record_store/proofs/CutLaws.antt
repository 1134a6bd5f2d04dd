-- The text of a record is cut into its parts, and what is cut so is the text of its parts.
use Rattle.std.proofs.Common.{◌≡◌, ℕ, ◌+◌, ◌-◌, ◌<◌, ◌≤◌, ◌++◌, ◌==◌, Bool, true, false, cond, List, ◌∷◌, length, take}
use Rattle.std.proofs.Common.{drop, get_or, Option, Some, None, Ok, Err, nat_lt, refl, ap, sym, subst, ◌∙◌, arith}
use Rattle.std.proofs.Common.{append_assoc, length-append, length-drop, take-append-drop}
use Rattle.std.specs.Prelude.{Result, slice_index, position}
use Rattle.std.proofs.Math.Seq.{take-append_seam, drop-append-add}
use Rattle.std.proofs.lemmas.Bool.{ltb-true, lt-ltb}
use Rattle.std.proofs.lemmas.Bool.Decides.{nat_tests}
use Rattle.std.proofs.lemmas.List.{drop-drop, drop_more, drop_at, take_at, get_or_at, length-take-le}
use Rattle.text_base.specs.Lines.{is_one_line}
use Rattle.record_store.specs.Headers.{header_line, HasPort, header_of}
use Rattle.record_store.specs.Cuts.{request_part, response_part, cut_at_header, cut_by_header, cut_by_line, cut_of}
use Rattle.record_store.specs.declared.header.StoreForm.{StoreForm}
use Rattle.record_store.specs.declared.header.Header.{Header}
use Rattle.record_store.specs.declared.cutting.Cut.{Cut}
use Rattle.record_store.specs.declared.store_error.StoreError.{StoreError}
use Rattle.record_store.specs.declared.store_error.StoreError.TheVariants as errors
use Rattle.record_store.proofs.WordLemmas.{position_such, cut_at_place}
use Rattle.record_store.proofs.HeaderLaws.{is_header}

-- ---- a line, a request, a response and a line feed

abbrev pub parts_text : List ℕ → List ℕ → List ℕ → List ℕ → List ℕ
parts_text line q s after = line ++ 10 ∷ (q ++ (s ++ 10 ∷ after))

abbrev pub cut_after : ℕ → ℕ → ℕ → ℕ → Cut
cut_after port start m n = record { port = port; request = start; response = start + m; end = start + m + n }

from_response : (line q s after : List ℕ) → parts_text line q s after ≡ (line ++ 10 ∷ q) ++ (s ++ 10 ∷ after)
from_response line q s after = sym (append_assoc line (10 ∷ q) (s ++ 10 ∷ after))

from_end : (line q s after : List ℕ) → parts_text line q s after ≡ ((line ++ 10 ∷ q) ++ s) ++ 10 ∷ after
from_end line q s after = from_response line q s after ∙ sym (append_assoc (line ++ 10 ∷ q) s (10 ∷ after))

two_long : (line q : List ℕ) → length (line ++ 10 ∷ q) ≡ length line + 1 + length q
two_long line q = let e = length-append line (10 ∷ q) in omega arith

three_long : (line q s : List ℕ) → length ((line ++ 10 ∷ q) ++ s) ≡ length line + 1 + length q + length s
three_long line q s = let e = length-append (line ++ 10 ∷ q) s in let f = two_long line q in omega arith

module _ (line q s after : List ℕ) (m n : ℕ) (q_long : length q ≡ m) (s_long : length s ≡ n) (port : ℕ) where
  the_end : length ((line ++ 10 ∷ q) ++ s) ≡ length line + 1 + m + n
  the_end = let e = three_long line q s in omega arith

  pub inside : length line + 1 + m + n < length (parts_text line q s after)
  inside = let e = ap length (from_end line q s after) in let f = length-append ((line ++ 10 ∷ q) ++ s) (10 ∷ after)
      in let g = the_end in omega arith

  pub ended : slice_index (parts_text line q s after) (length line + 1 + m + n) ≡ 10
  ended = ap (λ (xs : List ℕ). get_or xs (length line + 1 + m + n) 0) (from_end line q s after)
      ∙ get_or_at ((line ++ 10 ∷ q) ++ s) 10 after 0 (length line + 1 + m + n) the_end

  pub request_is : request_part (cut_after port (length line + 1) m n) (parts_text line q s after) ≡ q
  request_is =
      ap (take (length line + 1 + m - (length line + 1))) (drop-append-add line (10 ∷ (q ++ (s ++ 10 ∷ after))) 1)
      ∙ take_at q (s ++ 10 ∷ after) (length line + 1 + m - (length line + 1)) (omega (arith, q_long))

  pub response_is : response_part (cut_after port (length line + 1) m n) (parts_text line q s after) ≡ s
  response_is =
      ap (λ (xs : List ℕ). take (length line + 1 + m + n - (length line + 1 + m)) (drop (length line + 1 + m) xs))
      (from_response line q s after)
      ∙ ap (take (length line + 1 + m + n - (length line + 1 + m)))
      (drop_at (line ++ 10 ∷ q) (s ++ 10 ∷ after) (length line + 1 + m) (two_long line q
      ∙ ap (λ (k : ℕ). length line + 1 + k) q_long))
      ∙ take_at s (10 ∷ after) (length line + 1 + m + n - (length line + 1 + m)) (omega (arith, s_long))

  pub after_is : drop (length line + 1 + m + n + 1) (parts_text line q s after) ≡ after
  after_is =
      ap (λ (k : ℕ). drop (k + 1) (parts_text line q s after)) (sym the_end)
      ∙ ap (drop (length ((line ++ 10 ∷ q) ++ s) + 1)) (from_end line q s after)
      ∙ drop-append-add ((line ++ 10 ∷ q) ++ s) (10 ∷ after) 1

-- a record's text is cut into its parts
pub cut_of-text : (form : StoreForm) (place : ℕ) (line q s after : List ℕ) (h : Header) → is_one_line line ≡ true
    → header_of form place line ≡ Ok h
    → length q ≡ h.request → length s ≡ h.response
    → cut_of form place (parts_text line q s after) ≡ Ok (cut_after h.port (length line + 1) h.request h.response)
cut_of-text form place line q s after h one header q_long s_long =
    let text = parts_text line q s after in
    let cut = cut_after h.port (length line + 1) h.request h.response in
    let short : nat_lt cut.end (length text) ≡ true =
    lt-ltb cut.end (length text) (inside line q s after h.request h.response q_long s_long h.port) in
    let feed : (slice_index text cut.end == 10) ≡ true =
    ap (λ (x : ℕ). x == 10) (ended line q s after h.request h.response q_long s_long h.port) in
    ap (cut_by_line form place text) (position_such 10 line (q ++ (s ++ 10 ∷ after)) refl one)
    ∙ ap (λ (l : List ℕ). cut_by_header place text (length line + 1) (header_of form place l))
    (take-append_seam line (10 ∷ (q ++ (s ++ 10 ∷ after))))
    ∙ ap (cut_by_header place text (length line + 1)) header
    ∙ ap (λ (b : Bool). cond b (cond (slice_index text cut.end == 10) (Ok cut)
    (Err (errors.BadHeader (place + cut.end)))) (Err (errors.Truncated place))) short
    ∙ ap (λ (b : Bool). cond b (Ok cut) (Err (errors.BadHeader (place + cut.end)))) feed

-- ---- and what is cut is the text of its parts

pub record IsCut (form : StoreForm) (bytes : List ℕ) (cut : Cut) : Type 0 where
  pub text : bytes ≡ parts_text (header_line form cut.port (length (request_part cut bytes))
      (length (response_part cut bytes)))
      (request_part cut bytes) (response_part cut bytes) (drop (cut.end + 1) bytes)
  pub port : cut.port ≤ 65535
  pub own : HasPort form cut.port

by_end : (b c : Bool) (cut cut' : Cut) (e f : StoreError) → cond b (cond c (Ok cut) (Err e)) (Err f) ≡ Ok cut'
    → (b ≡ true) × (c ≡ true) × (cut ≡ cut')
by_end true true cut cut' e f is = (refl, refl, cc)
by_end true false cut cut' e f is = cc
by_end false c cut cut' e f is = cc

-- the bytes between two places, and those after
piece : (xs : List ℕ) (i j : ℕ) → i ≤ j → drop i xs ≡ take (j - i) (drop i xs) ++ drop j xs
piece xs i j le =
    let k : i + (j - i) ≡ j = omega arith in
    sym (take-append-drop (j - i) (drop i xs))
    ∙ ap (λ (ys : List ℕ). take (j - i) (drop i xs) ++ ys) (drop-drop (j - i) i xs ∙ ap (λ (n : ℕ). drop n xs) k)

piece_long : (xs : List ℕ) (i j : ℕ) → i ≤ j → j ≤ length xs → length (take (j - i) (drop i xs)) ≡ j - i
piece_long xs i j le fits = length-take-le (j - i) (drop i xs) (omega (arith, length-drop i xs))

parts_found : (form : StoreForm) (place : ℕ) (bytes : List ℕ) (n : ℕ) (h : Header) (cut : Cut)
    → position (λ byte. byte == 10) bytes ≡ Some n
    → header_of form place (take n bytes) ≡ Ok h → cut_at_header place bytes (n + 1) h ≡ Ok cut → IsCut form bytes cut
parts_found form place bytes n h cut at header is =
    let c = cut_after h.port (n + 1) h.request h.response in
    let t = by_end (nat_lt c.end (length bytes)) (slice_index bytes c.end == 10) c cut
    (errors.BadHeader (place + c.end)) (errors.Truncated place) is in
    let fits : c.end < length bytes = ltb-true c.end (length bytes) t.0 in
    let feed : get_or bytes c.end 0 ≡ 10 = let e : (get_or bytes c.end 0 == 10) ≡ true = t.1
    in grind (arith, nat_tests) in
    let found = is_header form place (take n bytes) h header in
    let q = request_part c bytes in
    let s = response_part c bytes in
    let m_is : h.request ≡ length q = let long = piece_long bytes c.request c.response (omega arith) (omega arith)
    in omega arith in
    let n_is : h.response ≡ length s = let long = piece_long bytes c.response c.end (omega arith) (omega arith)
    in omega arith in
    let line : take n bytes ≡ header_line form h.port (length q) (length s) =
    found.text ∙ ap (λ (k : ℕ). header_line form h.port k h.response) m_is
    ∙ ap (λ (k : ℕ). header_line form h.port (length q) k) n_is in
    let rest : drop (n + 1) bytes ≡ q ++ (s ++ 10 ∷ drop (c.end + 1) bytes) =
    piece bytes c.request c.response (omega arith)
    ∙ ap (λ (ys : List ℕ). q ++ ys) (piece bytes c.response c.end (omega arith)
    ∙ ap (λ (ys : List ℕ). s ++ ys) (drop_more bytes c.end 0 fits ∙ ap (λ (x : ℕ). x ∷ drop (c.end + 1) bytes) feed)) in
    let whole : IsCut form bytes c = record {
      text = cut_at_place 10 bytes n at ∙ ap (λ (l : List ℕ). l ++ 10 ∷ drop (n + 1) bytes) line
          ∙ ap (λ (ys : List ℕ). header_line form h.port (length q) (length s) ++ 10 ∷ ys) rest;
      port = found.port;
      own = found.own;
    } in
    subst (IsCut form bytes) t.2 whole

by_header : (form : StoreForm) (place : ℕ) (bytes : List ℕ) (n : ℕ) (cut : Cut) (r : Result Header StoreError)
    → position (λ byte. byte == 10) bytes ≡ Some n
    → header_of form place (take n bytes) ≡ r → cut_by_header place bytes (n + 1) r ≡ Ok cut → IsCut form bytes cut
by_header form place bytes n cut (Ok h) at header is = parts_found form place bytes n h cut at header is
by_header form place bytes n cut (Err e) at header is = cc

by_line : (form : StoreForm) (place : ℕ) (bytes : List ℕ) (cut : Cut) (o : Option ℕ)
    → position (λ byte. byte == 10) bytes ≡ o
    → cut_by_line form place bytes o ≡ Ok cut → IsCut form bytes cut
by_line form place bytes cut None at is = cc
by_line form place bytes cut (Some n) at is = by_header form place bytes n cut (header_of form place (take n bytes))
    at refl is

pub is_cut : (form : StoreForm) (place : ℕ) (bytes : List ℕ) (cut : Cut) → cut_of form place bytes ≡ Ok cut
    → IsCut form bytes cut
is_cut form place bytes cut is = by_line form place bytes cut (position (λ byte. byte == 10) bytes) refl is
