-- What the rules on framing say, by the fields that there are.
use Rattle.std.proofs.Common.{◌≡◌, ◌≢◌, ◌∙◌, ◌≤◌, ℕ, Bool, true, false, List, [], ◌∷◌, map, refl, sym, ap, cond, arith}
use Rattle.std.proofs.Common.{Ok, Err, Some, None, is_some}
use Rattle.std.specs.Prelude.{Option, option_map, slice_get, unwrap_or, codes}
use Rattle.std.specs.List.{list_all}
use Rattle.std.specs.Str.{bytes_eq}
use Rattle.std.specs.Str.Parse.{digits_value}
use Rattle.std.proofs.lemmas.Bool.Decides.{nat_tests}
use Rattle.httparse.specs.declared.spans.Span.{Span}
use Rattle.httparse.specs.Spans.{span_bytes}
use Rattle.http_frame.specs.Framing.{request_rule, response_rule, length_rule, states, is_chunked}
use Rattle.http_frame.specs.Framing.{has_no_body, is_refused_status}
use Rattle.http_frame.specs.declared.errors.FrameError.TheVariants.{BadCoding, BadLength, Refused}
use Rattle.http_frame.specs.declared.framing.Framing.{Framing}
use Rattle.http_frame.specs.declared.framing.Framing.TheVariants.{Length, Chunked, ToEnd}

-- whether a look-up finds a field
pub has_field : {A : Type 0} (f : A → Span) (found : Option A) (fields : List Span) (b : Bool)
    → option_map f found ≡ slice_get fields 0 → is_some found ≡ b → is_some (slice_get fields 0) ≡ b
has_field f None fields b same is = sym (ap is_some same) ∙ is
has_field f (Some x) fields b same is = sym (ap is_some same) ∙ is

-- ---- lengths

pub length_by_first : (buf : List ℕ) (all : List Span) (first : Span) (number : ℕ) (other : Framing)
    → Some first ≡ slice_get all 0 → number ≡ digits_value 10 (span_bytes buf first)
    → cond (list_all (states number) (map (span_bytes buf) all)) (Ok (Length number)) (Err BadLength)
    ≡ length_rule (map (span_bytes buf) all) other
length_by_first buf [] first number other e is = cc
length_by_first buf (x ∷ xs) first number other e is =
    let same : first ≡ x = ap (λ o. unwrap_or o first) e in
    ap (λ (n : ℕ). cond (list_all (states n) (map (span_bytes buf) (x ∷ xs))) (Ok (Length n)) (Err BadLength))
    (is ∙ ap (λ (s : Span). digits_value 10 (span_bytes buf s)) same)

-- ---- requests

pub connect_refused : (method : List ℕ) (cs ls : List (List ℕ)) → bytes_eq method (codes "CONNECT") ≡ true
    → Err Refused ≡ request_rule method cs ls
connect_refused method [] ls is = rw is refl
connect_refused method (c ∷ cs) [] is = rw is refl
connect_refused method (c ∷ cs) (l ∷ ls) is = rw is refl

module _ (buf method : List ℕ) (other : bytes_eq method (codes "CONNECT") ≡ false) where
  pub request_by_length : (cs ls : List Span) → is_some (slice_get cs 0) ≡ false
      → length_rule (map (span_bytes buf) ls) (Length 0)
      ≡ request_rule method (map (span_bytes buf) cs) (map (span_bytes buf) ls)
  request_by_length [] ls none = rw other refl
  request_by_length (c ∷ cs) ls none = cc

  pub request_by_both : (cs ls : List Span) → is_some (slice_get cs 0) ≡ true → is_some (slice_get ls 0) ≡ true
      → Err BadCoding ≡ request_rule method (map (span_bytes buf) cs) (map (span_bytes buf) ls)
  request_by_both [] ls some also = cc
  request_by_both (c ∷ cs) [] some also = cc
  request_by_both (c ∷ cs) (l ∷ ls) some also = rw other refl

  pub request_by_coding : (cs ls : List Span) → is_some (slice_get cs 0) ≡ true → is_some (slice_get ls 0) ≡ false
      → cond (is_chunked (map (span_bytes buf) cs)) (Ok Chunked) (Err BadCoding)
      ≡ request_rule method (map (span_bytes buf) cs) (map (span_bytes buf) ls)
  request_by_coding [] ls some none = cc
  request_by_coding (c ∷ cs) [] some none = rw other refl
  request_by_coding (c ∷ cs) (l ∷ ls) some none = cc

-- ---- responses

pub status_passes : (status : ℕ) → 100 ≤ status → status ≢ 101 → is_refused_status status ≡ false
status_passes status low other = grind (arith, nat_tests)

pub has_body : (to_head : Bool) (status : ℕ) → to_head ≡ false → 200 ≤ status → status ≢ 204 → status ≢ 304
    → has_no_body to_head status ≡ false
has_body to_head status none low other another = rw none (grind (arith, nat_tests))

module _ (buf : List ℕ) (to_head : Bool) (status : ℕ) (passes : is_refused_status status ≡ false)
    (body : has_no_body to_head status ≡ false) where
  pub response_by_length : (cs ls : List Span) → is_some (slice_get cs 0) ≡ false
      → length_rule (map (span_bytes buf) ls) ToEnd
      ≡ response_rule to_head status (map (span_bytes buf) cs) (map (span_bytes buf) ls)
  response_by_length [] ls none = rw (passes, body) refl
  response_by_length (c ∷ cs) ls none = cc

  pub response_by_coding : (cs ls : List Span) → is_some (slice_get cs 0) ≡ true
      → cond (is_chunked (map (span_bytes buf) cs)) (Ok Chunked) (Err BadCoding)
      ≡ response_rule to_head status (map (span_bytes buf) cs) (map (span_bytes buf) ls)
  response_by_coding [] ls some = cc
  response_by_coding (c ∷ cs) ls some = rw (passes, body) refl
