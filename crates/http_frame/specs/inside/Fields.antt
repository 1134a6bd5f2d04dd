-- For proofs alone: which fields of a head matter, and the values that a map of their spans holds.
use Rattle.std.specs.Prelude.{◌≡◌, ◌||◌, ℕ, Bool, true, List, codes, length, map}
use Rattle.std.specs.List.{All}
use Rattle.std.specs.Str.{bytes_eq}
use Rattle.http_header.specs.HeaderMap.{Entries, get_all}
use Rattle.httparse.specs.declared.spans.Span.{Span}
use Rattle.httparse.specs.declared.spans.HeaderSpan.{HeaderSpan}
use Rattle.httparse.specs.Spans.{header_bytes, span_bytes, IsWithin}
use Rattle.http_frame.specs.Fields.{values_of}

-- The name, in lower case, is of a field that decides what a head says or where its message ends.
abbrev pub is_wanted : List ℕ → Bool
is_wanted name =
    bytes_eq name (codes "host") || bytes_eq name (codes "user-agent") || bytes_eq name (codes "connection") ||
    bytes_eq name (codes "content-length")
    || bytes_eq name (codes "transfer-encoding")

-- The values of the name. The spans point into `front`.
abbrev pub values_in : List ℕ → Entries Span → List ℕ → List (List ℕ)
values_in front fields name = map (span_bytes front) (get_all fields name)

-- All spans of the map are within `front`.
abbrev pub AreWithin : List ℕ → Entries Span → Type 0
AreWithin front fields = (name : List ℕ) → All (IsWithin (length front)) (get_all fields name)

-- The map has the values of the fields that matter, by name.
abbrev pub HasFields : List ℕ → List HeaderSpan → Entries Span → Type 0
HasFields front headers fields = (name : List ℕ) → is_wanted name ≡ true
    → values_in front fields name ≡ values_of name (map (header_bytes front) headers)
