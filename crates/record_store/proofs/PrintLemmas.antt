-- Pieces that are written one after another.
use Rattle.std.proofs.Common.{true, false, Bool, arith, length-append, ◌≡◌, ◌∙◌, ◌++◌, ℕ, ◌+◌, ◌<◌, List, [], ◌∷◌}
use Rattle.std.proofs.Common.{length, take, get_or, Ok, Err, sym, ap, append_assoc}
use Rattle.std.specs.Prelude.{Result, OnOk}
use Rattle.std.proofs.lemmas.List.{take_more, flat_map_more}
use Rattle.record_store.specs.StoreText.{magic, record_text, records_text, store_text}
use Rattle.record_store.specs.Headers.{header_line}
use Rattle.record_store.specs.views.Pieces.{text_left}
use Rattle.record_store.specs.declared.header.StoreForm.TheVariants.{Two}
use Rattle.record_store.specs.declared.record.Record.{Record}

pub on_ok : {X E : Type 0} (r : Result X E) (P Q : Type 0) → (P → Q) → OnOk r P → OnOk r Q
on_ok (Ok x) P Q f p = f p
on_ok (Err e) P Q f p = p

-- a name, a number, a space, and the rest
pub header_pieces : (out name port rest : List ℕ) → ((out ++ name) ++ port ++ 32 ∷ []) ++ rest ≡ out
    ++ (name ++ (port ++ 32 ∷ rest))
header_pieces out name port rest =
    append_assoc ((out ++ name) ++ port) (32 ∷ []) rest ∙ append_assoc (out ++ name) port (32 ∷ rest)
    ∙ append_assoc out name (port ++ 32 ∷ rest)

-- a line, a request, a response and a line feed
pub record_pieces : (out line q s : List ℕ) → ((((out ++ line) ++ 10 ∷ []) ++ q) ++ s) ++ 10 ∷ [] ≡ out
    ++ (line ++ 10 ∷ (q ++ (s ++ 10 ∷ [])))
record_pieces out line q s =
    append_assoc (((out ++ line) ++ 10 ∷ []) ++ q) s (10 ∷ [])
    ∙ append_assoc ((out ++ line) ++ 10 ∷ []) q (s ++ 10 ∷ [])
    ∙ append_assoc (out ++ line) (10 ∷ []) (q ++ (s ++ 10 ∷ []))
    ∙ append_assoc out line (10 ∷ (q ++ (s ++ 10 ∷ [])))

-- a record more
pub record_more : (rs : List Record) (i : ℕ) (r : Record) (out next : List ℕ) → i < length rs → r ≡ get_or rs i r
    → out ≡ store_text Two (take i rs)
    → next ≡ out ++ record_text Two r → next ≡ store_text Two (take (i + 1) rs)
record_more rs i r out next within read so_far added =
    added ∙ ap (λ (l : List ℕ). l ++ record_text Two r) so_far
    ∙ flat_map_more (record_text Two) (magic Two) (take i rs) r
    ∙ ap (store_text Two) (ap (λ (x : Record). take i rs ++ x ∷ []) read ∙ sym (take_more rs i r within))

-- ---- texts that aren't empty

pub record_some : (r : Record) → 0 < length (record_text Two r)
record_some r =
    let line = header_line Two r.port (length r.request.bytes) (length r.response.bytes) in
    omega (arith, length-append line (10 ∷ (r.request.bytes ++ (r.response.bytes ++ 10 ∷ []))))

pub records_some : (rs : List Record) → 0 < length rs → 0 < length (records_text Two rs)
records_some [] some = absurd (omega (arith, some))
records_some (r ∷ rs) some = omega (arith, record_some r, length-append (record_text Two r) (records_text Two rs))

pub left_some : (begun : Bool) (rs : List Record) → 0 < length rs → 0 < length (text_left begun rs)
left_some true rs some = records_some rs some
left_some false rs some = omega (arith, length-append (magic Two) (records_text Two rs))
