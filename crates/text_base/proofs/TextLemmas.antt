-- What is printed line by line is read line by line.
use Rattle.std.proofs.Common.{◌≡◌, ◌≢◌, ℕ, ◌<◌, List, [], ◌∷◌, ◌++◌, length, map, Bool, true, false, cond, not, ◌&&◌}
use Rattle.std.proofs.Common.{eqb, append_assoc, refl, ap, sym, ◌∙◌, arith, rules}
use Rattle.std.specs.List.{onto_first, list_all, flat_map}
use Rattle.text_base.specs.Lines.{lines_of, is_ended}
use Rattle.text_base.specs.Lines.{is_one_line}
use Rattle.text_base.specs.inside.Lines.{text_of_lines}

both_true : (a b : Bool) → (a && b) ≡ true → (a ≡ true) × (b ≡ true)
both_true true b e = (refl, e)
both_true false b e = search rules

both_are : (a b : Bool) → a ≡ true → b ≡ true → (a && b) ≡ true
both_are a b p q = ap (λ x. x && b) p ∙ q

not_true : (a : Bool) → not a ≡ true → a ≡ false
not_true true e = search rules
not_true false e = refl

-- one line, its line feed, and what follows
pub lines_of-line : (line rest : List ℕ) → is_one_line line ≡ true → lines_of (line ++ 10 ∷ rest) ≡ line ∷ lines_of rest
lines_of-line [] rest one = refl
lines_of-line (byte ∷ bytes) rest one =
    let parts = both_true (not (eqb byte 10)) (is_one_line bytes) one in
    ap (λ b. cond b ([] ∷ lines_of (bytes ++ 10 ∷ rest)) (onto_first byte (lines_of (bytes ++ 10 ∷ rest))))
    (not_true (eqb byte 10) parts.0)
    ∙ ap (onto_first byte) (lines_of-line bytes rest parts.1)

-- a line that no line feed ends
pub lines_of-last : (line : List ℕ) → is_one_line line ≡ true → 0 < length line → lines_of line ≡ line ∷ []
lines_of-last [] one some = absurd (omega arith)
lines_of-last (byte ∷ []) one some =
    let parts = both_true (not (eqb byte 10)) true one in
    ap (λ b. cond b ([] ∷ []) ((byte ∷ []) ∷ [])) (not_true (eqb byte 10) parts.0)
lines_of-last (byte ∷ next ∷ bytes) one some =
    let parts = both_true (not (eqb byte 10)) (is_one_line (next ∷ bytes)) one in
    ap (λ b. cond b ([] ∷ lines_of (next ∷ bytes)) (onto_first byte (lines_of (next ∷ bytes))))
    (not_true (eqb byte 10) parts.0)
    ∙ ap (onto_first byte) (lines_of-last (next ∷ bytes) parts.1 (omega arith))

-- lines that are printed one after another, and what follows
pub lines_of-printed_append : {X : Type 0} (line_of : X → List ℕ) (xs : List X) (rest : List ℕ)
    → list_all (λ x. is_one_line (line_of x)) xs ≡ true
    → lines_of (flat_map (λ x. line_of x ++ 10 ∷ []) xs ++ rest) ≡ map line_of xs ++ lines_of rest
lines_of-printed_append line_of [] rest one = refl
lines_of-printed_append line_of (x ∷ xs) rest one =
    let parts = both_true (is_one_line (line_of x)) (list_all (λ y. is_one_line (line_of y)) xs) one in
    ap lines_of (append_assoc (line_of x ++ 10 ∷ []) (flat_map (λ y. line_of y ++ 10 ∷ []) xs) rest
    ∙ append_assoc (line_of x) (10 ∷ []) (flat_map (λ y. line_of y ++ 10 ∷ []) xs ++ rest))
    ∙ lines_of-line (line_of x) (flat_map (λ y. line_of y ++ 10 ∷ []) xs ++ rest) parts.0
    ∙ ap (λ ls. line_of x ∷ ls) (lines_of-printed_append line_of xs rest parts.1)

-- lines that are printed one after another
pub lines_of-printed : {X : Type 0} (line_of : X → List ℕ) (xs : List X)
    → list_all (λ x. is_one_line (line_of x)) xs ≡ true
    → lines_of (flat_map (λ x. line_of x ++ 10 ∷ []) xs) ≡ map line_of xs
lines_of-printed line_of [] one = refl
lines_of-printed line_of (x ∷ xs) one =
    let parts = both_true (is_one_line (line_of x)) (list_all (λ y. is_one_line (line_of y)) xs) one in
    ap lines_of (append_assoc (line_of x) (10 ∷ []) (flat_map (λ y. line_of y ++ 10 ∷ []) xs))
    ∙ lines_of-line (line_of x) (flat_map (λ y. line_of y ++ 10 ∷ []) xs) parts.0
    ∙ ap (λ ls. line_of x ∷ ls) (lines_of-printed line_of xs parts.1)

-- the text of these lines has these lines
pub lines_of-text_of_lines : (lines : List (List ℕ)) → list_all is_one_line lines ≡ true
    → lines_of (text_of_lines lines) ≡ lines
lines_of-text_of_lines [] one = refl
lines_of-text_of_lines (line ∷ lines) one =
    let parts = both_true (is_one_line line) (list_all is_one_line lines) one in
    ap lines_of (append_assoc line (10 ∷ []) (text_of_lines lines))
    ∙ lines_of-line line (text_of_lines lines) parts.0
    ∙ ap (λ ls. line ∷ ls) (lines_of-text_of_lines lines parts.1)

onto_first_one : (byte : ℕ) (lines : List (List ℕ)) → eqb byte 10 ≡ false → list_all is_one_line lines ≡ true
    → list_all is_one_line (onto_first byte lines) ≡ true
onto_first_one byte [] other one = ap (λ b. (not b && true) && true) other
onto_first_one byte (line ∷ lines) other one = ap (λ b. (not b && is_one_line line) && list_all is_one_line lines)
    other ∙ one

-- no line of a text has a line feed
pub lines_of-one : (text : List ℕ) → list_all is_one_line (lines_of text) ≡ true
lines_of-one [] = refl
lines_of-one (byte ∷ bytes) =
    elim (eqb byte 10) as (λ b. eqb byte 10 ≡ b
    → list_all is_one_line (cond b ([] ∷ lines_of bytes) (onto_first byte (lines_of bytes))) ≡ true) [
      | true ↦ λ e. lines_of-one bytes
      | false ↦ λ e. onto_first_one byte (lines_of bytes) e (lines_of-one bytes)
    ] refl

some_onto : (byte : ℕ) (lines : List (List ℕ)) → onto_first byte lines ≢ []
some_onto byte [] = λ e. cc
some_onto byte (line ∷ lines) = λ e. cc

some_lines : (byte : ℕ) (bytes : List ℕ) → lines_of (byte ∷ bytes) ≢ []
some_lines byte bytes =
    elim (eqb byte 10) as (λ b. cond b ([] ∷ lines_of bytes) (onto_first byte (lines_of bytes)) ≢ []) [
      | true ↦ λ e. cc
      | false ↦ some_onto byte (lines_of bytes)
    ]

onto_first_text : (byte : ℕ) (lines : List (List ℕ)) → lines ≢ []
    → text_of_lines (onto_first byte lines) ≡ byte ∷ text_of_lines lines
onto_first_text byte [] some = absurd (some refl)
onto_first_text byte (line ∷ lines) some = refl

-- a text whose last line is ended is the text of its lines
pub text_of_lines-lines_of : (text : List ℕ) → is_ended text ≡ true → text_of_lines (lines_of text) ≡ text
text_of_lines-lines_of [] ended = refl
text_of_lines-lines_of (byte ∷ []) ended =
    let feed : byte ≡ 10 = search rules in
    ap (λ b. text_of_lines (cond b ([] ∷ []) ((byte ∷ []) ∷ []))) ended ∙ ap (λ b. b ∷ []) (sym feed)
text_of_lines-lines_of (byte ∷ next ∷ rest) ended =
    elim (eqb byte 10) as (λ b. eqb byte 10 ≡ b
    → text_of_lines (cond b ([] ∷ lines_of (next ∷ rest)) (onto_first byte (lines_of (next ∷ rest)))) ≡ byte ∷
    next ∷ rest) [
      | true ↦ λ e. let feed : byte ≡ 10 = search rules in
          ap (λ t. 10 ∷ t) (text_of_lines-lines_of (next ∷ rest) ended) ∙ ap (λ b. b ∷ next ∷ rest) (sym feed)
      | false ↦ λ e. onto_first_text byte (lines_of (next ∷ rest)) (some_lines next rest)
          ∙ ap (λ t. byte ∷ t) (text_of_lines-lines_of (next ∷ rest) ended)
    ] refl

-- pieces without a line feed make a line
pub is_one_line-append : (a b : List ℕ) → is_one_line a ≡ true → is_one_line b ≡ true → is_one_line (a ++ b) ≡ true
is_one_line-append [] b p q = q
is_one_line-append (byte ∷ bytes) b p q =
    let parts = both_true (not (eqb byte 10)) (is_one_line bytes) p in
    both_are (not (eqb byte 10)) (is_one_line (bytes ++ b)) parts.0 (is_one_line-append bytes b parts.1 q)

-- what a line feed ends
pub is_ended_line : (line : List ℕ) → is_ended (line ++ 10 ∷ []) ≡ true
is_ended_line [] = refl
is_ended_line (byte ∷ []) = refl
is_ended_line (byte ∷ next ∷ rest) = is_ended_line (next ∷ rest)
