-- The refusals of a text, and the text of a log, which has none.
use Rattle.std.proofs.Common.{◌≡◌, ◌≢◌, ℕ, suc, ◌+◌, ◌≤◌, ◌++◌, ◌==◌, ◌&&◌, not, Bool, true, false, cond, List, [], ◌∷◌}
use Rattle.std.proofs.Common.{map, Option, Some, None, MatchResult, IfOk, Result, Ok, Err, refl, ap, sym, subst}
use Rattle.std.proofs.Common.{◌∙◌, arith, rules, append_assoc}
use Rattle.std.specs.List.{All}
use Rattle.std.specs.Fmt.{decimal}
use Rattle.std.specs.Str.{bytes_eq}
use Rattle.std.proofs.lemmas.Bool.{lt-leb}
use Rattle.std.proofs.lemmas.List.Elements.{All-cons}
use Rattle.std.proofs.lemmas.List.Splits.{slice_split_at}
use Rattle.std.proofs.lemmas.Slice.Eq.{bytes_eq-Decides}
use Rattle.text_base.specs.Lines.{is_one_line}
use Rattle.text_base.proofs.NumbersLemmas.{is_one_line-decimal}
use Rattle.text_base.proofs.TextLemmas.{is_one_line-append}
use Rattle.shell_log.specs.declared.entry.Entry.{Entry}
use Rattle.shell_log.specs.declared.entry.Entry.TheVariants.{Arrival, Opportunity, Departure, Drop}
use Rattle.shell_log.specs.declared.reading.LogError.{LogError}
use Rattle.shell_log.specs.declared.reading.LogError.TheVariants as errors
use Rattle.shell_log.specs.Entries.{IsEntry, IsShort, IsLog, AreFrom, moment_of}
use Rattle.shell_log.specs.View.{LogView}
use Rattle.shell_log.specs.Words.{parts_of}
use Rattle.shell_log.specs.LogText.{header, line_of, lines_text, log_text}
use Rattle.shell_log.specs.Reading.{entry_of, fault_of, moment_after, or_else, first_fault, fault_by_parts, log_fault}
use Rattle.shell_log.proofs.WordsLemmas.{some_part}
use Rattle.shell_log.proofs.LineLaws.{entry_of-line_of}

-- no byte of a line is a line feed
one_number : (sign : ℕ) (m n : ℕ) → not (sign == 10) ≡ true → IsShort m → IsShort n
    → is_one_line (decimal m ++ 32 ∷ sign ∷ 32 ∷ decimal n) ≡ true
one_number sign m n other short short' =
    is_one_line-append (decimal m) (32 ∷ sign ∷ 32 ∷ decimal n) (is_one_line-decimal m (omega arith))
    (ap (λ b. b && is_one_line (decimal n)) other ∙ is_one_line-decimal n (omega arith))

two_numbers : (sign : ℕ) (m n k : ℕ) → not (sign == 10) ≡ true → IsShort m → IsShort n → IsShort k
    → is_one_line (decimal m ++ 32 ∷ sign ∷ 32 ∷ (decimal n ++ 32 ∷ decimal k)) ≡ true
two_numbers sign m n k other short short' short'' =
    is_one_line-append (decimal m) (32 ∷ sign ∷ 32 ∷ (decimal n ++ 32 ∷ decimal k))
    (is_one_line-decimal m (omega arith))
    (ap (λ b. b && is_one_line (decimal n ++ 32 ∷ decimal k)) other
    ∙ is_one_line-append (decimal n) (32 ∷ decimal k) (is_one_line-decimal n (omega arith))
    (is_one_line-decimal k (omega arith)))

pub is_one_line-line_of : (e : Entry) → IsEntry e → is_one_line (line_of e) ≡ true
is_one_line-line_of (Arrival moment size) is = one_number 43 moment size refl is.0 (omega (arith, is.2))
is_one_line-line_of (Opportunity moment bytes) is = one_number 35 moment bytes refl is.0 (omega (arith, is.2))
is_one_line-line_of (Departure moment size delay) is = two_numbers 45 moment size delay refl is.0
    (omega (arith, is.2)) (omega (arith, is.0, is.3))
is_one_line-line_of (Drop moment packets bytes) is = two_numbers 100 moment packets bytes refl is.0 is.2 is.4

both : (a b : Bool) → (a && b) ≡ true → (a ≡ true) × (b ≡ true)
both true b e = (refl, e)
both false b e = cc

other_byte : (b : Bool) → not b ≡ true → b ≡ false
other_byte true e = cc
other_byte false e = refl

no_feed : (line : List ℕ) → is_one_line line ≡ true → All (λ byte. (byte == 10) ≡ false) line
no_feed line one = all_by_index line one
  where
    all_by_index : (line : List ℕ) → is_one_line line ≡ true → All (λ byte. (byte == 10) ≡ false) line
    all_by_index [] one = search rules
    all_by_index (x ∷ xs) one = let parts = both (not (x == 10)) (is_one_line xs) one
        in All-cons (λ (byte : ℕ). (byte == 10) ≡ false) x xs (other_byte (x == 10) parts.0) (all_by_index xs parts.1)

-- a line's part, its line feed, and what follows
pub parts_of-line : (line rest : List ℕ) → is_one_line line ≡ true → parts_of (line ++ 10 ∷ rest) ≡ line ∷ parts_of rest
parts_of-line line rest one = slice_split_at (λ (byte : ℕ). byte == 10) line 10 rest (no_feed line one) refl

pub parts_of-lines : (es : List Entry) → IsLog es → parts_of (lines_text es) ≡ map line_of es ++ [] ∷ []
parts_of-lines [] is = refl
parts_of-lines (e ∷ es) is =
    ap parts_of (append_assoc (line_of e) (10 ∷ []) (lines_text es))
    ∙ parts_of-line (line_of e) (lines_text es) (is_one_line-line_of e is.0)
    ∙ ap (λ ps. line_of e ∷ ps) (parts_of-lines es is.2)

-- the first refusal, after one more line
pub next_fault : (number low : ℕ) (line rest : List ℕ) → first_fault number low (line ∷ parts_of rest)
    ≡ or_else (fault_of number low (entry_of line))
    (first_fault (number + 1) (moment_after (entry_of line)) (parts_of rest))
next_fault number low line rest =
    let some = some_part rest in
    let Goal : List (List ℕ) → Type 0 = λ ps. first_fault number low (line ∷ ps) ≡ or_else
    (fault_of number low (entry_of line)) (first_fault (number + 1) (moment_after (entry_of line)) ps) in
    subst Goal (sym some.2) (not_last number low line some.0 some.1)
  where
    not_last : (number low : ℕ) (line next : List ℕ) (rest : List (List ℕ))
        → first_fault number low (line ∷ next ∷ rest)
        ≡ or_else (fault_of number low (entry_of line))
        (first_fault (number + 1) (moment_after (entry_of line)) (next ∷ rest))
    not_last number low [] next rest = refl
    not_last number low (byte ∷ bytes) next rest = refl

-- a line that is accepted
pub accepted : (number low : ℕ) (line rest : List ℕ) (e : Entry) → entry_of line ≡ Some e → low ≤ moment_of e
    → first_fault number low (line ∷ parts_of rest) ≡ first_fault (number + 1) (moment_of e) (parts_of rest)
accepted number low line rest e said le =
    next_fault number low line rest
    ∙ ap (λ (o : Option Entry). or_else (fault_of number low o)
    (first_fault (number + 1) (moment_after o) (parts_of rest))) said
    ∙ ap (λ b. or_else (cond b (Some (errors.Backwards number)) None)
    (first_fault (number + 1) (moment_of e) (parts_of rest))) (lt-leb (suc (moment_of e)) low (omega arith))

-- and one that is refused
pub refused_line : (number low : ℕ) (line rest : List ℕ) (fault : LogError)
    → fault_of number low (entry_of line) ≡ Some fault
    → first_fault number low (line ∷ parts_of rest) ≡ Some fault
refused_line number low line rest fault is =
    next_fault number low line rest
    ∙ ap (λ (o : Option LogError). or_else o
    (first_fault (number + 1) (moment_after (entry_of line)) (parts_of rest))) is

-- the lines of a log have no refusal
lines_no_fault : (number low : ℕ) (es : List Entry) → IsLog es → AreFrom low es
    → first_fault number low (parts_of (lines_text es)) ≡ None
lines_no_fault number low [] is from = refl
lines_no_fault number low (e ∷ es) is from =
    ap (λ (t : List ℕ). first_fault number low (parts_of t)) (append_assoc (line_of e) (10 ∷ []) (lines_text es))
    ∙ ap (first_fault number low) (parts_of-line (line_of e) (lines_text es) (is_one_line-line_of e is.0))
    ∙ accepted number low (line_of e) (lines_text es) e (entry_of-line_of e is.0) from.0
    ∙ lines_no_fault (number + 1) (moment_of e) es is.2 is.1

parts_of-log : (es : List Entry) → parts_of (log_text es) ≡ header ∷ parts_of (lines_text es)
parts_of-log es = parts_of-line header (lines_text es) refl

by_header : (first rest : List ℕ) → bytes_eq first header ≡ true
    → fault_by_parts (first ∷ parts_of rest) ≡ first_fault 2 0 (parts_of rest)
by_header first rest same =
    let some = some_part rest in
    let Goal : List (List ℕ) → Type 0 = λ ps. fault_by_parts (first ∷ ps) ≡ first_fault 2 0 ps in
    subst Goal (sym some.2) (ap (λ b. cond b (first_fault 2 0 (some.0 ∷ some.1)) (Some errors.BadHeader)) same)

-- after the first line
pub after_header : (text first rest : List ℕ) → parts_of text ≡ first ∷ parts_of rest → first ≡ header
    → log_fault text ≡ first_fault 2 0 (parts_of rest)
after_header text first rest parts same = ap fault_by_parts parts
    ∙ by_header first rest ((bytes_eq-Decides first header).1 same)

pub from_zero : (es : List Entry) → AreFrom 0 es
from_zero [] = tt
from_zero (e ∷ es) = (omega arith, from_zero es)

-- the text of a log has no refusal
pub log_no_fault : (es : List Entry) → IsLog es → log_fault (log_text es) ≡ None
log_no_fault es is = after_header (log_text es) header (lines_text es) (parts_of-log es) refl
    ∙ lines_no_fault 2 0 es is (from_zero es)

same_lines : (xs ys : List Entry) → IsLog xs → IsLog ys → map line_of xs ++ [] ∷ [] ≡ map line_of ys ++ [] ∷ []
    → xs ≡ ys
same_lines [] [] is is' e = refl
same_lines [] (y ∷ ys) is is' e = absurd (longer (line_of y) ys e)
  where
    longer : (l : List ℕ) (ys : List Entry) → [] ∷ [] ≡ l ∷ (map line_of ys ++ [] ∷ []) → ⊥
    longer l [] e = cc
    longer l (z ∷ zs) e = cc
same_lines (x ∷ xs) [] is is' e = absurd (shorter (line_of x) xs e)
  where
    shorter : (l : List ℕ) (xs : List Entry) → l ∷ (map line_of xs ++ [] ∷ []) ≡ [] ∷ [] → ⊥
    shorter l [] e = cc
    shorter l (z ∷ zs) e = cc
same_lines (x ∷ xs) (y ∷ ys) is is' e =
    let first : line_of x ≡ line_of y = cc in
    let rest : map line_of xs ++ [] ∷ [] ≡ map line_of ys ++ [] ∷ [] = cc in
    let said : Some x ≡ Some y = sym (entry_of-line_of x is.0) ∙ ap entry_of first ∙ entry_of-line_of y is'.0 in
    let same : x ≡ y = cc in
    ap (λ z. z ∷ xs) same ∙ ap (λ l. y ∷ l) (same_lines xs ys is.2 is'.2 rest)

pub same_log : (text : List ℕ) (xs ys : List Entry) → IsLog xs → IsLog ys → text ≡ log_text xs → text ≡ log_text ys
    → xs ≡ ys
same_log text xs ys is is' e f =
    let parts : header ∷ parts_of (lines_text xs) ≡ header ∷ parts_of (lines_text ys) = sym (parts_of-log xs)
    ∙ ap parts_of (sym e ∙ f) ∙ parts_of-log ys in
    let rest : parts_of (lines_text xs) ≡ parts_of (lines_text ys) = tails parts in
    same_lines xs ys is is' (sym (parts_of-lines xs is) ∙ rest ∙ parts_of-lines ys is')
  where
    tails : {a b : List ℕ} {xs ys : List (List ℕ)} → a ∷ xs ≡ b ∷ ys → xs ≡ ys
    tails e = cc

-- so a text of a log is refused only where memory runs out
pub only_memory : (text : List ℕ) (es : List Entry) (fault : LogError) → IsLog es → text ≡ log_text es
    → (fault ≢ errors.OutOfMemory → log_fault text ≡ Some fault) → fault ≡ errors.OutOfMemory
only_memory text es errors.BadHeader is e h = let none = log_no_fault es is in let some = h (λ q. cc)
    in let same = ap log_fault e in cc
only_memory text es (errors.BadLine line) is e h = let none = log_no_fault es is in let some = h (λ q. cc)
    in let same = ap log_fault e in cc
only_memory text es (errors.Backwards line) is e h = let none = log_no_fault es is in let some = h (λ q. cc)
    in let same = ap log_fault e in cc
only_memory text es errors.OutOfMemory is e h = refl

-- one more entry
pub log_text_more : (es : List Entry) (e : Entry) (rest : List ℕ) → log_text es
    ++ (line_of e ++ 10 ∷ rest) ≡ log_text (es ++ e ∷ []) ++ rest
log_text_more es e rest =
    let lines = lines_more es e rest in ap (λ (l : List ℕ). header ++ 10 ∷ l) lines
  where
    lines_more : (es : List Entry) (e : Entry) (rest : List ℕ) → lines_text es
        ++ (line_of e ++ 10 ∷ rest) ≡ lines_text (es ++ e ∷ []) ++ rest
    lines_more [] e rest = sym (append_assoc (line_of e ++ 10 ∷ []) [] rest ∙ append_assoc (line_of e) (10 ∷ []) rest)
    lines_more (d ∷ es) e rest =
        append_assoc (line_of d ++ 10 ∷ []) (lines_text es) (line_of e ++ 10 ∷ rest)
        ∙ ap (λ (l : List ℕ). (line_of d ++ 10 ∷ []) ++ l) (lines_more es e rest)
        ∙ sym (append_assoc (line_of d ++ 10 ∷ []) (lines_text (es ++ e ∷ [])) rest)

-- what the call answers
pub every_text : (text : List ℕ) (result : Result LogView LogError)
    → IfOk result (λ log. text ≡ log_text log.entries) → IfOk result (λ log. IsLog log.entries)
    → MatchResult result (λ _. log_fault text ≡ None) (λ e. e ≢ errors.OutOfMemory → log_fault text ≡ Some e)
    → (es : List Entry) → IsLog es → text ≡ log_text es
    → MatchResult result (λ log. log.entries ≡ es) (λ e. e ≡ errors.OutOfMemory)
every_text text (Ok log) found is exact es is' e = same_log text log.entries es is is' found e
every_text text (Err fault) found is exact es is' e = only_memory text es fault is' e exact
