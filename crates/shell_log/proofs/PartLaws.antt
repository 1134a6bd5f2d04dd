-- What reading the front of a text comes to, a line or a part of one at a time.
use Rattle.std.proofs.Common.{◌≡◌, ◌≢◌, ℕ, suc, ◌+◌, ◌-◌, ◌≤◌, ◌<◌, ◌++◌, ◌==◌, ◌&&◌, not, Bool, true, false, cond}
use Rattle.std.proofs.Common.{List, [], ◌∷◌, length, Option, Some, None, MatchOption, IfSome, IfNone, is_some, refl, ap}
use Rattle.std.proofs.Common.{sym, subst, ◌∙◌, arith, append_assoc, length-append}
use Rattle.std.specs.Prelude.{fold}
use Rattle.std.specs.Fmt.{decimal}
use Rattle.std.specs.List.{onto_first}
use Rattle.std.specs.Str.{bytes_eq}
use Rattle.std.proofs.lemmas.Fmt.{length-decimal-le}
use borrow.Author.Tests.{eqb-true}
use Rattle.std.proofs.lemmas.List.{append-nil}
use Rattle.std.proofs.lemmas.Slice.Eq.{bytes_eq-Decides}
use Rattle.text_base.specs.Lines.{is_one_line}
use Rattle.text_base.proofs.TextLemmas.{is_one_line-append}
use Rattle.shell_log.specs.declared.entry.Entry.{Entry}
use Rattle.shell_log.specs.declared.entry.Entry.TheVariants.{Arrival, Opportunity, Departure, Drop}
use Rattle.shell_log.specs.declared.reading.LogError.{LogError}
use Rattle.shell_log.specs.declared.reading.LogError.TheVariants as errors
use Rattle.shell_log.specs.Entries.{IsEntry, IsShort, IsLog, AreFrom, AreUpTo, moment_of}
use Rattle.shell_log.specs.Words.{parts_of}
use Rattle.shell_log.specs.LogText.{header, line_of, lines_text, log_text}
use Rattle.shell_log.specs.Reading.{entry_of, fault_of, moment_after, or_else, first_fault, fault_by_parts, log_fault}
use Rattle.shell_log.specs.LogParts.{LogPart, last_moment, lines_before, IsRead, IsFault, IsLeft}
use Rattle.shell_log.specs.inside.LogParts.{IsRefusing, KeepsLine, with_entry, keeping, bad_line}
use Rattle.shell_log.proofs.WordsLemmas.{some_part}
use Rattle.shell_log.proofs.LineLaws.{entry_of-line_of, line_of-entry_of}
use Rattle.shell_log.proofs.LogLemmas.{log_push}
use Rattle.shell_log.proofs.FaultLaws.{is_one_line-line_of, parts_of-line, accepted, refused_line, after_header}
use Rattle.shell_log.proofs.FaultLaws.{from_zero, log_no_fault, log_text_more}

-- the refusals of lines after those of a log
skip_lines : (number low : ℕ) (es : List Entry) (tail : List ℕ) → IsLog es → AreFrom low es
    → first_fault number low (parts_of (lines_text es ++ tail)) ≡ first_fault (number + length es)
    (fold (λ moment e. moment_of e) low es) (parts_of tail)
skip_lines number low [] tail is from = ap (λ (n : ℕ). first_fault n low (parts_of tail))
    (let e : number ≡ number + 0 = omega arith in e)
skip_lines number low (e ∷ es) tail is from =
    let last = fold (λ moment d. moment_of d) (moment_of e) es in
    ap (λ (t : List ℕ). first_fault number low (parts_of t)) (append_assoc (line_of e ++ 10 ∷ []) (lines_text es) tail
    ∙ append_assoc (line_of e) (10 ∷ []) (lines_text es ++ tail))
    ∙ ap (first_fault number low) (parts_of-line (line_of e) (lines_text es ++ tail) (is_one_line-line_of e is.0))
    ∙ accepted number low (line_of e) (lines_text es ++ tail) e (entry_of-line_of e is.0) from.0
    ∙ skip_lines (number + 1) (moment_of e) es tail is.2 is.1
    ∙ ap (λ (n : ℕ). first_fault n last (parts_of tail)) (let e : number + 1 + length es ≡ number + suc (length es) =
    omega arith in e)

log_skip : (es : List Entry) (tail : List ℕ) → IsLog es
    → log_fault (log_text es ++ tail) ≡ first_fault (length es + 2) (last_moment es) (parts_of tail)
log_skip es tail is =
    after_header (log_text es ++ tail) header (lines_text es ++ tail)
    (parts_of-line header (lines_text es ++ tail) refl) refl
    ∙ skip_lines 2 0 es tail is (from_zero es)
    ∙ ap (λ (n : ℕ). first_fault n (last_moment es) (parts_of tail)) (let e : 2 + length es ≡ length es + 2 =
    omega arith in e)

-- a line that has begun, and what follows
parts_of-begun : (begun rest w : List ℕ) (ws : List (List ℕ)) → is_one_line begun ≡ true → parts_of rest ≡ w ∷ ws
    → parts_of (begun ++ rest) ≡ (begun ++ w) ∷ ws
parts_of-begun [] rest w ws one parts = parts
parts_of-begun (x ∷ xs) rest w ws one parts =
    let both = halves (x == 10) (is_one_line xs) one in
    ap (λ (b : Bool). cond b ([] ∷ parts_of (xs ++ rest)) (onto_first x (parts_of (xs ++ rest)))) both.0
    ∙ ap (onto_first x) (parts_of-begun xs rest w ws both.1 parts)
  where
    halves : (a b : Bool) → (not a && b) ≡ true → (a ≡ false) × (b ≡ true)
    halves true b e = cc
    halves false b e = (refl, e)

-- the longest line
short_number : (n : ℕ) → IsShort n → length (decimal n) ≤ 10
short_number n short = length-decimal-le 10 n (omega arith) (omega arith) (omega arith)

length-line_of : (e : Entry) → IsEntry e → length (line_of e) ≤ 34
length-line_of (Arrival moment size) is =
    let a = short_number moment is.0 in
    let b = short_number size (omega (arith, is.2)) in
    simp length-append (omega arith)
length-line_of (Opportunity moment bytes) is =
    let a = short_number moment is.0 in
    let b = short_number bytes (omega (arith, is.2)) in
    simp length-append (omega arith)
length-line_of (Departure moment size delay) is =
    let a = short_number moment is.0 in
    let b = short_number size (omega (arith, is.2)) in
    let c = short_number delay (omega (arith, is.0, is.3)) in
    simp length-append (omega arith)
length-line_of (Drop moment packets bytes) is =
    let a = short_number moment is.0 in
    let b = short_number packets is.2 in
    let c = short_number bytes is.4 in
    simp length-append (omega arith)

no_entry : (line : List ℕ) (o : Option Entry) → entry_of line ≡ o → 34 < length line → entry_of line ≡ None
no_entry line None said long = said
no_entry line (Some e) said long =
    let is = line_of-entry_of line e said in
    let short = length-line_of e is.1 in
    let same = ap length is.0 in
    absurd (omega arith)

-- a line of which so much has begun says nothing, however it goes on
too_long : (number low : ℕ) (line : List ℕ) (ws : List (List ℕ)) → 34 < length line
    → first_fault number low (line ∷ ws) ≡ Some (errors.BadLine number)
too_long number low [] ws long = absurd (omega arith)
too_long number low (x ∷ xs) [] long = refl
too_long number low (x ∷ xs) (w ∷ ws) long =
    ap (λ (o : Option Entry). or_else (fault_of number low o) (first_fault (number + 1) (moment_after o) (w ∷ ws)))
    (no_entry (x ∷ xs) (entry_of (x ∷ xs)) refl long)

other_header : (first : List ℕ) → first ≢ header → bytes_eq first header ≡ false
other_header first ne = by_test (bytes_eq first header) (bytes_eq-Decides first header).0
  where
    by_test : (b : Bool) → (b ≡ true → first ≡ header) → b ≡ false
    by_test true same = absurd (ne (same refl))
    by_test false same = refl

bad_header : (first : List ℕ) (ws : List (List ℕ)) → first ≢ header
    → fault_by_parts (first ∷ ws) ≡ Some errors.BadHeader
bad_header first [] ne = refl
bad_header first (w ∷ ws) ne = ap (λ (b : Bool). cond b (first_fault 2 0 (w ∷ ws)) (Some errors.BadHeader))
    (other_header first ne)

long_header : (line : List ℕ) → 34 < length line → line ≢ header
long_header line long e = let same = ap length e in absurd (omega arith)

begun_text : (whole rest : List ℕ) (es : List Entry) (p : LogPart) → IsRead whole rest es p → p.has_begun ≡ true
    → whole ≡ log_text es ++ (p.kept ++ rest)
begun_text whole rest es p read begun = let P : Bool → Type 0 = λ b. whole ≡ lines_before b es ++ (p.kept ++ rest)
    in subst P begun read.text

first_text : (whole rest : List ℕ) (es : List Entry) (p : LogPart) → IsRead whole rest es p → p.has_begun ≡ false
    → whole ≡ p.kept ++ rest
first_text whole rest es p read begun = let P : Bool → Type 0 = λ b. whole ≡ lines_before b es ++ (p.kept ++ rest)
    in subst P begun read.text

-- a part of a line more
pub read_more : (whole part rest : List ℕ) (es : List Entry) (p : LogPart) → IsRead whole (part ++ rest) es p
    → IsRead whole rest es (keeping (p.kept ++ part) p)
read_more whole part rest es p read = record {
  log = read.log;
  none = read.none;
  count = read.count;
  last = read.last;
  text = read.text ∙ ap (λ (t : List ℕ). lines_before p.has_begun es ++ t) (sym (append_assoc p.kept part rest));
}

-- a line of which too much is there
pub read_too_long : (whole rest : List ℕ) (es : List Entry) (p : LogPart) → IsRead whole rest es p
    → is_one_line p.kept ≡ true → 34 < length p.kept → log_fault whole ≡ Some (bad_line p)
read_too_long whole rest es p read one long =
    let next = some_part rest in
    let parts = parts_of-begun p.kept rest next.0 next.1 one next.2 in
    let more : 34 < length (p.kept ++ next.0) = rw length-append (omega arith) in
    by_begun next.0 next.1 parts more p.has_begun refl
  where
    by_begun : (w : List ℕ) (ws : List (List ℕ)) → parts_of (p.kept ++ rest) ≡ (p.kept ++ w) ∷ ws
        → 34 < length (p.kept ++ w) → (b : Bool) → p.has_begun ≡ b → log_fault whole ≡ Some (bad_line p)
    by_begun w ws parts more true begun =
        ap log_fault (begun_text whole rest es p read begun)
        ∙ log_skip es (p.kept ++ rest) read.log
        ∙ ap (first_fault (length es + 2) (last_moment es)) parts
        ∙ too_long (length es + 2) (last_moment es) (p.kept ++ w) ws more
        ∙ ap (λ (n : ℕ). Some (errors.BadLine (n + 2))) (sym read.count)
        ∙ ap (λ (b : Bool). Some (cond b (errors.BadLine (p.entries + 2)) errors.BadHeader)) (sym begun)
    by_begun w ws parts more false begun =
        ap log_fault (first_text whole rest es p read begun)
        ∙ ap fault_by_parts parts
        ∙ bad_header (p.kept ++ w) ws (long_header (p.kept ++ w) more)
        ∙ ap (λ (b : Bool). Some (cond b (errors.BadLine (p.entries + 2)) errors.BadHeader)) (sym begun)

-- the first line
pub read_header : (whole rest : List ℕ) (es : List Entry) (p : LogPart) → p.has_begun ≡ false → p.kept ≡ header
    → IsRead whole (10 ∷ rest) es p
    → IsRead whole rest es (record p { has_begun = true; kept = [] })
read_header whole rest es p begun same read =
    let none = read.none begun in
    record {
      log = read.log;
      none = λ e. cc;
      count = read.count;
      last = read.last;
      text =
          first_text whole (10 ∷ rest) es p read begun
          ∙ ap (λ (t : List ℕ). t ++ 10 ∷ rest) same
          ∙ sym (ap (λ (l : List Entry). log_text l ++ rest) none);
    }

pub read_other_header : (whole rest : List ℕ) (es : List Entry) (p : LogPart) → p.has_begun ≡ false → p.kept ≢ header
    → is_one_line p.kept ≡ true → IsRead whole (10 ∷ rest) es p
    → log_fault whole ≡ Some errors.BadHeader
read_other_header whole rest es p begun other one read =
    ap log_fault (first_text whole (10 ∷ rest) es p read begun)
    ∙ ap fault_by_parts (parts_of-line p.kept rest one)
    ∙ bad_header p.kept (parts_of rest) other

-- the moments of a log are up to the last
up_to_last : (low : ℕ) (es : List Entry) → IsLog es → AreFrom low es → (low ≤ fold (λ moment e. moment_of e) low es)
    × AreUpTo (fold (λ moment e. moment_of e) low es) es
up_to_last low [] is from = (omega arith, tt)
up_to_last low (e ∷ es) is from =
    let more = up_to_last (moment_of e) es is.2 is.1 in
    (let le = more.0 in let first = from.0 in omega arith, (more.0, more.1))

up_to_later : (low m : ℕ) (es : List Entry) → low ≤ m → AreUpTo low es → AreUpTo m es
up_to_later low m [] le a = tt
up_to_later low m (e ∷ es) le a = (let first = a.0 in omega arith, up_to_later low m es le a.1)

last_moment-push : (low : ℕ) (es : List Entry) (e : Entry)
    → fold (λ moment d. moment_of d) low (es ++ e ∷ []) ≡ moment_of e
last_moment-push low [] e = refl
last_moment-push low (d ∷ es) e = last_moment-push (moment_of d) es e

-- a line that is accepted
pub read_line : (whole line rest none : List ℕ) (es : List Entry) (e : Entry) (p q : LogPart) → p.has_begun ≡ true
    → p.kept ≡ line → entry_of line ≡ Some e → p.last ≤ moment_of e
    → q ≡ with_entry e (keeping none p) → none ≡ [] → IsRead whole (10 ∷ rest) es p → IsRead whole rest (es ++ e ∷ []) q
read_line whole line rest none es e p q begun same said le is empty read =
    let line_is = line_of-entry_of line e said in
    let low : last_moment es ≤ moment_of e = subst (λ (m : ℕ). m ≤ moment_of e) read.last le in
    subst (IsRead whole rest (es ++ e ∷ [])) (sym (is ∙ ap (λ (k : List ℕ). with_entry e (keeping k p)) empty))
    (record {
      log = log_push es e read.log line_is.1
          (up_to_later (last_moment es) (moment_of e) es low (up_to_last 0 es read.log (from_zero es)).1);
      none = λ no. absurd cc;
      count = ap (λ (n : ℕ). n + 1) read.count ∙ sym (length-append es (e ∷ []));
      last = sym (last_moment-push 0 es e);
      text =
          begun_text whole (10 ∷ rest) es p read begun
          ∙ ap (λ (l : List ℕ). log_text es ++ (l ++ 10 ∷ rest)) (same ∙ sym line_is.0)
          ∙ log_text_more es e rest
          ∙ ap (λ (b : Bool). lines_before b (es ++ e ∷ []) ++ rest) (sym begun);
    })

-- and one that is refused
pub read_refused : (whole line rest : List ℕ) (es : List Entry) (fault : LogError) (p : LogPart) → p.has_begun ≡ true
    → p.kept ≡ line → is_one_line line ≡ true
    → fault_of (p.entries + 2) p.last (entry_of line) ≡ Some fault → IsRead whole (10 ∷ rest) es p
    → log_fault whole ≡ Some fault
read_refused whole line rest es fault p begun same one is read =
    let refused : fault_of (length es + 2) (last_moment es) (entry_of line) ≡ Some fault =
    sym (ap (λ (n : ℕ). fault_of (n + 2) p.last (entry_of line)) read.count
    ∙ ap (λ (m : ℕ). fault_of (length es + 2) m (entry_of line)) read.last) ∙ is in
    ap log_fault (begun_text whole (10 ∷ rest) es p read begun
    ∙ ap (λ (l : List ℕ). log_text es ++ (l ++ 10 ∷ rest)) same)
    ∙ log_skip es (line ++ 10 ∷ rest) read.log
    ∙ ap (first_fault (length es + 2) (last_moment es)) (parts_of-line line rest one)
    ∙ refused_line (length es + 2) (last_moment es) line rest fault refused

-- the end of the text
pub read_end : (whole : List ℕ) (es : List Entry) (p : LogPart) → p.has_begun ≡ true → p.kept ≡ []
    → IsRead whole [] es p → (whole ≡ log_text es) × (log_fault whole ≡ None)
read_end whole es p begun none read =
    let text : whole ≡ log_text es = begun_text whole [] es p read begun
    ∙ ap (λ (k : List ℕ). log_text es ++ (k ++ [])) none ∙ append-nil (log_text es) in
    (text, ap log_fault text ∙ log_no_fault es read.log)

pub read_open_end : (whole : List ℕ) (es : List Entry) (p : LogPart) → is_one_line p.kept ≡ true
    → (p.has_begun ≡ true → 0 < length p.kept) → IsRead whole [] es p
    → log_fault whole ≡ Some (bad_line p)
read_open_end whole es p one some read = by_begun p.has_begun refl
  where
    open_line : (number low : ℕ) (line : List ℕ) → 0 < length line
        → first_fault number low (line ∷ []) ≡ Some (errors.BadLine number)
    open_line number low [] some = absurd (omega arith)
    open_line number low (x ∷ xs) some = refl

    by_begun : (b : Bool) → p.has_begun ≡ b → log_fault whole ≡ Some (bad_line p)
    by_begun true begun =
        let more : 0 < length (p.kept ++ []) = let s = some begun in rw length-append (omega arith) in
        ap log_fault (begun_text whole [] es p read begun)
        ∙ log_skip es (p.kept ++ []) read.log
        ∙ ap (first_fault (length es + 2) (last_moment es)) (parts_of-begun p.kept [] [] [] one refl)
        ∙ open_line (length es + 2) (last_moment es) (p.kept ++ []) more
        ∙ ap (λ (n : ℕ). Some (errors.BadLine (n + 2))) (sym read.count)
        ∙ ap (λ (b : Bool). Some (cond b (errors.BadLine (p.entries + 2)) errors.BadHeader)) (sym begun)
    by_begun false begun =
        ap log_fault (first_text whole [] es p read begun)
        ∙ ap fault_by_parts (parts_of-begun p.kept [] [] [] one refl)
        ∙ ap (λ (b : Bool). Some (cond b (errors.BadLine (p.entries + 2)) errors.BadHeader)) (sym begun)

-- more of a line than says something
pub keep_refused : (whole part more kept : List ℕ) (n : ℕ) (es : List Entry) (p : LogPart) → kept ≡ p.kept
    → is_one_line kept ≡ true → is_one_line part ≡ true
    → n ≡ length kept → 34 - n < length part → IsRead whole (part ++ more) es p → log_fault whole ≡ Some (bad_line p)
keep_refused whole part more kept n es p same one one' count long read =
    let all = subst (λ (k : List ℕ). is_one_line (k ++ part) ≡ true) same (is_one_line-append kept part one one') in
    let length_is : length (p.kept ++ part) ≡ n + length part = length-append p.kept part
    ∙ ap (λ (m : ℕ). m + length part) (sym (count ∙ ap length same)) in
    read_too_long whole more es (keeping (p.kept ++ part) p) (read_more whole part more es p read) all (omega arith)

-- the line that is kept, and its line feed
pub read_kept : (whole piece after rest : List ℕ) (es : List Entry) (old new : LogPart)
    → KeepsLine piece after old new → IsRead whole (piece ++ rest) es old
    → IsRead whole (10 ∷ (after ++ rest)) es new
read_kept whole piece after rest es old new keeps read =
    subst (IsRead whole (10 ∷ (after ++ rest)) es) (sym keeps.new_is)
    (read_more whole keeps.part (10 ∷ (after ++ rest)) es old
    (subst (λ (t : List ℕ). IsRead whole t es old) (ap (λ (t : List ℕ). t ++ rest) keeps.cut
    ∙ append_assoc keeps.part (10 ∷ after) rest) read))

pub some_is : {X : Type 0} (o : Option X) (P Q : X → Type 0) → ((x : X) → P x → Q x) → IfSome o P → IfSome o Q
some_is None P Q f h = tt
some_is (Some x) P Q f h = f x h

pub none_is : {X : Type 0} (o : Option X) (P Q : Type 0) → (P → Q) → IfNone o P → IfNone o Q
none_is None P Q f h = f h
none_is (Some x) P Q f h = tt

-- what nothing was refused of
pub left_read : (whole rest : List ℕ) (es : List Entry) (p : LogPart) → p.refused ≡ None → IsLeft whole rest es p
    → IsRead whole rest es p
left_read whole rest es p none left = let P : Option LogError
    → Type 0 = λ o. MatchOption o (IsRead whole rest es p) (IsFault whole) in subst P none left

pub read_left : (whole rest : List ℕ) (es : List Entry) (p : LogPart) → p.refused ≡ None → IsRead whole rest es p
    → IsLeft whole rest es p
read_left whole rest es p none read = let P : Option LogError
    → Type 0 = λ o. MatchOption o (IsRead whole rest es p) (IsFault whole) in subst P (sym none) read

-- a refusal of the line that is kept
pub refuse_line : (whole line more rest kept : List ℕ) (es : List Entry) (p q : LogPart) → p.has_begun ≡ true
    → line ≡ p.kept → is_one_line line ≡ true
    → IsRefusing (fault_of (p.entries + 2) p.last (entry_of line)) (keeping kept p) q → IsRead whole (10 ∷ more) es p
    → IsLeft whole rest es q
refuse_line whole line more rest kept es p q begun same one refuses read =
    subst (IsLeft whole rest es) (sym refuses.new_is)
    (λ other. read_refused whole line more es refuses.given p begun (sym same) one (refuses.is_fault other) read)

-- the entries of a log
pub log_order : (es : List Entry) (e : Entry) → IsLog (es ++ e ∷ []) → AreUpTo (moment_of e) es
log_order [] e is = tt
log_order (d ∷ es) e is = (last_from (moment_of d) es e is.1, log_order es e is.2)
  where
    last_from : (m : ℕ) (es : List Entry) (e : Entry) → AreFrom m (es ++ e ∷ []) → m ≤ moment_of e
    last_from m [] e from = from.0
    last_from m (d ∷ es) e from = last_from m es e from.1

pub none_kept : (kept : List ℕ) → (length kept == 0) ≡ true → kept ≡ []
none_kept [] e = refl
none_kept (x ∷ xs) e = absurd (omega (arith, eqb-true (length (x ∷ xs)) 0 e))

pub some_kept : (kept : List ℕ) → (length kept == 0) ≡ false → 0 < length kept
some_kept [] e = cc
some_kept (x ∷ xs) e = omega arith

-- a line that stands whole at the front of a piece
pub front_line : (whole piece after rest : List ℕ) (es : List Entry) (e : Entry) (p : LogPart) → p.kept ≡ []
    → piece ≡ line_of e ++ 10 ∷ after
    → IsRead whole (piece ++ rest) es p → IsRead whole (10 ∷ (after ++ rest)) es (keeping (line_of e) p)
front_line whole piece after rest es e p empty cut read =
    subst (λ (k : List ℕ). IsRead whole (10 ∷ (after ++ rest)) es (keeping (k ++ line_of e) p)) empty
    (read_more whole (line_of e) (10 ∷ (after ++ rest)) es p
    (subst (λ (t : List ℕ). IsRead whole t es p) (ap (λ (t : List ℕ). t ++ rest) cut
    ∙ append_assoc (line_of e) (10 ∷ after) rest) read))

pub front_read : (whole piece after rest : List ℕ) (es : List Entry) (e d : Entry) (p q : LogPart)
    → p.has_begun ≡ true → p.kept ≡ [] → piece ≡ line_of e ++ 10 ∷ after → IsEntry e
    → Some e ≡ Some d → p.last ≤ moment_of d → q ≡ with_entry d p → IsRead whole (piece ++ rest) es p
    → IsRead whole (after ++ rest) (es ++ d ∷ []) q
front_read whole piece after rest es e d p q begun empty cut is same le new read =
    read_line whole (line_of e) (after ++ rest) p.kept es d (keeping (line_of e) p) q begun refl
    (entry_of-line_of e is ∙ same) le new empty
    (front_line whole piece after rest es e p empty cut read)

pub front_refused : (whole piece after rest : List ℕ) (es : List Entry) (e : Entry) (p q : LogPart)
    → p.has_begun ≡ true → p.kept ≡ [] → piece ≡ line_of e ++ 10 ∷ after → IsEntry e
    → IsRefusing (fault_of (p.entries + 2) p.last (Some e)) p q → IsRead whole (piece ++ rest) es p
    → IsLeft whole rest es q
front_refused whole piece after rest es e p q begun empty cut is refuses read =
    refuse_line whole (line_of e) (after ++ rest) rest p.kept es (keeping (line_of e) p) q begun refl
    (is_one_line-line_of e is)
    (subst (λ (o : Option Entry). IsRefusing (fault_of (p.entries + 2) p.last o) p q) (sym (entry_of-line_of e is))
    refuses)
    (front_line whole piece after rest es e p empty cut read)

pub when_none : {X : Type 0} (o : Option X) (P : Type 0) → P → IfNone o P
when_none None P p = p
when_none (Some x) P p = tt

pub not_some : (o : Option LogError) → is_some o ≡ false → o ≡ None
not_some None e = refl
not_some (Some x) e = cc
