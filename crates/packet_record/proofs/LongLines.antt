-- A line that is too long says nothing, however it goes on.
use Rattle.std.proofs.Common.{◌≡◌, ℕ, ◌+◌, ◌-◌, ◌≤◌, ◌<◌, ◌&&◌, Bool, not, eqb, zero, suc, List, [], ◌∷◌, ◌++◌, length}
use Rattle.std.proofs.Common.{take, drop, true, false, cond, Some, None, nat_lt, refl, ap, sym, subst, ◌∙◌}
use Rattle.std.proofs.Common.{append_assoc, arith, rules, tests, length-append}
use Rattle.std.specs.List.{onto_first}
use Rattle.std.proofs.lemmas.List.{length-take, take_all, take-append-drop}
use Rattle.text_base.specs.Lines.{lines_of}
use Rattle.text_base.specs.Lines.{is_one_line}
use Rattle.text_base.proofs.NumbersLemmas.{decimal_of-Some}
use Rattle.text_base.proofs.TextLemmas.{is_one_line-append}
use Rattle.packet_record.specs.Gathered.{Gathered, Awaits}
use Rattle.packet_record.specs.Printing.{direction_text}
use Rattle.packet_record.specs.Said.{said_of}
use Rattle.text_base.specs.Refusals.{or_later}
use Rattle.packet_record.specs.Schedules.{AreRows, first_fault, fault_of, moment_of, said}
use Rattle.packet_record.specs.declared.packet.Direction.{Direction}
use Rattle.packet_record.specs.declared.packet.Direction.TheVariants.{Up, Down}
use Rattle.packet_record.specs.declared.packet.Row.{Row}
use Rattle.packet_record.specs.declared.reading.ScheduleError.TheVariants as errors
use Rattle.packet_record.proofs.LineLemmas.{HasParts, says_nothing}

short_word : (d : Direction) → length (direction_text d) ≤ 6
short_word Up = omega arith
short_word Down = omega arith

short_parts : (line : List ℕ) (m s : ℕ) (d : Direction) → HasParts line m d s → length line ≤ 26
short_parts line m s d p =
    let first = (decimal_of-Some p.first m p.moment).few in
    let third = (decimal_of-Some p.third s p.size).few in
    let word = short_word d in
    omega (
      arith,
      ap length p.cut,
      length-append (p.first ++ direction_text d) p.third,
      length-append p.first (direction_text d),
      first,
      third,
      word,
    )

long_line : (line : List ℕ) → 26 < length line → said_of line ≡ None
long_line line long = sym (says_nothing line (λ m s d p. let short = short_parts line m s d p in omega (arith, short)))

no_feed : (b c : Bool) → (not b && c) ≡ true → (b ≡ false) × (c ≡ true)
no_feed true c e = absurd cc
no_feed false c e = (refl, e)

still_one : (b c d : Bool) → (not b && c) ≡ true → d ≡ true → (not b && d) ≡ true
still_one true c d e one = absurd cc
still_one false c d e one = one

-- the first line of a text that begins so
record Begins (front rest : List ℕ) : Type 0 where
  end : List ℕ
  more : List (List ℕ)
  lines_are : lines_of (front ++ rest) ≡ (front ++ end) ∷ more

first_of : (lines : List (List ℕ)) (byte : ℕ) → (end : List ℕ) × (more : List (List ℕ))
    × (onto_first byte lines ≡ (byte ∷ end) ∷ more)
first_of [] byte = ([], [], refl)
first_of (line ∷ lines) byte = (line, lines, refl)

begins : (front rest : List ℕ) → is_one_line front ≡ true → 0 < length front → Begins front rest
begins [] rest one some = absurd (omega arith)
begins (byte ∷ []) rest one some =
    let parts = no_feed (eqb byte 10) true one in
    let first = first_of (lines_of rest) byte in
    record {
      end = first.0;
      more = first.1;
      lines_are = ap (λ b. cond b ([] ∷ lines_of rest) (onto_first byte (lines_of rest))) parts.0 ∙ first.2;
    }
begins (byte ∷ next ∷ bytes) rest one some =
    let parts = no_feed (eqb byte 10) (is_one_line (next ∷ bytes)) one in
    let first = begins (next ∷ bytes) rest parts.1 (omega arith) in
    record {
      end = first.end;
      more = first.more;
      lines_are =
          ap (λ b. cond b ([] ∷ lines_of (next ∷ bytes ++ rest)) (onto_first byte (lines_of (next ∷ bytes ++ rest))))
          parts.0
          ∙ ap (onto_first byte) first.lines_are;
    }

bad_line : (place low : ℕ) (line : List ℕ) (lines : List (List ℕ)) → said_of line ≡ None
    → first_fault place low (line ∷ lines) ≡ cond (nat_lt 1000000 place) (Some errors.TooMany)
    (Some (errors.BadLine place))
bad_line place low line lines none =
    ap (λ s. cond (nat_lt 1000000 place) (Some errors.TooMany)
    (or_later (fault_of place low s) (first_fault (place + 1) (moment_of s) lines))) none

no_rows : (place low : ℕ) (line : List ℕ) (lines : List (List ℕ)) (rows : List Row) → said_of line ≡ None
    → AreRows place low (line ∷ lines) rows → ⊥
no_rows place low line lines [] none are = are
no_rows place low line lines (row ∷ rows) none are = let e : None ≡ Some (said row) = sym none ∙ are.0 in absurd cc

-- lines that say nothing stand for each other
awaits_bad : (all : List (List ℕ)) (line line' : List ℕ) (lines lines' : List (List ℕ)) (g : Gathered)
    → said_of line ≡ None → said_of line' ≡ None
    → Awaits all (line ∷ lines) g → Awaits all (line' ∷ lines') g
awaits_bad all line line' lines lines' g none none' before = record {
  rows_are = λ _ rows are. absurd (no_rows (length g.rows + 1) g.low line' lines' rows none' are);
  fault_is = λ ne.
      before.fault_is ne
      ∙ ap (or_later g.refused) (bad_line (length g.rows + 1) g.low line lines none
      ∙ sym (bad_line (length g.rows + 1) g.low line' lines' none'));
}

-- what follows a front that is too long doesn't matter
awaits_long : (all : List (List ℕ)) (front rest rest' : List ℕ) (g : Gathered) → is_one_line front ≡ true
    → 26 < length front
    → Awaits all (lines_of (front ++ rest)) g → Awaits all (lines_of (front ++ rest')) g
awaits_long all front rest rest' g one long before =
    let first = begins front rest one (omega arith) in
    let first' = begins front rest' one (omega arith) in
    let none = long_line (front ++ first.end) (omega (arith, length-append front first.end)) in
    let none' = long_line (front ++ first'.end) (omega (arith, length-append front first'.end)) in
    subst (λ ls. Awaits all ls g) (sym first'.lines_are)
    (awaits_bad all (front ++ first.end) (front ++ first'.end) first.more first'.more g none none'
    (subst (λ ls. Awaits all ls g) first.lines_are before))

pub one_line_take : (n : ℕ) (line : List ℕ) → is_one_line line ≡ true → is_one_line (take n line) ≡ true
one_line_take zero line one = refl
one_line_take (suc n) [] one = refl
one_line_take (suc n) (byte ∷ bytes) one =
    still_one (eqb byte 10) (is_one_line bytes) (is_one_line (take n bytes)) one
    (one_line_take n bytes (no_feed (eqb byte 10) (is_one_line bytes) one).1)

whole_part : (all : List (List ℕ)) (kept part rest : List ℕ) (n : ℕ) (g : Gathered) → length part ≤ n
    → Awaits all (lines_of (kept ++ (part ++ rest))) g → Awaits all (lines_of ((kept ++ take n part) ++ rest)) g
whole_part all kept part rest n g le before =
    subst (λ t. Awaits all (lines_of t) g) (sym (append_assoc kept part rest)
    ∙ ap (λ p. (kept ++ p) ++ rest) (sym (take_all n part le))) before

front_part : (all : List (List ℕ)) (kept part rest : List ℕ) (n : ℕ) (g : Gathered)
    → is_one_line (kept ++ take n part) ≡ true → 26 < length (kept ++ take n part)
    → Awaits all (lines_of (kept ++ (part ++ rest))) g → Awaits all (lines_of ((kept ++ take n part) ++ rest)) g
front_part all kept part rest n g one long before =
    let cut : kept ++ (part ++ rest) ≡ (kept ++ take n part) ++ (drop n part ++ rest) =
    ap (λ p. kept ++ (p ++ rest)) (sym (take-append-drop n part))
    ∙ ap (λ t. kept ++ t) (append_assoc (take n part) (drop n part) rest)
    ∙ sym (append_assoc kept (take n part) (drop n part ++ rest)) in
    awaits_long all (kept ++ take n part) (drop n part ++ rest) rest g one long
    (subst (λ t. Awaits all (lines_of t) g) cut before)

long_front : (kept part : List ℕ) → 27 - length kept < length part → 26 < length (kept ++ take (27 - length kept) part)
long_front kept part less =
    omega (arith, length-append kept (take (27 - length kept) part), length-take (27 - length kept) part)

-- the first 27 bytes of a line are enough of it
pub enough_kept : (all : List (List ℕ)) (kept part rest : List ℕ) (g : Gathered) → is_one_line kept ≡ true
    → is_one_line part ≡ true
    → Awaits all (lines_of (kept ++ (part ++ rest))) g
    → Awaits all (lines_of ((kept ++ take (27 - length kept) part) ++ rest)) g
enough_kept all kept part rest g one one' before =
    elim (nat_lt (27 - length kept) (length part)) as (λ b. nat_lt (27 - length kept) (length part) ≡ b
    → Awaits all (lines_of ((kept ++ take (27 - length kept) part) ++ rest)) g) [
      | true ↦ λ less.
          let lt : 27 - length kept < length part = search (rules, tests) in
          front_part all kept part rest (27 - length kept) g
          (is_one_line-append kept (take (27 - length kept) part) one
          (one_line_take (27 - length kept) part one')) (long_front kept part lt) before
      | false ↦ λ more.
          let le : length part ≤ 27 - length kept = search (rules, tests) in
          whole_part all kept part rest (27 - length kept) g le before
    ] refl
