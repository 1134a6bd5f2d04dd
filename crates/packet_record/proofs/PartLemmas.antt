-- A line that was cut between two pieces of a text.
use Rattle.std.proofs.Common.{◌≡◌, ℕ, ◌<◌, List, [], ◌∷◌, ◌++◌, length, true, false, ◌==◌, Option, Some, None, IsSome}
use Rattle.std.proofs.Common.{refl, ap, subst, ◌∙◌, arith, rules}
use Rattle.std.proofs.lemmas.List.{append-nil}
use Rattle.text_base.specs.Lines.{lines_of}
use Rattle.text_base.specs.Lines.{is_one_line}
use Rattle.text_base.proofs.TextLemmas.{lines_of-line, lines_of-last}
use Rattle.text_base.specs.Refusals.{or_later}
use Rattle.packet_record.specs.Gathered.{Gathered, Awaits}
use Rattle.packet_record.specs.declared.reading.ScheduleError.{ScheduleError}

pub none_kept : (kept : List ℕ) → true ≡ (length kept == 0) → kept ≡ []
none_kept [] e = search rules
none_kept (byte ∷ bytes) e = search rules

pub some_kept : (kept : List ℕ) → false ≡ (length kept == 0) → 0 < length kept
some_kept [] e = absurd cc
some_kept (byte ∷ bytes) e = omega arith

same_refusal : (refused x y : Option ScheduleError) → IsSome refused → or_later refused x ≡ or_later refused y
same_refusal None x y some = absurd cc
same_refusal (Some fault) x y some = refl

not_none : (refused : Option ScheduleError) → IsSome refused → refused ≡ None → ⊥
not_none None some none = absurd cc
not_none (Some fault) some none = absurd cc

-- after a refusal it doesn't matter what is still to come
pub awaits_any : (all rest rest' : List (List ℕ)) (g : Gathered) → IsSome g.refused → Awaits all rest g
    → Awaits all rest' g
awaits_any all rest rest' g some before = record {
  rows_are = λ none. absurd (not_none g.refused some none);
  fault_is = λ ne. before.fault_is ne ∙ same_refusal g.refused _ _ some;
}

-- where nothing is kept, a line is right the next
pub next_line : (all : List (List ℕ)) (kept line rest : List ℕ) (g : Gathered) → kept ≡ [] → is_one_line line ≡ true
    → Awaits all (lines_of (kept ++ (line ++ 10 ∷ rest))) g → Awaits all (line ∷ lines_of rest) g
next_line all kept line rest g none one left =
    subst (λ ls. Awaits all ls g) (ap (λ k. lines_of (k ++ (line ++ 10 ∷ rest))) none ∙ lines_of-line line rest one)
    left

-- at the end what is kept is the last line
pub last_line : (all : List (List ℕ)) (kept : List ℕ) (g : Gathered) → is_one_line kept ≡ true → 0 < length kept
    → Awaits all (lines_of (kept ++ [])) g → Awaits all (kept ∷ []) g
last_line all kept g one some left = subst (λ ls. Awaits all ls g) (ap lines_of (append-nil kept)
    ∙ lines_of-last kept one some) left

-- or there is none
pub no_line : (all : List (List ℕ)) (kept : List ℕ) (g : Gathered) → kept ≡ [] → Awaits all (lines_of (kept ++ [])) g
    → Awaits all [] g
no_line all kept g none left = subst (λ ls. Awaits all ls g) (ap (λ k. lines_of (k ++ [])) none) left
