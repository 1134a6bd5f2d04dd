-- The lines of a table, some at a time.
use Rattle.std.proofs.Common.{◌≡◌, ◌∙◌, ◌++◌, ◌+◌, ◌<◌, ℕ, List, [], ◌∷◌, zero, suc, ap, sym, refl, length, take, drop}
use Rattle.std.proofs.Common.{get_or, map}
use Rattle.std.proofs.lemmas.List.{append_assoc, drop_more}
use Rattle.packet_record.specs.declared.packet.Row.{Row}
use Rattle.nest_spec.specs.declared.table_text.TableEntry.{TableEntry}
use Rattle.nest_spec.specs.TableText.{table_line, table_lines}

module _ {R A : Type 0} (row : R → Row) (entry : A → TableEntry) where
  -- rows without fates have no line
  pub no_fates : (rows : List R) → table_lines row entry rows [] ≡ []
  no_fates [] = refl
  no_fates (first ∷ rows) = refl

  -- the lines of the first rows, and those of the others
  pub lines_split : (n : ℕ) (rows : List R) (fates : List A) → table_lines row entry rows fates
      ≡ table_lines row entry (take n rows) (take n fates) ++ table_lines row entry (drop n rows) (drop n fates)
  lines_split zero rows fates = refl
  lines_split (suc n) [] fates = refl
  lines_split (suc n) (first ∷ rows) [] = sym (no_fates (drop n rows))
  lines_split (suc n) (first ∷ rows) (fate ∷ fates) =
      ap (λ l. table_line (row first) (entry fate) ++ l) (lines_split n rows fates)
      ∙ sym (append_assoc (table_line (row first) (entry fate)) (table_lines row entry (take n rows) (take n fates))
      (table_lines row entry (drop n rows) (drop n fates)))

  -- the lines from the row at `i` on
  pub lines_from : (i : ℕ) (rows : List R) (fates : List A) (first : R) (fate : A) → i < length rows → i < length fates
      → first ≡ get_or rows i first → fate ≡ get_or fates i fate
      → table_lines row entry (drop i rows) (drop i fates)
      ≡ table_line (row first) (entry fate) ++ table_lines row entry (drop (i + 1) rows) (drop (i + 1) fates)
  lines_from i rows fates first fate in_rows in_fates first_is fate_is =
      ap (λ l. table_lines row entry l (drop i fates))
      (drop_more rows i first in_rows ∙ ap (λ x. x ∷ drop (i + 1) rows) (sym first_is))
      ∙ ap (λ l. table_lines row entry (first ∷ drop (i + 1) rows) l)
      (drop_more fates i fate in_fates ∙ ap (λ x. x ∷ drop (i + 1) fates) (sym fate_is))

-- the same lines by functions of functions
pub lines_through : {R A B : Type 0} (row : R → Row) (entry : B → TableEntry) (f : A → B) (rows : List R)
    (fates : List A) → table_lines row (λ fate. entry (f fate)) rows fates ≡ table_lines row entry rows (map f fates)
lines_through row entry f [] fates = refl
lines_through row entry f (first ∷ rows) [] = refl
lines_through row entry f (first ∷ rows) (fate ∷ fates) =
    ap (λ l. table_line (row first) (entry (f fate)) ++ l) (lines_through row entry f rows fates)

-- the pieces of a line, put one before the other
pub line_put : (packet sender cell moment size cells rest : List ℕ)
    → packet ++ 44 ∷ (sender ++ (cell ++ (moment ++ 44 ∷ (size ++ (cells ++ rest)))))
    ≡ (packet ++ 44 ∷ (sender ++ (cell ++ (moment ++ 44 ∷ (size ++ cells))))) ++ rest
line_put packet sender cell moment size cells rest =
    sym (append_assoc packet (44 ∷ (sender ++ (cell ++ (moment ++ 44 ∷ (size ++ cells))))) rest
    ∙ ap (λ l. packet ++ 44 ∷ l) (append_assoc sender (cell ++ (moment ++ 44 ∷ (size ++ cells))) rest
    ∙ ap (λ l. sender ++ l) (append_assoc cell (moment ++ 44 ∷ (size ++ cells)) rest
    ∙ ap (λ l. cell ++ l) (append_assoc moment (44 ∷ (size ++ cells)) rest
    ∙ ap (λ l. moment ++ 44 ∷ l) (append_assoc size cells rest)))))
