-- What fates come to, row by row.
use Rattle.std.proofs.Common.{◌≡◌, ℕ, zero, suc, ◌+◌, ◌<◌, ◌≤◌, List, [], ◌∷◌, length, get_or, drop, Option, Some, None}
use Rattle.std.proofs.Common.{option_to_list, refl, ap, sym, ◌∙◌, arith, add-one}
use Rattle.std.proofs.Math.Seq.{drop-cons}
use Rattle.std.specs.List.{fold, cons_option}
use Rattle.packet_record.specs.declared.packet.Row.{Row}
use Rattle.nest_spec.specs.declared.fate.FateRow.{FateRow}
use Rattle.command_report.specs.Summaries.{bytes_of, departed_at, departed_bytes, departures, or_greater}

drop_one : {A : Type 0} (xs : List A) (i : ℕ) (d : A) → i < length xs → drop i xs ≡ get_or xs i d ∷ drop (i + 1) xs
drop_one xs i d lt = drop-cons xs i d lt ∙ ap (λ n. get_or xs i d ∷ drop n xs) (sym (add-one i))

pub drop_none : {A : Type 0} (xs : List A) (i : ℕ) → length xs ≤ i → drop i xs ≡ []
drop_none [] zero le = refl
drop_none [] (suc i) le = refl
drop_none (x ∷ xs) zero le = absurd (omega arith)
drop_none (x ∷ xs) (suc i) le = drop_none xs i (omega arith)

pub bytes_more : (bytes : ℕ) (rows : List Row) (fates : List FateRow) (i all : ℕ) (d : Row) (e : FateRow)
    → i < length rows → i < length fates
    → bytes + departed_bytes (drop i rows) (drop i fates) ≡ all
    → bytes + bytes_of (get_or rows i d) (get_or fates i e).fate + departed_bytes (drop (i + 1) rows)
    (drop (i + 1) fates) ≡ all
bytes_more bytes rows fates i all d e lt lt' before =
    let whole : departed_bytes (drop i rows) (drop i fates) ≡ bytes_of (get_or rows i d) (get_or fates i e).fate +
    departed_bytes (drop (i + 1) rows) (drop (i + 1) fates) =
    ap (λ l. departed_bytes l (drop i fates)) (drop_one rows i d lt)
    ∙ ap (λ l. departed_bytes (get_or rows i d ∷ drop (i + 1) rows) l) (drop_one fates i e lt') in
    omega arith

pub bytes_end : (bytes : ℕ) (rows : List Row) (fates : List FateRow) (i all : ℕ) → length rows ≤ i
    → bytes + departed_bytes (drop i rows) (drop i fates) ≡ all → bytes ≡ all
bytes_end bytes rows fates i all le before =
    let none : departed_bytes (drop i rows) (drop i fates) ≡ 0 = ap (λ l. departed_bytes l (drop i fates))
    (drop_none rows i le) in
    omega arith

greater_one : (o : Option ℕ) (moments : List ℕ) (last : Option ℕ)
    → fold or_greater last (cons_option o moments) ≡ fold or_greater (fold or_greater last (option_to_list o)) moments
greater_one None moments last = refl
greater_one (Some moment) moments last = refl

pub last_more : (last last' : Option ℕ) (rows : List FateRow) (i : ℕ) (d : FateRow) (all : Option ℕ) → i < length rows
    → last' ≡ fold or_greater last (option_to_list (departed_at (get_or rows i d).fate))
    → fold or_greater last (departures (drop i rows)) ≡ all → fold or_greater last' (departures (drop (i + 1) rows)) ≡
    all
last_more last last' rows i d all lt is before =
    ap (λ l. fold or_greater l (departures (drop (i + 1) rows))) is
    ∙ sym (greater_one (departed_at (get_or rows i d).fate) (departures (drop (i + 1) rows)) last)
    ∙ sym (ap (λ l. fold or_greater last (departures l)) (drop_one rows i d lt))
    ∙ before

pub last_end : (last : Option ℕ) (rows : List FateRow) (i : ℕ) (all : Option ℕ) → length rows ≤ i
    → fold or_greater last (departures (drop i rows)) ≡ all → last ≡ all
last_end last rows i all le before = sym (ap (λ l. fold or_greater last (departures l)) (drop_none rows i le)) ∙ before
