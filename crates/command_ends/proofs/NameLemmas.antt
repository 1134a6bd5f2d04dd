-- Names that stand twice, in lists that are cut.
use Rattle.std.proofs.Common.{◌≡◌, ℕ, ◌+◌, ◌<◌, ◌++◌, ◌||◌, Bool, true, false, cond, List, [], ◌∷◌, length, take, drop}
use Rattle.std.proofs.Common.{get_or, map, Option, Some, None, refl, ap, sym, ◌∙◌, arith}
use Rattle.std.proofs.lemmas.List.{append-nil, append_assoc, take_more, drop_more, take-append-drop, take-map}
use Rattle.std.proofs.lemmas.List.{get_or-map, length-map}
use Rattle.std.proofs.lemmas.List.Folds.{list_any-append}
use Rattle.std.specs.List.{list_any}
use Rattle.std.specs.Str.{bytes_eq}
use Rattle.command_ends.specs.Causes.{Text}
use Rattle.command_ends.specs.Names.{first_taken, stands_in}

abbrev pub or_name : Option Text → Option Text → Option Text
or_name None later = later
or_name (Some name) later = Some name

by_test : (taken : Bool) (name : Text) (rest first later : Option Text) → rest ≡ or_name first later
    → cond taken (Some name) rest ≡ or_name (cond taken (Some name) first) later
by_test true name rest first later e = refl
by_test false name rest first later e = e

-- the first of a list and one after it
pub first_taken-append : (taken xs ys : List Text) → first_taken taken (xs ++ ys) ≡ or_name (first_taken taken xs)
    (first_taken (taken ++ xs) ys)
first_taken-append taken [] ys = ap (λ l. first_taken l ys) (sym (append-nil taken))
first_taken-append taken (x ∷ xs) ys =
    by_test (stands_in taken x) x _ (first_taken (taken ++ x ∷ []) xs) (first_taken (taken ++ x ∷ xs) ys)
    (first_taken-append (taken ++ x ∷ []) xs ys
    ∙ ap (λ l. or_name (first_taken (taken ++ x ∷ []) xs) (first_taken l ys)) (append_assoc taken (x ∷ []) xs))

-- one name more, where none before it was taken
pub next_taken : (taken before : List Text) (name : Text) (later : List Text) → first_taken taken before ≡ None
    → first_taken taken (before ++ name ∷ later) ≡ cond (stands_in taken name || stands_in before name) (Some name)
    (first_taken (taken ++ before ++ name ∷ []) later)
next_taken taken before name later none =
    first_taken-append taken before (name ∷ later)
    ∙ ap (λ o. or_name o (first_taken (taken ++ before) (name ∷ later))) none
    ∙ ap (λ b. cond b (Some name) (first_taken (taken ++ before ++ name ∷ []) later))
    (list_any-append (λ other. bytes_eq other name) taken before)

in_parts : (logs : List Text) (i : ℕ) (name : Text) → i < length logs → name ≡ get_or logs i name → logs ≡ take i logs
    ++ name ∷ drop (i + 1) logs
in_parts logs i name lt read = sym (take-append-drop i logs)
    ∙ ap (λ l. take i logs ++ l) (drop_more logs i name lt ∙ ap (λ x. x ∷ drop (i + 1) logs) (sym read))

-- the one at this place is the first
pub taken_here : (taken logs : List Text) (i : ℕ) (name : Text) → i < length logs → name ≡ get_or logs i name
    → first_taken taken (take i logs) ≡ None
    → (stands_in taken name || stands_in (take i logs) name) ≡ true → first_taken taken logs ≡ Some name
taken_here taken logs i name lt read none found =
    ap (first_taken taken) (in_parts logs i name lt read) ∙ next_taken taken (take i logs) name (drop (i + 1) logs) none
    ∙ ap (λ b. cond b (Some name) (first_taken (taken ++ take i logs ++ name ∷ []) (drop (i + 1) logs))) found

-- or isn't taken
pub free_here : (taken logs : List Text) (i : ℕ) (name : Text) → i < length logs → name ≡ get_or logs i name
    → first_taken taken (take i logs) ≡ None
    → (stands_in taken name || stands_in (take i logs) name) ≡ false → first_taken taken (take (i + 1) logs) ≡ None
free_here taken logs i name lt read none apart =
    ap (first_taken taken) (take_more logs i name lt ∙ ap (λ x. take i logs ++ x ∷ []) (sym read))
    ∙ next_taken taken (take i logs) name [] none
    ∙ ap (λ b. cond b (Some name) None) apart

list_any-map : {X Y : Type 0} (f : X → Y) (p : Y → Bool) (xs : List X)
    → list_any p (map f xs) ≡ list_any (λ x. p (f x)) xs
list_any-map f p [] = refl
list_any-map f p (x ∷ xs) = ap (λ b. p (f x) || b) (list_any-map f p xs)

-- the same of names that are borrowed
module _ {B : Type 0} (now : B → Text) (taken names : List B) (i : ℕ) (d : B) (lt : i < length names)
    (none : first_taken (map now taken) (take i (map now names)) ≡ None) where
  in_range : i < length (map now names)
  in_range = omega (arith, length-map names now)

  read : now (get_or names i d) ≡ get_or (map now names) i (now (get_or names i d))
  read = sym (get_or-map now names i d (now (get_or names i d)) lt)

  tests : (stands_in (map now taken) (now (get_or names i d)) || stands_in (take i (map now names))
      (now (get_or names i d)))
      ≡ (list_any (λ other. bytes_eq (now other) (now (get_or names i d))) taken || list_any
      (λ other. bytes_eq (now other) (now (get_or names i d))) (take i names))
  tests =
      let here = list_any-map now (λ other. bytes_eq other (now (get_or names i d))) taken in
      let before = ap (list_any (λ other. bytes_eq other (now (get_or names i d)))) (take-map now i names)
      ∙ list_any-map now (λ other. bytes_eq other (now (get_or names i d))) (take i names) in
      λ j. here j || before j

  pub borrowed_taken : (list_any (λ other. bytes_eq (now other) (now (get_or names i d))) taken || list_any
      (λ other. bytes_eq (now other) (now (get_or names i d))) (take i names)) ≡ true
      → first_taken (map now taken) (map now names) ≡ Some (now (get_or names i d))
  borrowed_taken found = taken_here (map now taken) (map now names) i (now (get_or names i d)) in_range read none
      (tests ∙ found)

  pub borrowed_free : (list_any (λ other. bytes_eq (now other) (now (get_or names i d))) taken || list_any
      (λ other. bytes_eq (now other) (now (get_or names i d))) (take i names)) ≡ false
      → first_taken (map now taken) (take (i + 1) (map now names)) ≡ None
  borrowed_free apart = free_here (map now taken) (map now names) i (now (get_or names i d)) in_range read none
      (tests ∙ apart)
