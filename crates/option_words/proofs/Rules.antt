-- clap's arguments of a table of options, and what clap finds among them.
use Rattle.std.proofs.Common.{◌≡◌, ◌∙◌, ◌&&◌, ◌||◌, ℕ, Bool, cond, true, false, refl, sym, ap, List, [], ◌∷◌, ◌++◌}
use Rattle.std.proofs.Common.{Option, Some, None, true≢false}
use Rattle.std.proofs.Math.Bool.{or-false}
use Rattle.std.specs.List.{find}
use Rattle.std.specs.Option.{option_map}
use Rattle.std.specs.Prelude.{is_some, not}
use Rattle.std.specs.Str.{bytes_eq}
use Rattle.std.proofs.lemmas.Slice.Eq.{bytes_eq-Decides}
use Rattle.clap.specs.Walk.{Rule, Row, Text, arg_by_id, arg_by_long, arg_by_index, at_row, has_long, has_row}
use Rattle.clap.proofs.WalkLemmas.{find-map, list_any-map}
use Rattle.option_words.specs.Options.{Opt, Use, is_used}
use Rattle.option_words.specs.inside.ClapTable.{rule, rules_of, row, rows}

-- the option of a name
abbrev pub opt_of : List Opt → Text → Option Opt
opt_of table name = find (λ o. bytes_eq o.name name) table

-- ---- searches

pub by_id : (table : List Opt) (name : Text) → arg_by_id (rules_of table) name ≡ option_map rule (opt_of table name)
by_id table name = sym (find-map (λ (a : Rule). bytes_eq a.id name) rule table)

pub by_long : (table : List Opt) (name : Text) → arg_by_long (rules_of table) name ≡ option_map rule (opt_of table name)
by_long table name =
    sym (find-map (λ (a : Rule). not (is_some a.index) && has_long a name) rule table)
    ∙ ap (option_map rule) (ap (λ (p : Opt → Bool). find p table) (λ i. λ (o : Opt). or-false (bytes_eq o.name name) i))

pub no_place : (table : List Opt) (i : ℕ) → arg_by_index (rules_of table) i ≡ None
no_place [] i = refl
no_place (o ∷ table) i = no_place table i

pub same_text : (a b : Text) → bytes_eq a b ≡ true → a ≡ b
same_text a b e = (bytes_eq-Decides a b).0 e

pub text_is_itself : (a : Text) → bytes_eq a a ≡ true
text_is_itself a = (bytes_eq-Decides a a).1 refl

pub found_passes : {X : Type 0} (p : X → Bool) (xs : List X) (x : X) → find p xs ≡ Some x → p x ≡ true
found_passes p [] x e = cc
found_passes p (y ∷ ys) x e = go (p y) refl (found_passes p ys x) e
  where
    go : (b : Bool) → p y ≡ b → (find p ys ≡ Some x → p x ≡ true) → cond b (Some y) (find p ys) ≡ Some x → p x ≡ true
    go true is rest h = let same : y ≡ x = cc in ap p (sym same) ∙ is
    go false is rest h = rest h

-- an option is found by its own name
pub found_again : (table : List Opt) (name : Text) (o : Opt) → opt_of table name ≡ Some o → opt_of table o.name ≡ Some o
found_again table name o e =
    let same : o.name ≡ name = same_text o.name name (found_passes (λ x. bytes_eq x.name name) table o e) in
    ap (λ n. opt_of table n) same ∙ e

-- ---- rows

pub has_row-rows : (us : List Use) (name : Text) → has_row name (rows us) ≡ is_used name us
has_row-rows us name = sym (list_any-map (λ (r : Row). bytes_eq r.id name) row us)

pub absent : (us : List Use) (name : Text) (change : Row → List Row) (missing : List Row) → is_used name us ≡ false
    → at_row name change missing (rows us) ≡ rows us ++ missing
absent [] name change missing e = refl
absent (u ∷ us) name change missing e = go (bytes_eq u.0 name) (absent us name change missing) e
  where
    go : (b : Bool) → (is_used name us ≡ false → at_row name change missing (rows us) ≡ rows us ++ missing)
        → (b || is_used name us) ≡ false
        → cond b (change (row u) ++ rows us) (row u ∷ at_row name change missing (rows us)) ≡ row u ∷ (rows us
        ++ missing)
    go true rest h = absurd (true≢false h)
    go false rest h = ap (λ rs. row u ∷ rs) (rest h)

pub rows-append : (us vs : List Use) → rows (us ++ vs) ≡ rows us ++ rows vs
rows-append [] vs = refl
rows-append (u ∷ us) vs = ap (λ rs. row u ∷ rs) (rows-append us vs)
