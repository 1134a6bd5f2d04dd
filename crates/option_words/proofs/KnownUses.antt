-- A use has a value exactly where its option takes one.
use Rattle.std.proofs.Common.{◌≡◌, ◌∙◌, ◌||◌, Bool, true, false, refl, sym, ap, subst, List, [], ◌∷◌, drop, Option}
use Rattle.std.proofs.Common.{Some, None, codes}
use Rattle.std.proofs.Math.Bool.{true≢false}
use Rattle.std.specs.Option.{option_map, MatchOption}
use Rattle.std.specs.Prelude.{if◌then◌else◌, option_and_then, slice_get, is_some}
use Rattle.std.specs.Str.{bytes_eq}
use Rattle.clap.specs.Walk.{Text}
use Rattle.option_words.specs.Options.{Opt, Use, all_new, is_option_word, is_used, is_value, name_and_value, on_word}
use Rattle.option_words.specs.Options.{option_of, options, read, unvalued, valued, with_use, use_of, value_of}
use Rattle.option_words.proofs.Rules.{opt_of, found_again, found_passes, same_text}
use Rattle.option_words.specs.inside.ClapTable.{row_values}
use Rattle.option_words.proofs.Getters.{flag_text}

abbrev opt_at : Text → Bool → Opt
opt_at n b = record { name = n; takes_value = b }

abbrev pub IsKnown : List Opt → Use → Type 0
IsKnown t u = opt_of t u.0 ≡ Some (opt_at u.0 (is_some u.1))

abbrev pub AllKnown : List Opt → List Use → Type 0
AllKnown t [] = Unit {0}
AllKnown t (u ∷ us) = IsKnown t u × AllKnown t us

abbrev KnownIn : List Opt → Option (List Use) → Type 0
KnownIn t r = MatchOption r (Unit {0}) (AllKnown t)

with_known : (t : List Opt) (u : Use) (r : Option (List Use)) → IsKnown t u → KnownIn t r → KnownIn t (with_use u r)
with_known t u None k h = tt
with_known t u (Some us) k h = (k, h)

abbrev Waits : List Opt → Option Text → Type 0
Waits t None = Unit {0}
Waits t (Some n) = opt_of t n ≡ Some (opt_at n true)

known_name : (t : List Opt) (x : Option (List Use)) (y : Option (List Use)) (n : Text) (b : Bool) (v : Option Text)
    → opt_of t n ≡ Some (opt_at n b)
    → KnownIn t x → (opt_of t n ≡ Some (opt_at n true) → KnownIn t y)
    → KnownIn t (if b then valued n v x y else unvalued n v x)
known_name t x y n true None k h g = g k
known_name t x y n true (Some v) k h g = go (is_value v)
  where
    go : (c : Bool) → KnownIn t (if c then with_use (n, Some v) x else None)
    go true = with_known t (n, Some v) x k h
    go false = tt
known_name t x y n false None k h g = with_known t (n, None) x k h
known_name t x y n false (Some v) k h g = tt

known_word : (t : List Opt) (x : Option (List Use)) (y : Text → Option (List Use)) (p : Text × Option Text)
    (o : Option Opt) → opt_of t p.0 ≡ o
    → KnownIn t x → ((n : Text) → opt_of t n ≡ Some (opt_at n true) → KnownIn t (y n))
    → KnownIn t (on_word (option_map (λ o. (o, p.1)) o) x y)
known_word t x y p None e h g = tt
known_word t x y p (Some o) e h g = known_name t x (y o.name) o.name o.takes_value p.1 (found_again t p.0 o e) h
    (g o.name)

known_option : (t : List Opt) (x : Option (List Use)) (y : Text → Option (List Use)) (w : Text)
    → KnownIn t x → ((n : Text) → opt_of t n ≡ Some (opt_at n true) → KnownIn t (y n))
    → KnownIn t (on_word (option_of t w) x y)
known_option t x y w h g = go (is_option_word w)
  where
    go : (b : Bool) → KnownIn t (on_word
        (if b then option_map (λ o. (o, (name_and_value (drop 2 w)).1)) (opt_of t (name_and_value (drop 2 w)).0)
        else None) x y)
    go true = known_word t x y (name_and_value (drop 2 w)) (opt_of t (name_and_value (drop 2 w)).0) refl h g
    go false = tt

read_known : (t : List Opt) (ws : List Text) (m : Option Text) → Waits t m → KnownIn t (read t m ws)
unfolding read
read_known t [] None k = tt
read_known t [] (Some n) k = tt
read_known t (w ∷ ws) None k = known_option t _ _ w (read_known t ws None tt) (λ n e. read_known t ws (Some n) e)
read_known t (w ∷ ws) (Some n) k = go (is_value w) (read_known t ws None tt)
  where
    go : (c : Bool) → KnownIn t (read t None ws) → KnownIn t (if c then with_use (n, Some w) (read t None ws) else None)
    go true h = with_known t (n, Some w) (read t None ws) k h
    go false h = tt

pub options_known : (t : List Opt) (ws : List Text) (us : List Use) → options t ws ≡ Some us → AllKnown t us
options_known t ws us e = go (read t None ws) (read_known t ws None tt) e
  where
    kept : (c : Bool) (vs : List Use) → AllKnown t vs → (if c then Some vs else None) ≡ Some us → AllKnown t us
    kept true vs h f = let same : vs ≡ us = cc in subst (AllKnown t) same h
    kept false vs h f = cc

    go : (r : Option (List Use)) → KnownIn t r → option_and_then (λ vs. if all_new [] vs then Some vs else None) r ≡
        Some us → AllKnown t us
    go None h f = cc
    go (Some vs) h f = kept (all_new [] vs) vs h f

use_known : (t : List Opt) (us : List Use) (n : Text) (u : Use) → AllKnown t us → use_of n us ≡ Some u → IsKnown t u
use_known t [] n u k e = cc
use_known t (x ∷ xs) n u k e = go (bytes_eq x.0 n) (use_known t xs n u k.1) e
  where
    go : (b : Bool) → (use_of n xs ≡ Some u → IsKnown t u) → (if b then Some x else use_of n xs) ≡ Some u → IsKnown t u
    go true rest f = let same : x ≡ u = cc in subst (IsKnown t) same k.0
    go false rest f = rest f

-- what the use of an option holds
use_holds : (t : List Opt) (us : List Use) (n : Text) (b : Bool) (u : Use) → AllKnown t us
    → opt_of t n ≡ Some (opt_at n b) → use_of n us ≡ Some u → is_some u.1 ≡ b
use_holds t us n b u k here e =
    let known = use_known t us n u k e in
    let name : u.0 ≡ n = same_text u.0 n (found_passes (λ x. bytes_eq x.0 n) us u e) in
    let both : Some (opt_at u.0 (is_some u.1)) ≡ Some (opt_at n b) = sym known ∙ ap (opt_of t) name ∙ here in
    ap (takes b) both
  where
    takes : Bool → Option Opt → Bool
    takes d None = d
    takes d (Some o) = o.takes_value

pub valued_is : (t : List Opt) (us : List Use) (n : Text) → AllKnown t us → opt_of t n ≡ Some (opt_at n true)
    → option_and_then (λ u. slice_get (row_values u.1) 0) (use_of n us) ≡ value_of n us
valued_is t us n k here = go (use_of n us) refl
  where
    value : (v : Option Text) → is_some v ≡ true → slice_get (row_values v) 0 ≡ v
    value None e = absurd (true≢false (sym e))
    value (Some x) e = refl

    go : (o : Option Use) → use_of n us ≡ o → option_and_then (λ u. slice_get (row_values u.1) 0) o ≡ option_and_then
        (λ u. u.1) o
    go None e = refl
    go (Some u) e = value u.1 (use_holds t us n true u k here e)

abbrev pub truth : Bool → Text
truth b = if b then codes "true" else codes "false"

pub flag_is : (t : List Opt) (us : List Use) (n : Text) → AllKnown t us → opt_of t n ≡ Some (opt_at n false)
    → flag_text (use_of n us) ≡ Some (truth (is_used n us))
flag_is t us n k here = go (use_of n us) refl ∙ ap (λ b. Some (truth b)) (some_used us)
  where
    value : (v : Option Text) → is_some v ≡ false → slice_get (row_values v) 0 ≡ Some (codes "true")
    value None e = refl
    value (Some x) e = absurd (true≢false e)

    go : (o : Option Use) → use_of n us ≡ o → flag_text o ≡ Some (truth (is_some o))
    go None e = refl
    go (Some u) e = value u.1 (use_holds t us n false u k here e)

    some_used : (vs : List Use) → is_some (use_of n vs) ≡ is_used n vs
    some_used [] = refl
    some_used (x ∷ xs) = at (bytes_eq x.0 n) (some_used xs)
      where
        at : (b : Bool) → is_some (use_of n xs) ≡ is_used n xs
            → is_some (if b then Some x else use_of n xs) ≡ (b || is_used n xs)
        at true h = refl
        at false h = h
