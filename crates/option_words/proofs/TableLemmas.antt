-- A command is built to its table, and its matches are what the words spell.
use Rattle.std.proofs.Common.{◌≡◌, ◌∙◌, ◌&&◌, ◌<◌, ℕ, zero, suc, Bool, false, ◌∷◌, ◌++◌, length, get_or, map, arith}
use Rattle.std.proofs.Common.{true, refl, sym, ap, ap₂, subst, List, [], Option, Some, None}
use Rattle.std.specs.List.{list_all, list_any}
use Rattle.std.specs.Option.{MatchOption}
use Rattle.std.specs.Prelude.{not}
use Rattle.std.proofs.lemmas.List.{map-append}
use Rattle.clap.specs.Walk.{Rule, Text, first_of, is_early_multiple, one_of, rows_of}
use Rattle.clap.specs.Simple.{App, built, filled, filled_from, is_buildable, is_in_order, is_ready, is_ready_leaf}
use Rattle.clap.specs.Simple.{is_simple, matches_of, with_index, with_rule}
use Rattle.clap.specs.Faults.{fault_of, is_free_app, is_simple_and_free}
use Rattle.clap.specs.Matches.{first_value, found_of, one_text}
use Rattle.clap.specs.declared.parser.matches.ArgMatches.{ArgMatches}
use Rattle.clap.proofs.WalkLemmas.{first_value-rows, one_text-rows}
use Rattle.option_words.specs.Options.{Opt, Use, is_used, options, value_of}
use Rattle.option_words.specs.inside.Options.{is_fit}
use Rattle.option_words.specs.inside.ClapTable.{app_for, rows_for, rule, rule_for, rules_of}
use Rattle.option_words.specs.inside.Found.{IsMatchOf}
use Rattle.option_words.proofs.Rules.{opt_of}
use Rattle.option_words.proofs.Machine.{alone, clap_is, Fails}
use Rattle.option_words.proofs.Reading.{run_options, all_plain_or_option}
use Rattle.option_words.proofs.Getters.{default_in, default_row, first_valued, one_flag}
use Rattle.option_words.proofs.KnownUses.{options_known, truth, valued_is, flag_is}

-- ---- building

filled_is : (o : Opt) (i : ℕ) → with_index i (filled (rule_for o)) ≡ rule o
filled_is o i = go o.name o.takes_value
  where
    go : (n : Text) (b : Bool) → with_index i (filled (rule_for (record { name = n; takes_value = b }))) ≡ rule
        (record { name = n; takes_value = b })
    go n true = refl
    go n false = refl

filled-rules : (t : List Opt) (i : ℕ) → filled_from i (map rule_for t) ≡ rules_of t
filled-rules [] i = refl
filled-rules (o ∷ t) i = ap₂ (λ (r : Rule) (rs : List Rule). r ∷ rs) (filled_is o i) (filled-rules t i)

table_built : (t : List Opt) → built (app_for t) ≡ alone t
table_built t = ap (λ (rs : List Rule). record (alone t) { top = record (alone t).top { rules = rs } })
    (filled-rules t 1)

all_simple : (t : List Opt) → list_all (λ a. a.is_simple) (map rule_for t) ≡ true
all_simple [] = refl
all_simple (o ∷ t) = all_simple t

all_built_simple : (t : List Opt) → list_all (λ a. a.is_simple) (rules_of t) ≡ true
all_built_simple [] = refl
all_built_simple (o ∷ t) = all_built_simple t

all_free : (t : List Opt) → list_all (λ a. a.is_free) (rules_of t) ≡ true
all_free [] = refl
all_free (o ∷ t) = all_free t

none_early : (n : ℕ) (t : List Opt) → list_any (is_early_multiple n) (rules_of t) ≡ false
none_early n [] = refl
none_early n (o ∷ t) = none_early n t

pub table_simple : (t : List Opt) → is_simple (app_for t) ≡ true
table_simple t =
    ap (λ (b : App). is_buildable (app_for t) && (is_ready b.top && list_all is_ready_leaf b.subs)) (table_built t)
    ∙ ap (λ b. (b && true) && (is_ready (alone t).top && true)) (all_simple t)
    ∙ ap (λ b. (b && is_in_order (rules_of t)) && true) (all_built_simple t)
    ∙ ap (λ b. not b && true) (none_early _ t)

pub table_free : (t : List Opt) → is_simple_and_free (app_for t) ≡ true
table_free t =
    ap (λ b. b && is_free_app (built (app_for t))) (table_simple t)
    ∙ ap is_free_app (table_built t) ∙ ap (λ b. b && true) (all_free t)

pub one_more_rule : (t : List Opt) (o : Opt) → with_rule (app_for t) (rule_for o) ≡ app_for (t ++ o ∷ [])
one_more_rule t o = ap (λ (rs : List Rule). record (app_for t) { top = record (app_for t).top { rules = rs } })
    (sym (map-append rule_for t (o ∷ [])))

-- ---- the parse

abbrev Made : List Opt → List Text → Option (List Use) → Type 0
Made t ws r =
    MatchOption r (Fails (fault_of (app_for t) ws))
    (λ us. (fault_of (app_for t) ws ≡ []) × (matches_of (app_for t) ws ≡ rows_for t us))

made : (t : List Opt) (ws : List Text) → list_all is_fit ws ≡ true → Made t ws (options t ws)
made t ws fit = subst (Made t ws) (run_options t ws fit)
    (clap_is t (app_for t) ws (table_built t) refl (all_plain_or_option ws fit))

pub matched : (t : List Opt) (ws : List Text) (m : ArgMatches) → list_all is_fit ws ≡ true
    → fault_of (app_for t) ws ≡ []
    → rows_of (found_of m) ≡ matches_of (app_for t) ws → IsMatchOf t ws (Some m)
matched t ws m fit none same = go (options t ws) refl (made t ws fit)
  where
    go : (r : Option (List Use)) → options t ws ≡ r → Made t ws r → IsMatchOf t ws (Some m)
    go None e h = absurd (h none)
    go (Some us) e h = (us, e, same ∙ h.1)

pub unmatched : (t : List Opt) (ws : List Text) → list_all is_fit ws ≡ true → Fails (fault_of (app_for t) ws)
    → IsMatchOf t ws None
unmatched t ws fit fails = go (options t ws) refl (made t ws fit)
  where
    go : (r : Option (List Use)) → options t ws ≡ r → Made t ws r → options t ws ≡ None
    go None e h = e
    go (Some us) e h = absurd (fails h.0)

-- ---- the getters, where the premises compute at a table that is written out

pub valued : (t : List Opt) (ws : List Text) (us : List Use) (m : ArgMatches) → options t ws ≡ Some us
    → rows_of (found_of m) ≡ rows_for t us
    → (n : Text) → default_in t n ≡ None → opt_of t n ≡ Some (record { name = n; takes_value = true })
    → first_value (found_of m) n ≡ value_of n us
valued t ws us m e same n d o =
    first_value-rows (found_of m) n ∙ ap (first_of n) same ∙ first_valued t us n d
    ∙ valued_is t us n (options_known t ws us e) o

pub flagged : (t : List Opt) (ws : List Text) (us : List Use) (m : ArgMatches) → options t ws ≡ Some us
    → rows_of (found_of m) ≡ rows_for t us
    → (n : Text) → default_in t n ≡ Some (default_row n) → opt_of t n ≡ Some (record { name = n; takes_value = false })
    → one_text (found_of m) n ≡ Some (truth (is_used n us))
flagged t ws us m e same n d o =
    one_text-rows (found_of m) n ∙ ap (one_of n) same ∙ one_flag t us n d ∙ flag_is t us n (options_known t ws us e) o

-- a word that isn't fit makes the test false
pub one_unfit : {X : Type 0} (f : X → List ℕ) (xs : List X) (i : ℕ) (x : X) → i < length xs → x ≡ get_or xs i x
    → is_fit (f x) ≡ false
    → false ≡ list_all is_fit (map f xs)
one_unfit f [] i x lt e h = absurd (omega arith)
one_unfit f (y ∷ ys) zero x lt e h =
    sym (ap (λ b. b && list_all is_fit (map f ys)) (ap (λ z. is_fit (f z)) (sym e) ∙ h))
one_unfit f (y ∷ ys) (suc i) x lt e h = go (is_fit (f y)) (one_unfit f ys i x (omega arith) e h)
  where
    go : (b : Bool) → false ≡ list_all is_fit (map f ys) → false ≡ (b && list_all is_fit (map f ys))
    go true k = k
    go false k = refl
