-- clap's walk over the words of such a command, as steps of a small machine.
use Rattle.std.proofs.Common.{◌≡◌, ◌∙◌, ◌&&◌, ◌||◌, ℕ, Bool, cond, true, false, refl, sym, ap, subst, List, [], ◌∷◌}
use Rattle.std.proofs.Common.{◌++◌, drop, Option, Some, None, append-nil}
use Rattle.std.proofs.Common.{eqb-true}
use Rattle.std.specs.List.{list_all, list_any, fold}
use Rattle.std.proofs.Math.Bool.{true≢false}
use Rattle.clap.proofs.WalkLemmas.{both}
use Rattle.std.specs.Option.{option_map, option_map_or, MatchOption}
use Rattle.std.specs.Prelude.{if◌then◌else◌, option_and_then, not, ◌==◌, codes, is_some, nat_lt}
use Rattle.std.specs.Str.{bytes_eq}
use Rattle.clap.specs.Kinds.{Kinds, or_else, check_kinds}
use Rattle.clap.specs.Takes.{is_given}
use Rattle.clap.proofs.FaultLemmas.{leaf_fault}
use Rattle.clap.specs.Lexer.{long_of, short_of, long_of_rest, short_of_rest, strip_byte}
use Rattle.clap.specs.Walk.{Held, Rule, Row, Step, Text, Waiting, Walk, idle, option, next, trailing, value, arg_by_id}
use Rattle.clap.specs.Walk.{at_row, has_row, more_values, used, used_by_id, settled, reacted, subcommand_or_other}
use Rattle.clap.specs.Walk.{long_or_other, short_or_plain, option_word, after_step, after_flag, long_met, positional}
use Rattle.clap.specs.Walk.{plain_word, word_met, walked, subcommand_met, with_default, finished, nothing_held}
use Rattle.clap.specs.Walk.{rows_after}
use Rattle.clap.specs.Simple.{App, Shape, marked_built, with_leaf_noted, built, argument_words, matches_of, names_of}
use Rattle.clap.specs.Faults.{use_fault, settle_fault, turn_fault, word_fault, flag_word_fault, bundle_fault}
use Rattle.clap.specs.Faults.{other_fault, react_fault, step_fault, positional_fault, stray_fault, long_fault}
use Rattle.clap.specs.Faults.{walk_fault, default_fault, given_default_fault, defaults_fault, check_fault, level_fault}
use Rattle.clap.specs.Faults.{built_fault, fault_of}
use Rattle.clap.specs.declared.error.kind.ErrorKind.TheVariants as kind
use Rattle.clap.specs.declared.parser.matches.ValueSource.TheVariants.{CommandLine}
use Rattle.option_words.specs.Options.{Opt, Use, is_option_word, is_used, name_and_value}
use Rattle.option_words.specs.inside.ClapTable.{bare_app, rule, rules_of, row, rows}
use Rattle.option_words.proofs.Rules.{opt_of, by_id, by_long, no_place, text_is_itself, found_again, has_row-rows}
use Rattle.option_words.proofs.Rules.{absent, rows-append}

-- what is pending between two words: nothing, an option with its value, or one that waits for it
pub data Mode : Type 0 where
  clean : Mode
  holds : Text → Text → Mode
  wants : Text → Mode

abbrev pub State : Type 0
State = List Use × Mode

abbrev pub add : List Use → Use → Option (List Use)
add us u = if is_used u.0 us then None else Some (us ++ u ∷ [])

abbrev pub settle : List Use → Mode → Option (List Use)
settle us clean = Some us
settle us (holds n v) = add us (n, Some v)
settle us (wants n) = None

abbrev pub to_clean : Option (List Use) → Option State
to_clean = option_map (λ us. (us, clean))

abbrev pub after_name : Option (List Use) → Text → Bool → Option Text → Option State
after_name settled n true (Some v) = to_clean (option_and_then (λ us. add us (n, Some v)) settled)
after_name settled n true None = option_map (λ us. (us, wants n)) settled
after_name settled n false (Some v) = None
after_name settled n false None = to_clean (option_and_then (λ us. add us (n, None)) settled)

abbrev pub option_step : List Opt → State → Text × Option Text → Option State
option_step t s p = option_and_then (λ o. after_name (settle s.0 s.1) o.name o.takes_value p.1) (opt_of t p.0)

abbrev pub plain_step : List Use → Mode → Text → Option State
plain_step us (wants n) w = Some (us, holds n w)
plain_step us m w = None

abbrev pub step : List Opt → State → Text → Option State
step t s w = if is_option_word w then option_step t s (name_and_value (drop 2 w)) else plain_step s.0 s.1 w

unfoldable pub run : List Opt → State → List Text → Option (List Use)
run t s [] = settle s.0 s.1
run t s (w ∷ ws) = option_and_then (λ r. run t r ws) (step t s w)

-- ---- the same in clap's walk

abbrev pub shape : List Opt → Shape
shape t = record (with_leaf_noted (marked_built bare_app.top)) { rules = rules_of t }

abbrev pub taker : Text → Opt
taker n = record { name = n; takes_value = true }

abbrev pub pending_at : Mode → Option (Text × List Text)
pending_at clean = None
pending_at (holds n v) = Some (n, v ∷ [])
pending_at (wants n) = Some (n, [])

abbrev pub waiting_at : Mode → Waiting
waiting_at (wants n) = option n
waiting_at m = idle

abbrev pub held : List Use → Mode → Held
held us m = record { rows = rows us; pending = pending_at m; skip = 0 }

abbrev pub walk_at : List Use → Mode → Walk
walk_at us m = record { held = held us m; waiting = waiting_at m; position = 1; is_trailing = false; stopped = None }

abbrev pub Known : List Opt → Mode → Type 0
Known t clean = Unit {0}
Known t (holds n v) = opt_of t n ≡ Some (taker n)
Known t (wants n) = opt_of t n ≡ Some (taker n)

-- ---- kinds

abbrev pub Fails : Kinds → Type 0
Fails ks = ks ≡ [] → ⊥

pub past : (a b : Kinds) → a ≡ [] → or_else a b ≡ b
past a b e = ap (λ ks. or_else ks b) e

pub fails_first : (a b : Kinds) → Fails a → Fails (or_else a b)
fails_first [] b h = absurd (h refl)
fails_first (k ∷ ks) b h = λ e. cc

pub fails_second : (a b : Kinds) → Fails b → Fails (or_else a b)
fails_second [] b h = h
fails_second (k ∷ ks) b h = λ e. cc

conflict : (r b : Bool) → r ≡ b → or_else (if r && not false then kind.ArgumentConflict ∷ [] else []) [] ≡ cond b
    (kind.ArgumentConflict ∷ []) []
conflict r b e = subst (λ x. or_else (if r && not false then kind.ArgumentConflict ∷ [] else []) [] ≡ cond x
    (kind.ArgumentConflict ∷ []) []) e (go r)
  where
    go : (x : Bool) → or_else (if x && not false then kind.ArgumentConflict ∷ [] else []) [] ≡ cond x
        (kind.ArgumentConflict ∷ []) []
    go true = refl
    go false = refl

-- ---- one use

abbrev pub values_in : Option Text → List Text
values_in None = []
values_in (Some v) = v ∷ []

abbrev pub named : Text → Option Text → Opt
named n v = record { name = n; takes_value = is_some v }

use_fault_is : (us : List Use) (n : Text) (v : Option Text) (b : Bool) → is_used n us ≡ b
    → use_fault false (rule (named n v)) (values_in v) (rows us) ≡ cond b (kind.ArgumentConflict ∷ []) []
use_fault_is us n None b e = conflict (has_row n (rows us)) b (has_row-rows us n ∙ e)
use_fault_is us n (Some v) b e = conflict (has_row n (rows us)) b (has_row-rows us n ∙ e)

used_is : (us : List Use) (n : Text) (v : Option Text) → is_used n us ≡ false
    → used (rule (named n v)) (values_in v) (rows us) ≡ rows (us ++ (n, v) ∷ [])
used_is us n None e =
    ap (at_row n (more_values CommandLine (codes "true" ∷ [])) (row (n, None) ∷ [])) (absent us n (λ _. []) [] e
    ∙ append-nil (rows us))
    ∙ absent us n (more_values CommandLine (codes "true" ∷ [])) (row (n, None) ∷ []) e
    ∙ sym (rows-append us ((n, None) ∷ []))
used_is us n (Some v) e =
    ap (at_row n (more_values CommandLine (v ∷ [])) (row (n, Some v) ∷ [])) (absent us n (λ _. []) [] e
    ∙ append-nil (rows us))
    ∙ absent us n (more_values CommandLine (v ∷ [])) (row (n, Some v) ∷ []) e ∙ sym (rows-append us ((n, Some v) ∷ []))

-- ---- what is pending is used

abbrev at_rows : List Row → Held
at_rows rs = record { rows = rs; pending = None; skip = 0 }

abbrev SettleIs : List Opt → List Use → Mode → Type 0
SettleIs t us m =
    MatchOption (settle us m) (Fails (settle_fault (rules_of t) false (held us m)))
    (λ d. (settle_fault (rules_of t) false (held us m) ≡ []) × (settled (rules_of t) (held us m) ≡ held d clean))

pub settle_is : (t : List Opt) (us : List Use) (m : Mode) → Known t m → SettleIs t us m
settle_is t us clean k = (refl, refl)
settle_is t us (holds n v) k = go (is_used n us) refl (by_id t n ∙ ap (option_map rule) k)
  where
    go : (b : Bool) → is_used n us ≡ b → arg_by_id (rules_of t) n ≡ Some (rule (taker n))
        → MatchOption (if b then None else Some (us ++ (n, Some v) ∷ []))
        (Fails (settle_fault (rules_of t) false (held us (holds n v))))
        (λ d. (settle_fault (rules_of t) false (held us (holds n v)) ≡ [])
        × (settled (rules_of t) (held us (holds n v)) ≡ held d clean))
    go true e found =
        let is : settle_fault (rules_of t) false (held us (holds n v)) ≡ kind.ArgumentConflict ∷ [] =
        ap (λ o. option_map_or (λ a. use_fault false a (v ∷ []) (rows us)) o []) found
        ∙ use_fault_is us n (Some v) true e in
        λ z. cc
    go false e found = (
      ap (λ o. option_map_or (λ a. use_fault false a (v ∷ []) (rows us)) o []) found
          ∙ use_fault_is us n (Some v) false e,
      ap at_rows (ap (λ o. used_by_id o (v ∷ []) (rows us)) found ∙ used_is us n (Some v) e),
    )
settle_is t us (wants n) k =
    let is : settle_fault (rules_of t) false (held us (wants n)) ≡ kind.InvalidValue ∷ [] =
    ap (λ o. option_map_or (λ a. use_fault false a [] (rows us)) o []) (by_id t n ∙ ap (option_map rule) k) in
    λ z. cc

-- ---- one more use

abbrev ReactIs : List Opt → List Use → Mode → Text → Option Text → Option (List Use) → Type 0
ReactIs t us m n v added =
    MatchOption added (Fails (react_fault (rules_of t) false (rule (named n v)) (values_in v) (held us m)))
    (λ d. (react_fault (rules_of t) false (rule (named n v)) (values_in v) (held us m) ≡ [])
    × (reacted (rules_of t) (rule (named n v)) (values_in v) (held us m) ≡ held d clean))

react_is : (t : List Opt) (us : List Use) (m : Mode) (n : Text) (v : Option Text) → SettleIs t us m
    → ReactIs t us m n v (option_and_then (λ d. add d (n, v)) (settle us m))
react_is t us m n v s = go (settle us m) s
  where
    go : (o : Option (List Use))
        → MatchOption o (Fails (settle_fault (rules_of t) false (held us m)))
        (λ d. (settle_fault (rules_of t) false (held us m) ≡ []) × (settled (rules_of t) (held us m) ≡ held d clean))
        → ReactIs t us m n v (option_and_then (λ d. add d (n, v)) o)
    go None f = fails_first _ _ f
    go (Some d) f = used_or_not (is_used n d) refl
      where
        rows_are : (settled (rules_of t) (held us m)).rows ≡ rows d
        rows_are = ap (λ (h : Held). h.rows) f.1

        fault_is : (b : Bool) → is_used n d ≡ b
            → react_fault (rules_of t) false (rule (named n v)) (values_in v) (held us m) ≡ cond b
            (kind.ArgumentConflict ∷ []) []
        fault_is b e =
            past _ _ f.0 ∙ ap (λ rs. use_fault false (rule (named n v)) (values_in v) rs) rows_are
            ∙ use_fault_is d n v b e

        used_or_not : (b : Bool) → is_used n d ≡ b → ReactIs t us m n v (if b then None else Some (d ++ (n, v) ∷ []))
        used_or_not true e = let is = fault_is true e in λ z. cc
        used_or_not false e = (
          fault_is false e,
          ap at_rows (ap (λ rs. used (rule (named n v)) (values_in v) rs) rows_are ∙ used_is d n v e),
        )

-- ---- a word that is no option

no_subcommand : (waiting : Waiting) (w : Text) → subcommand_met [] waiting w ≡ None
no_subcommand idle w = refl
no_subcommand (option n) w = refl
no_subcommand positional w = refl

module _ (x : ℕ) (xs : Text) (e : (x == 45) ≡ false) where
  no_dashes : bytes_eq (x ∷ xs) (45 ∷ 45 ∷ []) ≡ false
  no_dashes = ap (λ b. b && bytes_eq xs (45 ∷ [])) e

  no_long : long_of (x ∷ xs) ≡ None
  no_long = ap (λ b. option_and_then long_of_rest (option_and_then (strip_byte 45) (if b then Some xs else None))) e

  no_short : short_of (x ∷ xs) ≡ None
  no_short = ap (λ b. option_and_then short_of_rest (if b then Some xs else None)) e

  met_plain : (c : List Rule) (waiting : Waiting) (h : Held)
      → word_met c [] false waiting 1 (x ∷ xs) h ≡ plain_word c waiting (x ∷ xs) h
  met_plain c waiting h =
      ap (λ o. subcommand_or_other c o waiting 1 (x ∷ xs) h) (no_subcommand waiting (x ∷ xs))
      ∙ ap (λ b. if b then (h, trailing 1) else long_or_other c waiting (x ∷ xs) (long_of (x ∷ xs)) h) no_dashes
      ∙ ap (λ o. long_or_other c waiting (x ∷ xs) o h) no_long
      ∙ ap (λ o. short_or_plain c waiting (x ∷ xs) o h) no_short

  fault_plain : (t : List Opt) (waiting : Waiting) (h : Held) → word_fault (shape t) [] false waiting (x ∷ xs) h ≡ []
  fault_plain t waiting h =
      ap (λ o. other_fault (shape t) o (x ∷ xs) h) (no_subcommand waiting (x ∷ xs))
      ∙ ap (λ b. if b then [] else flag_word_fault (rules_of t) false (long_of (x ∷ xs)) (x ∷ xs) h) no_dashes
      ∙ ap (λ o. flag_word_fault (rules_of t) false o (x ∷ xs) h) no_long
      ∙ ap (λ o. option_map_or (λ flags. bundle_fault (rules_of t) false flags h) o []) no_short

  turn_plain : (t : List Opt) (us : List Use) (m : Mode)
      → turn_fault (shape t) [] (walk_at us m) (x ∷ xs)
      ≡ step_fault (shape t) 1 (plain_word (rules_of t) (waiting_at m) (x ∷ xs) (held us m)).0
      (plain_word (rules_of t) (waiting_at m) (x ∷ xs) (held us m)).1
  turn_plain t us m =
      past _ _ (fault_plain t (waiting_at m) (held us m))
      ∙ ap (λ (r : Held × Step). step_fault (shape t) 1 r.0 r.1) (met_plain (rules_of t) (waiting_at m) (held us m))

  walked_plain : (t : List Opt) (us : List Use) (m : Mode)
      → walked (rules_of t) [] (walk_at us m) (x ∷ xs)
      ≡ after_step (rules_of t) (x ∷ xs) (walk_at us m)
      (plain_word (rules_of t) (waiting_at m) (x ∷ xs) (held us m)).0
      (plain_word (rules_of t) (waiting_at m) (x ∷ xs) (held us m)).1
  unfolding walked
  walked_plain t us m =
      ap (λ (r : Held × Step). after_step (rules_of t) (x ∷ xs) (walk_at us m) r.0 r.1)
      (met_plain (rules_of t) (waiting_at m) (held us m))

abbrev pub StepIs : List Opt → List Use → Mode → Text → Option State → Type 0
StepIs t us m w r =
    MatchOption r (Fails (turn_fault (shape t) [] (walk_at us m) w))
    (λ s. (turn_fault (shape t) [] (walk_at us m) w ≡ [])
    × (walked (rules_of t) [] (walk_at us m) w ≡ walk_at s.0 s.1) × Known t s.1)

stray : (t : List Opt) (h : Held) → step_fault (shape t) 1 h value ≡ kind.UnknownArgument ∷ []
stray t h = ap (λ o. option_map_or (λ a. positional_fault (rules_of t) false a h) o (stray_fault (shape t)))
    (no_place t 1)

plain_is : (t : List Opt) (us : List Use) (m : Mode) → Known t m → (x : ℕ) (xs : Text) → (x == 45) ≡ false
    → StepIs t us m (x ∷ xs) (plain_step us m (x ∷ xs))
plain_is t us clean k x xs e =
    let is = turn_plain x xs e t us clean ∙ stray t (held us clean) in λ z. cc
plain_is t us (holds n v) k x xs e =
    let is = turn_plain x xs e t us (holds n v) ∙ stray t (held us (holds n v)) in λ z. cc
plain_is t us (wants n) k x xs e =
    let found : arg_by_id (rules_of t) n ≡ Some (rule (taker n)) = by_id t n ∙ ap (option_map rule) k in (
      turn_plain x xs e t us (wants n),
      walked_plain x xs e t us (wants n)
          ∙ ap (λ o. after_step (rules_of t) (x ∷ xs) (walk_at us (wants n))
          (option_word o n (x ∷ xs) (held us (wants n))).0
          (next (option_word o n (x ∷ xs) (held us (wants n))).1)) found
          ∙ ap (λ b. record {
            held = held us (holds n (x ∷ xs));
            waiting = if nat_lt (if b then 1 else 0) 1
                then option n else idle;
            position = 1;
            is_trailing = false;
            stopped = None;
          }) (text_is_itself n),
      k,
    )

-- ---- a word that names an option

module _ (z : ℕ) (r : Text) where
  abbrev word : Text
  word = 45 ∷ 45 ∷ z ∷ r

  abbrev parts : Text × Option Text
  parts = name_and_value (z ∷ r)

  abbrev met_by : List Rule → Waiting → Option Rule → Option Text → Held → Held × Step
  met_by c waiting o v h = after_flag c waiting word (long_met c o v h).0 (long_met c o v h).1

  met_long : (t : List Opt) (waiting : Waiting) (h : Held)
      → word_met (rules_of t) [] false waiting 1 word h ≡ met_by (rules_of t) waiting
      (option_map rule (opt_of t parts.0)) parts.1 h
  met_long t waiting h =
      ap (λ o. subcommand_or_other (rules_of t) o waiting 1 word h) (no_subcommand waiting word)
      ∙ ap (λ o. met_by (rules_of t) waiting o parts.1 h) (by_long t parts.0)

  fault_long : (t : List Opt) (waiting : Waiting) (h : Held)
      → word_fault (shape t) [] false waiting word h ≡ long_fault (rules_of t) false
      (option_map rule (opt_of t parts.0)) parts.1 h
  fault_long t waiting h =
      ap (λ o. other_fault (shape t) o word h) (no_subcommand waiting word)
      ∙ ap (λ o. long_fault (rules_of t) false o parts.1 h) (by_long t parts.0)

  abbrev turn_by : List Opt → List Use → Mode → Option Rule → Option Text → Kinds
  turn_by t us m o v =
      or_else (long_fault (rules_of t) false o v (held us m))
      (step_fault (shape t) 1 (met_by (rules_of t) (waiting_at m) o v (held us m)).0
      (met_by (rules_of t) (waiting_at m) o v (held us m)).1)

  turn_long : (t : List Opt) (us : List Use) (m : Mode)
      → turn_fault (shape t) [] (walk_at us m) word ≡ turn_by t us m (option_map rule (opt_of t parts.0)) parts.1
  turn_long t us m =
      ap (λ (k : Kinds). or_else k (step_fault (shape t) 1
      (word_met (rules_of t) [] false (waiting_at m) 1 word (held us m)).0
      (word_met (rules_of t) [] false (waiting_at m) 1 word (held us m)).1))
      (fault_long t (waiting_at m) (held us m))
      ∙ ap (λ (q : Held × Step). or_else (long_fault (rules_of t) false (option_map rule (opt_of t parts.0)) parts.1
      (held us m)) (step_fault (shape t) 1 q.0 q.1)) (met_long t (waiting_at m) (held us m))

  abbrev walked_by : List Opt → List Use → Mode → Option Rule → Option Text → Walk
  walked_by t us m o v =
      after_step (rules_of t) word (walk_at us m) (met_by (rules_of t) (waiting_at m) o v (held us m)).0
      (met_by (rules_of t) (waiting_at m) o v (held us m)).1

  walked_long : (t : List Opt) (us : List Use) (m : Mode)
      → walked (rules_of t) [] (walk_at us m) word ≡ walked_by t us m (option_map rule (opt_of t parts.0)) parts.1
  unfolding walked
  walked_long t us m =
      ap (λ (q : Held × Step). after_step (rules_of t) word (walk_at us m) q.0 q.1)
      (met_long t (waiting_at m) (held us m))

abbrev Turns : List Opt → Kinds → Walk → Option State → Type 0
Turns t turn after r = MatchOption r (Fails turn) (λ s. (turn ≡ []) × (after ≡ walk_at s.0 s.1) × Known t s.1)

-- the option of this name, with a value in the word or none
abbrev opt_at : Text → Bool → Opt
opt_at n b = record { name = n; takes_value = b }

abbrev at_held : Waiting → Held → Walk
at_held waiting h = record { held = h; waiting = waiting; position = 1; is_trailing = false; stopped = None }

reacts : (t : List Opt) (us : List Use) (m : Mode) (n : Text) (v : Option Text) (added : Option (List Use))
    → ReactIs t us m n v added
    → Turns t (or_else (react_fault (rules_of t) false (rule (named n v)) (values_in v) (held us m)) [])
    (at_held idle (reacted (rules_of t) (rule (named n v)) (values_in v) (held us m))) (to_clean added)
reacts t us m n v None f = fails_first _ _ f
reacts t us m n v (Some d) f = (past _ _ f.0, ap (at_held idle) f.1, tt)

waits_is : (t : List Opt) (us : List Use) (m : Mode) (n : Text) (o : Option (List Use)) → opt_of t n ≡ Some (taker n)
    → MatchOption o (Fails (settle_fault (rules_of t) false (held us m)))
    (λ d. (settle_fault (rules_of t) false (held us m) ≡ []) × (settled (rules_of t) (held us m) ≡ held d clean))
    → Turns t (or_else (settle_fault (rules_of t) false (held us m)) [])
    (at_held (option n) (record (settled (rules_of t) (held us m)) { pending = Some (n, []) }))
    (option_map (λ us. (us, wants n)) o)
waits_is t us m n None k f = fails_first _ _ f
waits_is t us m n (Some d) k f =
    (past _ _ f.0, ap (λ (h : Held). at_held (option n) (record h { pending = Some (n, []) })) f.1, k)

long_found : (t : List Opt) (us : List Use) (m : Mode) (z : ℕ) (r : Text) (n : Text) (b : Bool) (v : Option Text)
    → opt_of t n ≡ Some (opt_at n b) → SettleIs t us m
    → Turns t (turn_by z r t us m (Some (rule (opt_at n b))) v) (walked_by z r t us m (Some (rule (opt_at n b))) v)
    (after_name (settle us m) n b v)
long_found t us m z r n true None k s = waits_is t us m n (settle us m) k s
long_found t us m z r n true (Some v) k s = reacts t us m n (Some v) _ (react_is t us m n (Some v) s)
long_found t us m z r n false None k s = reacts t us m n None _ (react_is t us m n None s)
long_found t us m z r n false (Some v) k s = λ q. cc

at_turn : (t : List Opt) (a b : Kinds) (x y : Walk) (r : Option State) → a ≡ b → x ≡ y → Turns t b y r → Turns t a x r
at_turn t a b x y None e f h = λ q. h (sym e ∙ q)
at_turn t a b x y (Some s) e f h = (e ∙ h.0, f ∙ h.1, h.2)

long_is : (t : List Opt) (us : List Use) (m : Mode) → Known t m → (z : ℕ) (r : Text)
    → StepIs t us m (45 ∷ 45 ∷ z ∷ r) (option_step t (us, m) (name_and_value (z ∷ r)))
long_is t us m k z r =
    at_turn t _ _ _ _ (option_step t (us, m) (name_and_value (z ∷ r))) (turn_long z r t us m) (walked_long z r t us m)
    (go (opt_of t (name_and_value (z ∷ r)).0) refl)
  where
    go : (o : Option Opt) → opt_of t (name_and_value (z ∷ r)).0 ≡ o
        → Turns t (turn_by z r t us m (option_map rule o) (name_and_value (z ∷ r)).1)
        (walked_by z r t us m (option_map rule o) (name_and_value (z ∷ r)).1)
        (option_and_then (λ x. after_name (settle us m) x.name x.takes_value (name_and_value (z ∷ r)).1) o)
    go None e = λ q. cc
    go (Some o) e = long_found t us m z r o.name o.takes_value (name_and_value (z ∷ r)).1
        (found_again t (name_and_value (z ∷ r)).0 o e) (settle_is t us m k)

-- ---- any word

-- the word isn't empty, and begins with no hyphen or is `--` and more
abbrev pub is_plain_or_option : Text → Bool
is_plain_or_option [] = false
is_plain_or_option (x ∷ xs) = not (x == 45) || is_option_word (x ∷ xs)

pub no_option : (x : ℕ) (xs : Text) → (x == 45) ≡ false → is_option_word (x ∷ xs) ≡ false
no_option x [] e = refl
no_option x (y ∷ []) e = refl
no_option x (y ∷ z ∷ r) e = ap (λ b. b && (y == 45)) e

plain_case : (t : List Opt) (us : List Use) (m : Mode) → Known t m → (x : ℕ) (xs : Text) → (x == 45) ≡ false
    → StepIs t us m (x ∷ xs) (step t (us, m) (x ∷ xs))
plain_case t us m k x xs e =
    subst (λ b. StepIs t us m (x ∷ xs) (if b then option_step t (us, m) (name_and_value (drop 2 (x ∷ xs)))
    else plain_step us m (x ∷ xs)))
    (sym (no_option x xs e)) (plain_is t us m k x xs e)

hyphen_case : (t : List Opt) (us : List Use) (m : Mode) → Known t m → (x : ℕ) (xs : Text) → (x == 45) ≡ true
    → is_option_word (x ∷ xs) ≡ true
    → StepIs t us m (x ∷ xs) (step t (us, m) (x ∷ xs))
hyphen_case t us m k x [] e w = absurd (true≢false (sym w))
hyphen_case t us m k x (y ∷ []) e w = absurd (true≢false (sym w))
hyphen_case t us m k x (y ∷ z ∷ r) e w =
    let two = both (x == 45) (y == 45) w in
    let first : 45 ≡ x = sym (eqb-true x 45 two.0) in
    let second : 45 ≡ y = sym (eqb-true y 45 two.1) in
    subst (λ (a : ℕ). StepIs t us m (a ∷ y ∷ z ∷ r) (step t (us, m) (a ∷ y ∷ z ∷ r))) first
    (subst (λ (b : ℕ). StepIs t us m (45 ∷ b ∷ z ∷ r) (step t (us, m) (45 ∷ b ∷ z ∷ r))) second (long_is t us m k z r))

pub step_is : (t : List Opt) (us : List Use) (m : Mode) → Known t m → (w : Text) → is_plain_or_option w ≡ true
    → StepIs t us m w (step t (us, m) w)
step_is t us m k [] fit = absurd (true≢false (sym fit))
step_is t us m k (x ∷ xs) fit = go (x == 45) refl fit
  where
    go : (b : Bool) → (x == 45) ≡ b → (not b || is_option_word (x ∷ xs)) ≡ true
        → StepIs t us m (x ∷ xs) (step t (us, m) (x ∷ xs))
    go true e f = hyphen_case t us m k x xs e f
    go false e f = plain_case t us m k x xs e

-- ---- all words

abbrev pub walk_end : List Opt → Walk → List Text → Held
walk_end t w ws = (fold (walked (rules_of t) []) w ws).held

abbrev pub faults_from : List Opt → Walk → List Text → Kinds
faults_from t w ws = or_else (walk_fault (shape t) [] w ws) (settle_fault (rules_of t) false (walk_end t w ws))

abbrev pub RunIs : List Opt → Walk → List Text → Option (List Use) → Type 0
RunIs t w ws r =
    MatchOption r (Fails (faults_from t w ws)) (λ us. (faults_from t w ws ≡ [])
    × (settled (rules_of t) (walk_end t w ws) ≡ held us clean))

faults_cons : (t : List Opt) (x : Walk) (w : Text) (ws : List Text)
    → faults_from t x (w ∷ ws)
    ≡ or_else (or_else (turn_fault (shape t) [] x w) (walk_fault (shape t) [] (walked (rules_of t) [] x w) ws))
    (settle_fault (rules_of t) false (walk_end t (walked (rules_of t) [] x w) ws))
unfolding walk_fault
faults_cons t x w ws = refl

at_run : (a b : Kinds) (g h : Held) (us : Option (List Use))
    → a ≡ b → g ≡ h → MatchOption us (Fails b) (λ d. (b ≡ []) × (h ≡ held d clean))
    → MatchOption us (Fails a) (λ d. (a ≡ []) × (g ≡ held d clean))
at_run a b g h None e f x = λ q. x (sym e ∙ q)
at_run a b g h (Some d) e f x = (e ∙ x.0, f ∙ x.1)

run_step : (t : List Opt) (w : Text) (ws : List Text) (us : List Use) (m : Mode) (r : Option State) → StepIs t us m w r
    → ((u : List Use) (n : Mode) → Known t n → RunIs t (walk_at u n) ws (run t (u, n) ws))
    → RunIs t (walk_at us m) (w ∷ ws) (option_and_then (λ s. run t s ws) r)
run_step t w ws us m None f more =
    λ q. fails_first _ _ (fails_first _ _ f) (sym (faults_cons t (walk_at us m) w ws) ∙ q)
run_step t w ws us m (Some s) f more =
    at_run _ _ _ _ (run t s ws)
    (faults_cons t (walk_at us m) w ws
    ∙ ap (λ (k : Kinds). or_else (or_else k (walk_fault (shape t) [] (walked (rules_of t) [] (walk_at us m) w) ws))
    (settle_fault (rules_of t) false (walk_end t (walked (rules_of t) [] (walk_at us m) w) ws))) f.0
    ∙ ap (λ (y : Walk). faults_from t y ws) f.1)
    (ap (λ (y : Walk). settled (rules_of t) (walk_end t y ws)) f.1)
    (more s.0 s.1 f.2)

pub run_is : (t : List Opt) (ws : List Text) → list_all is_plain_or_option ws ≡ true → (us : List Use) (m : Mode)
    → Known t m
    → RunIs t (walk_at us m) ws (run t (us, m) ws)
unfolding run walk_fault
run_is t [] fit us m k = settle_is t us m k
run_is t (w ∷ ws) fit us m k =
    let each = both (is_plain_or_option w) (list_all is_plain_or_option ws) fit in
    run_step t w ws us m (step t (us, m) w) (step_is t us m k w each.0) (run_is t ws each.1)

-- ---- the whole parse

no_default : (b : Bool) (r : List Row) (n : Text) → default_fault r (rule (opt_at n b)) ≡ []
no_default true r n = go (has_row n r)
  where
    go : (x : Bool) → (if x || true then [] else given_default_fault (rule (taker n)) []) ≡ []
    go true = refl
    go false = refl
no_default false r n = go (has_row n r)
  where
    go : (x : Bool) → (if x || false then [] else given_default_fault (rule (opt_at n false)) (codes "false" ∷ [])) ≡ []
    go true = refl
    go false = refl

no_defaults : (t : List Opt) (r : List Row) → defaults_fault r (rules_of t) ≡ []
unfolding defaults_fault
no_defaults [] r = refl
no_defaults (o ∷ t) r = past _ _ (no_default o.takes_value r o.name) ∙ no_defaults t (with_default r (rule o))

none_required : (t : List Opt) (r : List Row) → list_any (λ a. a.required && not (is_given a.id r)) (rules_of t) ≡ false
none_required [] r = refl
none_required (o ∷ t) r = none_required t r

no_check : (t : List Opt) (r : List Row) → check_fault (shape t) r false ≡ []
no_check t r = ap (λ b. check_kinds false false b) (none_required t r)

regroup : (a b c : Kinds) → or_else a (or_else [] (or_else b c)) ≡ or_else (or_else a b) c
regroup [] b c = refl
regroup (k ∷ ks) b c = refl

or_none : (a b : Kinds) → b ≡ [] → or_else a b ≡ a
or_none [] b e = e
or_none (k ∷ ks) b e = refl

abbrev pub alone : List Opt → App
alone t = record { top = shape t; subs = [] }

level_is : (t : List Opt) (ws : List Text) → level_fault (shape t) [] nothing_held ws false [] ≡ faults_from t
    (walk_at [] clean) ws
level_is t ws =
    let end : Held = walk_end t (walk_at [] clean) ws in
    regroup (walk_fault (shape t) [] (walk_at [] clean) ws) (settle_fault (rules_of t) false end) _
    ∙ or_none (faults_from t (walk_at [] clean) ws) _
    (past _ _ (no_defaults t (settled (rules_of t) end).rows) ∙ no_check t (finished (rules_of t) end))

-- what clap makes of fit words, for a command that is built to this table
pub clap_is : (t : List Opt) (a : App) (ws : List Text) → built a ≡ alone t → a.top.no_binary_name ≡ true
    → list_all is_plain_or_option ws ≡ true
    → MatchOption (run t ([], clean) ws) (Fails (fault_of a ws))
    (λ us. (fault_of a ws ≡ []) × (matches_of a ws ≡ fold with_default (rows us) (rules_of t)))
clap_is t a ws b bare fit = go (run t ([], clean) ws) (run_is t ws fit [] clean tt)
  where
    words_are : argument_words a ws ≡ ws
    words_are = ap (λ x. if x then ws else drop 1 ws) bare

    faults_are : fault_of a ws ≡ faults_from t (walk_at [] clean) ws
    faults_are =
        ap (λ (x : App). built_fault x nothing_held (argument_words a ws)) b
        ∙ ap (λ v. built_fault (alone t) nothing_held v) words_are
        ∙ leaf_fault (alone t) nothing_held ws refl ∙ level_is t ws

    rows_are : matches_of a ws ≡ finished (rules_of t) (walk_end t (walk_at [] clean) ws)
    rows_are =
        ap (λ (x : App). rows_after x.top.rules (names_of x) (argument_words a ws)) b
        ∙ ap (λ v. rows_after (rules_of t) [] v) words_are

    go : (r : Option (List Use)) → RunIs t (walk_at [] clean) ws r
        → MatchOption r (Fails (fault_of a ws)) (λ us. (fault_of a ws ≡ [])
        × (matches_of a ws ≡ fold with_default (rows us) (rules_of t)))
    go None f = λ q. f (sym faults_are ∙ q)
    go (Some us) f = (faults_are ∙ f.0, rows_are ∙ ap (λ (h : Held). fold with_default h.rows (rules_of t)) f.1)
