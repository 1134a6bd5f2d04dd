-- What words give, and the jobs that are made of that.
use Rattle.std.proofs.Common.{◌≡◌, ℕ, ◌+◌, Bool, not, cond, List, [], ◌∷◌, Option, Some, None, length, map, nat_lt}
use Rattle.std.proofs.Common.{take, drop, refl, ap, sym, string_bytes, ◌∙◌}
use Rattle.std.specs.List.{drop-map, position, prefix_len, take-map}
use Rattle.std.specs.Option.{option_map}
use Rattle.std.specs.Prelude.{option_and_then}
use Rattle.std.proofs.lemmas.List.{length-map}
use Rattle.option_words.specs.Givens.{givens}
use Rattle.option_words.specs.Options.{Opt, Text}
use Rattle.option_words.specs.Shells.{Split, ends_options, split_at, split_words}
use Rattle.option_words.specs.Values.{split_of}
use Rattle.option_words.specs.declared.split.SplitWords.{SplitWords}

prefix_len-map : {X Y : Type 0} (f : X → Y) (p : Y → Bool) (xs : List X)
    → prefix_len p (map f xs) ≡ prefix_len (λ x. p (f x)) xs
prefix_len-map f p [] = refl
prefix_len-map f p (x ∷ xs) = ap (λ n. cond (p (f x)) (1 + n) 0) (prefix_len-map f p xs)

position-map : {X Y : Type 0} (f : X → Y) (p : Y → Bool) (xs : List X)
    → position p (map f xs) ≡ position (λ x. p (f x)) xs
position-map f p xs =
    ap (λ n. cond (nat_lt n (length (map f xs))) (Some n) None) (prefix_len-map f (λ y. not (p y)) xs)
    ∙ ap (λ n. cond (nat_lt (prefix_len (λ x. not (p (f x))) xs) n) (Some (prefix_len (λ x. not (p (f x))) xs)) None)
    (length-map xs f)

-- The words whose options end at `place`.
pub split_there : {S : Type 0} (f : S → Text) (table : List Opt) (words : List S) (place : ℕ)
    → position (λ w. ends_options (f w)) words ≡ Some place
    → split_words table (map f words) ≡ option_map (λ given. record {
      given = given;
      shells = map f (drop (place + 1) words);
    }) (givens table (map f (take place words)))
unfolding split_words
split_there f table words place e =
    ap (λ o. split_at table o (map f words)) (position-map f ends_options words ∙ e)
    ∙ (λ j. option_map (λ given. record { given = given; shells = drop-map f (place + 1) words j })
    (givens table (take-map f place words j)))

pub split_nowhere : {S : Type 0} (f : S → Text) (table : List Opt) (words : List S)
    → position (λ w. ends_options (f w)) words ≡ None → split_words table (map f words) ≡ None
unfolding split_words
split_nowhere f table words e = ap (λ o. split_at table o (map f words)) (position-map f ends_options words ∙ e)

-- The job of what was read of words with shells, and that there is none.
pub job_of_split : {J : Type 0} (from : List (Option Text) → List Text → Option J) (table : List Opt)
    (words : List Text) (read : Option SplitWords) (split : SplitWords) (job : Option J)
    → read ≡ Some split → option_map split_of read ≡ split_words table words
    → job ≡ from (split_of split).given (split_of split).shells
    → job ≡ option_and_then (λ s. from s.given s.shells) (split_words table words)
job_of_split from table words read split job is e made =
    made ∙ ap (option_and_then (λ (s : Split). from s.given s.shells)) (sym (ap (option_map split_of) is) ∙ e)

pub no_job_of_split : {J : Type 0} (from : List (Option Text) → List Text → Option J) (table : List Opt)
    (words : List Text) (read : Option SplitWords)
    → read ≡ None → option_map split_of read ≡ split_words table words
    → None ≡ option_and_then (λ s. from s.given s.shells) (split_words table words)
no_job_of_split from table words read is e =
    ap (option_and_then (λ (s : Split). from s.given s.shells)) (sym (ap (option_map split_of) is) ∙ e)

-- The same for words without shells.
pub job_of_given : {J X : Type 0} (from : List (Option Text) → Option J) (texts : X → List (Option Text))
    (table : List Opt) (words : List Text) (read : Option X) (given : X) (job : Option J)
    → read ≡ Some given → option_map texts read ≡ givens table words → job ≡ from (texts given)
    → job ≡ option_and_then from (givens table words)
job_of_given from texts table words read given job is e made =
    made ∙ ap (option_and_then from) (sym (ap (option_map texts) is) ∙ e)

pub no_job_of_given : {J X : Type 0} (from : List (Option Text) → Option J) (texts : X → List (Option Text))
    (table : List Opt) (words : List Text) (read : Option X)
    → read ≡ None → option_map texts read ≡ givens table words
    → None ≡ option_and_then from (givens table words)
no_job_of_given from texts table words read is e =
    ap (option_and_then from) (sym (ap (option_map texts) is) ∙ e)
