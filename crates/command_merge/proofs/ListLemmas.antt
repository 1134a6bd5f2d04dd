-- The names on the lines of a list.
use Rattle.std.proofs.Common.{◌≡◌, ◌≢◌, ◌∙◌, ℕ, ◌+◌, ◌<◌, ◌≤◌, Bool, true, false, cond, nat_lt, List, [], ◌∷◌}
use Rattle.std.proofs.Common.{◌++◌, Option, Some, None, Result, Ok, Err, IfSome, IfNone, MatchResult, inr, length, map}
use Rattle.std.proofs.Common.{ap, subst, sym, refl, rules, tests, arith}
use Rattle.std.proofs.lemmas.Str.{IsUtf8-from_is_utf8, is_utf8-from_IsUtf8}
use Rattle.std.specs.Result.{result_ok}
use Rattle.std.specs.Str.{IsUtf8, is_utf8}
use Rattle.command_ends.specs.Causes.{Text}
use Rattle.command_ends.specs.Stops.{RefusesText}
use Rattle.command_ends.specs.declared.cause.Cause.{Cause}
use Rattle.command_ends.specs.declared.cause.Cause.TheVariants.{Refused}
use Rattle.command_ends.specs.declared.cause.Refusal.{Refusal}
use Rattle.command_ends.specs.declared.cause.Refusal.TheVariants.{BadInput}
use Rattle.command_ends.proofs.ReadingLemmas.{IsOfText, bad_input}
use Rattle.command_merge.specs.List.{is_name, line_fault, list_fault, list_refusal, list_refused}
use Rattle.command_merge.specs.List.{number_of, place_of}
use Rattle.command_merge.specs.declared.list.ListError.{ListError}
use Rattle.command_merge.specs.declared.list.ListError.TheVariants.{Empty, BadName, TooMany, OutOfMemory}

pub name_is : (line : List ℕ) → 0 < length line → IsUtf8 line → is_name line ≡ true
name_is [] some utf8 = absurd (omega arith)
name_is (byte ∷ bytes) some utf8 = is_utf8-from_IsUtf8 (byte ∷ bytes) utf8

not_text : (line : List ℕ) (b : Bool) → is_utf8 line ≡ b → ¬ (IsUtf8 line) → b ≡ false
not_text line true e bad = absurd (bad (IsUtf8-from_is_utf8 line e))
not_text line false e bad = refl

pub name_isnt : (line : List ℕ) → ¬ (IsUtf8 line) → is_name line ≡ false
name_isnt [] bad = refl
name_isnt (byte ∷ bytes) bad = not_text (byte ∷ bytes) (is_utf8 (byte ∷ bytes)) refl bad

-- a line that is UTF-8 is a name, and another isn't
pub name_found : {S E : Type 0} (now : S → List ℕ) (Bad : E → Type 0) (line : List ℕ) (read : Result S E)
    (found : Option S) → found ≡ result_ok read → 0 < length line
    → MatchResult read (λ s. (now s ≡ line) × IsUtf8 line) Bad
    → IfSome found (λ s. (now s ≡ line) × (is_name line ≡ true))
name_found {S = S} now Bad line (Ok s) found is some said =
    subst (λ (o : Option S). IfSome o (λ t. (now t ≡ line) × (is_name line ≡ true))) (sym is)
    (said.0, name_is line some said.1)
name_found {S = S} now Bad line (Err e) found is some said =
    subst (λ (o : Option S). IfSome o (λ t. (now t ≡ line) × (is_name line ≡ true))) (sym is) tt

pub name_missing : {S E : Type 0} (Good : S → Type 0) (Bad : E → Type 0) (line : List ℕ) (read : Result S E)
    (found : Option S) → found ≡ result_ok read → MatchResult read Good (λ e. ¬ (IsUtf8 line) × Bad e)
    → IfNone found (is_name line ≡ false)
name_missing {S = S} Good Bad line (Ok s) found is said =
    subst (λ (o : Option S). IfNone o (is_name line ≡ false)) (sym is) tt
name_missing {S = S} Good Bad line (Err e) found is said =
    subst (λ (o : Option S). IfNone o (is_name line ≡ false)) (sym is) (name_isnt line said.0)

pub empty_isnt : (line : List ℕ) → length line ≡ 0 → is_name line ≡ false
empty_isnt [] none = refl
empty_isnt (byte ∷ bytes) none = absurd (omega arith)

pub line_read : (count : ℕ) (line : List ℕ) (rest : List (List ℕ)) → count < 16 → is_name line ≡ true
    → line_fault (count + 1) (line ∷ rest) ≡ line_fault (count + 2) rest
line_read count line rest few name =
    let within : nat_lt 16 (count + 1) ≡ false = search (rules, tests) in
    let next : count + 1 + 1 ≡ count + 2 = omega arith in
    ap (λ b. cond b (Some TooMany) (cond (is_name line) (line_fault (count + 1 + 1) rest) (Some (BadName (count + 1)))))
    within
    ∙ ap (λ b. cond b (line_fault (count + 1 + 1) rest) (Some (BadName (count + 1)))) name
    ∙ ap (λ n. line_fault n rest) next

pub line_bad : (count : ℕ) (line : List ℕ) (rest : List (List ℕ)) → count < 16 → is_name line ≡ false
    → line_fault (count + 1) (line ∷ rest) ≡ Some (BadName (count + 1))
line_bad count line rest few name =
    let within : nat_lt 16 (count + 1) ≡ false = search (rules, tests) in
    ap (λ b. cond b (Some TooMany) (cond (is_name line) (line_fault (count + 1 + 1) rest) (Some (BadName (count + 1)))))
    within
    ∙ ap (λ b. cond b (line_fault (count + 1 + 1) rest) (Some (BadName (count + 1)))) name

pub line_over : (count : ℕ) (line : List ℕ) (rest : List (List ℕ)) → 16 ≤ count
    → line_fault (count + 1) (line ∷ rest) ≡ Some TooMany
line_over count line rest many =
    let over : nat_lt 16 (count + 1) ≡ true = search (rules, tests) in
    ap (λ b. cond b (Some TooMany) (cond (is_name line) (line_fault (count + 1 + 1) rest) (Some (BadName (count + 1)))))
    over

-- one name more was read
pub names_more : {S : Type 0} (f : S → List ℕ) (names : List S) (name : S) (line : List ℕ) (rest : List (List ℕ))
    → f name ≡ line → map f (names ++ name ∷ []) ++ rest ≡ map f names ++ (line ∷ rest)
names_more f [] name line rest e = λ j. e j ∷ rest
names_more f (x ∷ xs) name line rest e = ap (λ l. f x ∷ l) (names_more f xs name line rest e)

-- a list's text is refused for its error
pub list_said : (name : Text) (text : List ℕ) (error : ListError) (refusal : Refusal) (cause : Cause)
    → list_fault text ≡ Some error → list_refused name (Some error) ≡ Some refusal
    → cause ≡ Refused refusal → RefusesText (list_refusal name text) cause
unfolding list_refusal
list_said name text error refusal cause h e is = inr (refusal, is, ap (list_refused name) h ∙ e)

pub list_bad : (name : Text) (error : ListError) → error ≢ OutOfMemory
    → list_refused name (Some error) ≡ Some (BadInput name (number_of error) (place_of error))
list_bad name Empty a = refl
list_bad name (BadName line) a = refl
list_bad name TooMany a = refl
list_bad name OutOfMemory a = absurd (a refl)

pub list_accepted : (name : Text) (text : List ℕ) → list_fault text ≡ None → list_refusal name text ≡ None
unfolding list_refusal
list_accepted name text e = ap (list_refused name) e

list_status : (name : Text) (fault : Option ListError) (refusal : Refusal) → list_refused name fault ≡ Some refusal
    → IsOfText refusal
list_status name None refusal e = absurd (cc e)
list_status name (Some Empty) refusal e = bad_input name 1 0 refusal e
list_status name (Some (BadName line)) refusal e = bad_input name 2 line refusal e
list_status name (Some TooMany) refusal e = bad_input name 3 0 refusal e
list_status name (Some OutOfMemory) refusal e = absurd (cc e)

pub list_text : (name : Text) (text : List ℕ) (refusal : Refusal) → list_refusal name text ≡ Some refusal
    → IsOfText refusal
unfolding list_refusal
list_text name text refusal e = list_status name (list_fault text) refusal e
