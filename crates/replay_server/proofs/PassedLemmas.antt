-- What passes over a link, one call more.
use Rattle.std.proofs.Common.{◌≡◌, ◌∙◌, ℕ, ◌+◌, List, [], ◌∷◌, ◌++◌, length, take, drop, map, Option, Some, None, Ok}
use Rattle.std.proofs.Common.{Err, refl, sym, ap, subst, append_assoc, append-nil, length-append}
use Rattle.std.specs.Prelude.{IfSome}
use Rattle.std.specs.Option.{option_map}
use Rattle.std.proofs.lemmas.List.{map-append, take-append-drop}
use Rattle.mm_base.specs.Link.{LinkBytes, read_begun, moved, giving, after_read}
use Rattle.mm_base.specs.declared.errors.EndError.TheVariants.{Failed, OutOfMemory}
use Rattle.mm_base.specs.declared.read_start.ReadStart.{ReadStart}
use Rattle.replay_server.specs.Links.{Passed, IfBothTold, counted_from}

abbrev pub start_at : List ℕ → List ℕ → ReadStart
start_at taken given = record { taken = length taken; given = length given }

pub passed_none : (told : Option LinkBytes) → IfBothTold (Passed [] [] []) told told
passed_none None = tt
passed_none (Some l) = record {
  taken_is = sym (append-nil l.taken);
  rest_is = refl;
  given_is = sym (append-nil l.given);
  reads_is = sym (append-nil l.reads);
}

-- ---- over bytes that are told

given_more : (taken given : List ℕ) (starts : List ReadStart) (a b : LinkBytes) → Passed taken given starts a b
    → (piece : List ℕ) → Passed taken (given ++ piece) starts a (giving piece b)
given_more taken given starts a b x piece = record {
  taken_is = x.taken_is;
  rest_is = x.rest_is;
  given_is = ap (λ l. l ++ piece) x.given_is ∙ append_assoc a.given given piece;
  reads_is = x.reads_is;
}

begun : (taken given : List ℕ) (starts : List ReadStart) (a b : LinkBytes) → Passed taken given starts a b
    → Passed taken given (starts ++ start_at taken given ∷ []) a (read_begun b)
begun taken given starts a b x =
    let started : ℕ → ℕ → ReadStart = λ t g. record { taken = t; given = g } in
    let same : started (length b.taken) (length b.given) ≡ counted_from a (start_at taken given)
    = ap (λ t. started t (length b.given)) (ap length x.taken_is ∙ length-append a.taken taken)
    ∙ ap (started (length a.taken + length taken)) (ap length x.given_is ∙ length-append a.given given) in
    record {
      taken_is = x.taken_is;
      rest_is = x.rest_is;
      given_is = x.given_is;
      reads_is = ap (λ l. l ++ started (length b.taken) (length b.given) ∷ []) x.reads_is
          ∙ append_assoc a.reads (map (counted_from a) starts) _
          ∙ ap (λ s. a.reads ++ (map (counted_from a) starts ++ s ∷ [])) same
          ∙ ap (λ l. a.reads ++ l) (sym (map-append (counted_from a) starts (start_at taken given ∷ [])));
    }

taken_more : (taken given : List ℕ) (starts : List ReadStart) (a b : LinkBytes) → Passed taken given starts a b
    → (n : ℕ) (piece : List ℕ) → piece ≡ take n b.rest
    → Passed (taken ++ piece) given starts a (moved n b)
taken_more taken given starts a b x n piece e = record {
  taken_is = ap (λ l. l ++ take n b.rest) x.taken_is ∙ append_assoc a.taken taken (take n b.rest)
      ∙ ap (λ l. a.taken ++ (taken ++ l)) (sym e);
  rest_is = x.rest_is ∙ ap (λ l. taken ++ l) (sym (take-append-drop n b.rest))
      ∙ sym (append_assoc taken (take n b.rest) (drop n b.rest))
      ∙ ap (λ l. (taken ++ l) ++ drop n b.rest) (sym e);
  given_is = x.given_is;
  reads_is = x.reads_is;
}

-- ---- over links

module _ (taken given : List ℕ) (starts : List ReadStart) where
  give_told : (start now : Option LinkBytes) → IfBothTold (Passed taken given starts) start now → (piece : List ℕ)
      → IfBothTold (Passed taken (given ++ piece) starts) start (option_map (giving piece) now)
  give_told None None x piece = tt
  give_told None (Some b) x piece = absurd x
  give_told (Some a) None x piece = absurd x
  give_told (Some a) (Some b) x piece = given_more taken given starts a b x piece

  pub passed_give : (start now new : Option LinkBytes) → IfBothTold (Passed taken given starts) start now
      → (piece : List ℕ) → new ≡ option_map (giving piece) now
      → IfBothTold (Passed taken (given ++ piece) starts) start new
  passed_give start now new x piece e = subst (IfBothTold (Passed taken (given ++ piece) starts) start) (sym e)
      (give_told start now x piece)

  read_told : (start now : Option LinkBytes) → IfBothTold (Passed taken given starts) start now
      → (n : ℕ) (piece : List ℕ) → IfSome now (λ l. piece ≡ take n l.rest)
      → IfBothTold (Passed (taken ++ piece) given (starts ++ start_at taken given ∷ [])) start
      (option_map (after_read (Ok n)) now)
  read_told None None x n piece e = tt
  read_told None (Some b) x n piece e = absurd x
  read_told (Some a) None x n piece e = absurd x
  read_told (Some a) (Some b) x n piece e = taken_more taken given _ a (read_begun b) (begun taken given starts a b x)
      n piece e

  pub passed_read : (start now new : Option LinkBytes) → IfBothTold (Passed taken given starts) start now
      → (n : ℕ) (piece : List ℕ)
      → IfSome now (λ l. piece ≡ take n l.rest) → new ≡ option_map (after_read (Ok n)) now
      → IfBothTold (Passed (taken ++ piece) given (starts ++ start_at taken given ∷ [])) start new
  passed_read start now new x n piece e is =
      subst (IfBothTold (Passed (taken ++ piece) given (starts ++ start_at taken given ∷ [])) start) (sym is)
      (read_told start now x n piece e)

  failed_told : (start now : Option LinkBytes) → IfBothTold (Passed taken given starts) start now
      → IfBothTold (Passed taken given (starts ++ start_at taken given ∷ [])) start
      (option_map (after_read (Err Failed)) now)
  failed_told None None x = tt
  failed_told None (Some b) x = absurd x
  failed_told (Some a) None x = absurd x
  failed_told (Some a) (Some b) x = begun taken given starts a b x

  pub passed_failed : (start now new : Option LinkBytes) → IfBothTold (Passed taken given starts) start now
      → new ≡ option_map (after_read (Err Failed)) now
      → IfBothTold (Passed taken given (starts ++ start_at taken given ∷ [])) start new
  passed_failed start now new x is =
      subst (IfBothTold (Passed taken given (starts ++ start_at taken given ∷ [])) start) (sym is)
      (failed_told start now x)

  refused_told : (start now : Option LinkBytes) → IfBothTold (Passed taken given starts) start now
      → IfBothTold (Passed taken given starts) start (option_map (after_read (Err OutOfMemory)) now)
  refused_told None None x = tt
  refused_told None (Some b) x = absurd x
  refused_told (Some a) None x = absurd x
  refused_told (Some a) (Some b) x = x

  pub passed_refused : (start now new : Option LinkBytes) → IfBothTold (Passed taken given starts) start now
      → new ≡ option_map (after_read (Err OutOfMemory)) now
      → IfBothTold (Passed taken given starts) start new
  passed_refused start now new x is = subst (IfBothTold (Passed taken given starts) start) (sym is)
      (refused_told start now x)
