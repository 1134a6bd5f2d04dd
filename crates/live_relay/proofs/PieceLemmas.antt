-- The bytes that a relay keeps while their packets may still leave.
use Rattle.std.proofs.Common.{◌≡◌, ℕ, ◌-◌, ◌+◌, ◌∙◌, refl, List, [], ◌∷◌, ◌++◌, Some, None}
use Rattle.std.proofs.Common.{ap, arith, get_or, length, nat_eq, sym, ⊎_elim}
use Rattle.std.proofs.lemmas.Bool.{cases_eq}
use Rattle.std.proofs.lemmas.List.{length-append}
use Rattle.std.proofs.lemmas.Map.{update_apart, update_here}
use Rattle.std.proofs.Math.ListN.{get_or-append}
use Rattle.std.specs.Map.{update}
use Rattle.live_relay.specs.declared.kept.Kept.{Kept}
use Rattle.live_relay.specs.inside.Pieces.{IsPiece, Keeps, kept_at}

-- one that goes leaves the others
pub keeps_rest : (all : List (List ℕ)) (number : ℕ) (old new : Kept)
    → ((n : ℕ) → kept_at new n ≡ update nat_eq (kept_at old) number None n) → Keeps all old → Keeps all new
keeps_rest all number old new rest keeps n bytes is = ⊎_elim
    (λ (here : n ≡ number). let no : None ≡ Some bytes =
    sym (rest n ∙ ap (update nat_eq (kept_at old) number None) here ∙ update_here (kept_at old) number None) ∙ is
    in cc no)
    (λ apart. keeps n bytes (sym (rest n ∙ update_apart (kept_at old) number None n apart) ∙ is))
    (cases_eq n number)

-- more that was received changes no bytes
pub keeps_more : (all more : List (List ℕ)) (k : Kept) → Keeps all k → Keeps (all ++ more) k
keeps_more all more k keeps n bytes is =
    let long = length-append all more in
    let piece = keeps n bytes is in
    let within = piece.within in
    record {
      within = omega arith;
      bytes_are = piece.bytes_are ∙ sym (get_or-append all more [] (n - 1) within);
    }

get_last : (all : List (List ℕ)) (bytes : List ℕ) → get_or (all ++ bytes ∷ []) (length all) [] ≡ bytes
get_last [] bytes = refl
get_last (x ∷ all) bytes = get_last all bytes

-- what was received last is kept as the packet that it is
pub keeps_last : (all : List (List ℕ)) (old new : Kept) (number : ℕ) (bytes : List ℕ) → number ≡ length all + 1
    → ((n : ℕ) → kept_at new n ≡ update nat_eq (kept_at old) number (Some bytes) n) → Keeps all old
    → Keeps (all ++ bytes ∷ []) new
keeps_last all old new number bytes at up keeps n bytes' is = ⊎_elim
    (λ (here : n ≡ number). last here)
    (λ apart. keeps_more all (bytes ∷ []) old keeps n bytes'
    (sym (up n ∙ update_apart (kept_at old) number (Some bytes) n apart) ∙ is))
    (cases_eq n number)
  where
    last : n ≡ number → IsPiece (all ++ bytes ∷ []) n bytes'
    last here =
        let long = length-append all (bytes ∷ []) in
        let place : n - 1 ≡ length all = omega arith in
        let same : Some bytes ≡ Some bytes' =
        sym (up n ∙ ap (update nat_eq (kept_at old) number (Some bytes)) here
        ∙ update_here (kept_at old) number (Some bytes)) ∙ is in
        record {
          within = omega arith;
          bytes_are = sym (cc same)
              ∙ sym (ap (λ i. get_or (all ++ bytes ∷ []) i []) place ∙ get_last all bytes);
        }
