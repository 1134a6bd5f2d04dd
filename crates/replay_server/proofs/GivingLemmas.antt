-- Bytes that are given piece by piece.
use Rattle.std.proofs.Common.{◌≡◌, ◌∙◌, ◌<◌, ℕ, List, [], ◌++◌, length, take, drop, Option, Some, None, Ok, Err}
use Rattle.std.proofs.Common.{refl, sym, ap, append_assoc, append-nil, arith, length-drop}
use Rattle.std.specs.Prelude.{Result, OnOk, OnErr}
use Rattle.std.specs.Option.{option_map}
use Rattle.std.proofs.lemmas.List.{take-append-drop}
use Rattle.mm_base.specs.Link.{LinkBytes, giving}
use Rattle.replay_server.specs.Giving.{Breaks}
use Rattle.replay_server.specs.inside.Giving.{Pours}

pub giving_more : (a b : List ℕ) (told : Option LinkBytes)
    → option_map (giving b) (option_map (giving a) told) ≡ option_map (giving (a ++ b)) told
giving_more a b None = refl
giving_more a b (Some l) = ap (λ given. Some (record l { given = given })) (append_assoc l.given a b)

pub giving_nothing : (told : Option LinkBytes) → told ≡ option_map (giving []) told
giving_nothing None = refl
giving_nothing (Some l) = ap (λ given. Some (record l { given = given })) (sym (append-nil l.given))

kept : (f : LinkBytes → LinkBytes) → ((l : LinkBytes) → f l ≡ l) → (told : Option LinkBytes) → option_map f told ≡ told
kept f same None = refl
kept f same (Some l) = ap Some (same l)

pub on_err : {T E : Type 0} (r : Result T E) {P : Type 0} → P → OnErr r P
on_err (Ok x) p = tt
on_err (Err e) p = p

pub on_ok_map : {T E : Type 0} (r : Result T E) {P Q : Type 0} → (P → Q) → OnOk r P → OnOk r Q
on_ok_map (Ok x) f p = f p
on_ok_map (Err e) f p = tt

-- A front of a piece was given, and then a write was refused.
pub broken : (piece : List ℕ) (at : ℕ) (f : LinkBytes → LinkBytes) (old mid new : Option LinkBytes)
    → at < length piece → mid ≡ option_map (giving (take at piece)) old
    → ((l : LinkBytes) → f l ≡ l) → new ≡ option_map f mid → Breaks old new piece
broken piece at f old mid new short before same refused = record {
  given = take at piece;
  more = drop at piece;
  told = refused ∙ kept f same mid ∙ before;
  split = sym (take-append-drop at piece);
  some = omega (arith, short, length-drop at piece);
}

-- What was gathered is given, and then a piece at once.
pub poured_through : (old mid new : Option LinkBytes) (gathered gathered' piece : List ℕ)
    → Pours old mid gathered gathered' [] → gathered' ≡ []
    → new ≡ option_map (giving piece) mid → Pours old new gathered gathered' piece
poured_through old mid new gathered gathered' piece first empty given = record {
  poured = first.poured ++ piece;
  told = given ∙ ap (option_map (giving piece)) first.told ∙ giving_more first.poured piece old;
  all = ap (λ l. l ++ piece) (sym (append-nil gathered) ∙ first.all ∙ ap (λ l. first.poured ++ l) empty
      ∙ append-nil first.poured)
      ∙ sym (append-nil (first.poured ++ piece)) ∙ ap (λ l. (first.poured ++ piece) ++ l) (sym empty);
}
