-- What a link has done, one call more.
use Rattle.std.proofs.Common.{◌≡◌, ◌∙◌, ◌≤◌, ℕ, ◌+◌, List, [], ◌∷◌, ◌++◌, length, take, Option, Some, None, Ok, Err}
use Rattle.std.proofs.Common.{refl, sym, ap, subst, append_assoc, append-nil, length-append, arith}
use Rattle.std.specs.Prelude.{All, IfSome}
use Rattle.std.specs.Option.{option_map}
use Rattle.std.proofs.lemmas.List.Elements.{All-nil, All-push, All-weaker}
use Rattle.mm_base.specs.Link.{LinkBytes, giving, after_read}
use Rattle.mm_base.specs.declared.errors.EndError.{EndError}
use Rattle.mm_base.specs.declared.errors.EndError.TheVariants.{Failed, OutOfMemory as NoMemory}
use Rattle.mm_base.specs.declared.read_start.ReadStart.{ReadStart}
use Rattle.replay_server.specs.Links.{IsAtEnd}
use Rattle.replay_server.specs.Sessions.{most}
use Rattle.replay_server.proofs.PassedLemmas.{start_at, passed_none, passed_give, passed_read, passed_failed}
use Rattle.replay_server.proofs.PassedLemmas.{passed_refused}
use Rattle.record_proxy.specs.Courses.{Side}
use Rattle.record_proxy.specs.Ends.{WhenBegun}
use Rattle.record_proxy.specs.Links.{IsUsed}
use Rattle.record_proxy.specs.inside.Progress.{History}

abbrev pub side : List ℕ → List ℕ → Side
side taken given = record { taken = taken; given = given }

pub at_end : (now : Option LinkBytes) → IfSome now (λ l. l.rest ≡ []) → IsAtEnd (option_map (after_read (Ok 0)) now)
at_end None h = tt
at_end (Some l) h = h

at_end_given : (now : Option LinkBytes) (piece : List ℕ) → IsAtEnd now → IsAtEnd (option_map (giving piece) now)
at_end_given None piece h = tt
at_end_given (Some l) piece h = h

-- an input stays at its end while bytes are given
pub stays_at_end : (now new : Option LinkBytes) (piece : List ℕ) → new ≡ option_map (giving piece) now → IsAtEnd now
    → IsAtEnd new
stays_at_end now new piece e h = subst IsAtEnd (sym e) (at_end_given now piece h)

none_taken : (told : Option LinkBytes) → IfSome told (λ l. [] ≡ take {A = ℕ} 0 l.rest)
none_taken None = tt
none_taken (Some l) = refl

module _ {Ready : List ℕ → List ℕ → Type 0} where
  -- ---- how reads began

  when_more : (taken given more also : List ℕ) (s : ReadStart) → WhenBegun Ready (side taken given) s
      → WhenBegun Ready (side (taken ++ more) (given ++ also)) s
  when_more taken given more also s x = record {
    taken_then = x.taken_then;
    taken_later = x.taken_later ++ more;
    given_then = x.given_then;
    given_later = x.given_later ++ also;
    taken_is = ap (λ l. l ++ more) x.taken_is ∙ append_assoc x.taken_then x.taken_later more;
    given_is = ap (λ l. l ++ also) x.given_is ∙ append_assoc x.given_then x.given_later also;
    start_is = x.start_is;
    ready = x.ready;
  }

  all_more : (taken given more also : List ℕ) (starts : List ReadStart)
      → All (WhenBegun Ready (side taken given)) starts
      → All (WhenBegun Ready (side (taken ++ more) (given ++ also))) starts
  all_more taken given more also starts x =
      All-weaker (WhenBegun Ready (side taken given)) (WhenBegun Ready (side (taken ++ more) (given ++ also)))
      (when_more taken given more also) starts x

  all_given : (taken given also : List ℕ) (starts : List ReadStart) → All (WhenBegun Ready (side taken given)) starts
      → All (WhenBegun Ready (side taken (given ++ also))) starts
  all_given taken given also starts x =
      subst (λ l. All (WhenBegun Ready (side l (given ++ also))) starts) (append-nil taken)
      (all_more taken given [] also starts x)

  all_taken : (taken given more : List ℕ) (starts : List ReadStart) → All (WhenBegun Ready (side taken given)) starts
      → All (WhenBegun Ready (side (taken ++ more) given)) starts
  all_taken taken given more starts x =
      subst (λ l. All (WhenBegun Ready (side (taken ++ more) l)) starts) (append-nil given)
      (all_more taken given more [] starts x)

  when_now : (taken given : List ℕ) → Ready taken given → WhenBegun Ready (side taken given) (start_at taken given)
  when_now taken given ready = record {
    taken_then = taken;
    taken_later = [];
    given_then = given;
    given_later = [];
    taken_is = sym (append-nil taken);
    given_is = sym (append-nil given);
    start_is = refl;
    ready = ready;
  }

  all_now : (taken given : List ℕ) (starts : List ReadStart) → Ready taken given
      → All (WhenBegun Ready (side taken given)) starts
      → All (WhenBegun Ready (side taken given)) (starts ++ start_at taken given ∷ [])
  all_now taken given starts ready x =
      All-push (WhenBegun Ready (side taken given)) starts (start_at taken given) x (when_now taken given ready)

  -- ---- calls

  pub history_start : (told : Option LinkBytes) → History Ready told told (side [] []) 0
  history_start told = record {
    starts = [];
    passed = passed_none told;
    prompt = All-nil (WhenBegun Ready (side [] []));
    count_is = refl;
    few = omega arith;
  }

  module _ {start now : Option LinkBytes} {s : Side} {count : ℕ} (x : History Ready start now s count) where
    pub history_used : IsUsed Ready start now s
    history_used = record {
      starts = x.starts;
      passed = x.passed;
      few = (let c = x.count_is in let k = x.few in omega (arith, c, k));
      prompt = x.prompt;
    }

    pub history_give : (new : Option LinkBytes) (piece : List ℕ) → new ≡ option_map (giving piece) now
        → History Ready start new (side s.taken (s.given ++ piece)) count
    history_give new piece told = record {
      starts = x.starts;
      passed = passed_give s.taken s.given x.starts start now new x.passed piece told;
      prompt = all_given s.taken s.given piece x.starts x.prompt;
      count_is = x.count_is;
      few = x.few;
    }

    -- a read that brings a piece
    pub history_read : Ready s.taken s.given → (new : Option LinkBytes) (n : ℕ) → count + n ≤ most → (piece : List ℕ)
        → length piece ≡ n → IfSome now (λ l. piece ≡ take n l.rest) → new ≡ option_map (after_read (Ok n)) now
        → History Ready start new (side (s.taken ++ piece) s.given) (count + n)
    history_read ready new n within piece long brought told = record {
      starts = x.starts ++ start_at s.taken s.given ∷ [];
      passed = passed_read s.taken s.given x.starts start now new x.passed n piece brought told;
      prompt = all_taken s.taken s.given piece _ (all_now s.taken s.given x.starts ready x.prompt);
      count_is = let c = x.count_is in omega (arith, length-append s.taken piece, long, c);
      few = within;
    }

    -- a read that brings nothing
    pub history_ended : Ready s.taken s.given → (new : Option LinkBytes) → new ≡ option_map (after_read (Ok 0)) now
        → History Ready start new s count
    history_ended ready new told =
        let nothing : IfSome now (λ l. [] ≡ take {A = ℕ} 0 l.rest) = none_taken now in
        let few = x.few in
        let later : History Ready start new (side (s.taken ++ []) s.given) (count + 0)
        = history_read ready new 0 (omega (arith, few)) [] refl nothing told in
        let same : count + 0 ≡ count = omega arith in
        subst (λ n. History Ready start new s n) same
        (subst (λ l. History Ready start new (side l s.given) (count + 0)) (append-nil s.taken) later)

    -- a read that is refused
    pub history_refused : Ready s.taken s.given → (new : Option LinkBytes) (e : EndError)
        → new ≡ option_map (after_read (Err e)) now → History Ready start new s count
    history_refused ready new Failed told = record {
      starts = x.starts ++ start_at s.taken s.given ∷ [];
      passed = passed_failed s.taken s.given x.starts start now new x.passed told;
      prompt = all_now s.taken s.given x.starts ready x.prompt;
      count_is = x.count_is;
      few = x.few;
    }
    history_refused ready new NoMemory told = record {
      starts = x.starts;
      passed = passed_refused s.taken s.given x.starts start now new x.passed told;
      prompt = x.prompt;
      count_is = x.count_is;
      few = x.few;
    }
