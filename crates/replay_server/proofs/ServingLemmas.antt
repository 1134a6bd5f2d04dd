-- Servings, one connection more.
use Rattle.std.proofs.Common.{◌≡◌, ◌∙◌, ◌≢◌, ◌⊎◌, inl, inr, ◌<◌, ◌≤◌, ℕ, ◌+◌, ◌-◌, ◌^◌, Bool, true, false, List, []}
use Rattle.std.proofs.Common.{◌∷◌, ◌++◌, length, map, Option, Some, None, Ok, Err, refl, sym, ap, subst, arith}
use Rattle.std.specs.Prelude.{Result, All, IfSome, IsErrOf}
use Rattle.std.specs.Option.{option_map}
use Rattle.std.proofs.Math.Bool.{true≢false}
use Rattle.std.proofs.lemmas.Bool.{cases_lt}
use Rattle.std.proofs.lemmas.List.Elements.{All-nil, All-cons}
use Rattle.mm_base.specs.Counts.{Rose}
use Rattle.mm_base.specs.Link.{LinkBytes, LinkView, IsFresh}
use Rattle.mm_base.specs.Listened.{listened_at}
use Rattle.mm_base.specs.Port.{PortView, KeepsPort, after_finish}
use Rattle.mm_base.specs.declared.errors.EndError.{EndError}
use Rattle.mm_base.specs.declared.errors.EndError.TheVariants as refusals
use Rattle.mm_base.specs.declared.read_start.ReadStart.{ReadStart}
use Rattle.mm_base.proofs.Then.{CountsFaults-then, CountsFaults-none}
use Rattle.record_store.specs.declared.record.Record.{Record}
use Rattle.replay_server.specs.Sessions.{Session, most as most_bytes}
use Rattle.replay_server.specs.Links.{Passed, IfBothTold, counted_from, IsAtEnd, IsPrompt, IsServed, HasFaultCause}
use Rattle.replay_server.specs.Servings.{IsConnServed, IsServing, Known, ListensAt, ServingSays, no_ends}
use Rattle.replay_server.specs.Servings.{finished_with, with_end}
use Rattle.replay_server.specs.inside.Tallies.{IsTally, refusal_of, ended, tallied}
use Rattle.replay_server.specs.declared.ends.ConnEnd.{ConnEnd}
use Rattle.replay_server.specs.declared.ends.ConnEnd.TheVariants.{Closed, BadRequest, LinkFault, Full, OutOfMemory}
use Rattle.replay_server.specs.declared.ends.Served.{Served}
use Rattle.replay_server.specs.declared.ends.ServeError.{ServeError}
use Rattle.replay_server.specs.declared.ends.ServeError.TheVariants as errors

-- ---- a connection of which nothing was taken

same_starts : (a : LinkBytes) → a.taken ≡ [] → a.given ≡ [] → (starts : List ReadStart)
    → map (counted_from a) starts ≡ starts
same_starts a t g [] = refl
same_starts a t g (s ∷ starts) =
    let started : ℕ → ℕ → ReadStart = λ taken given. record { taken = taken; given = given } in
    let same : counted_from a s ≡ s
    = ap (λ k. started k (length a.given + s.given)) (let h : length a.taken + s.taken ≡ s.taken =
    omega (arith, ap length t) in h)
    ∙ ap (started s.taken) (let h : length a.given + s.given ≡ s.given = omega (arith, ap length g) in h) in
    ap (λ x. x ∷ map (counted_from a) starts) same ∙ ap (λ l. s ∷ l) (same_starts a t g starts)

risen : (old new : ℕ) → old ≡ 0 → Rose old new → 0 < new
risen old new none rose = elim (cases_lt 0 new) [
  | inl some ↦ some
  | inr zero_new ↦ let less : old < new = rose (omega (arith, zero_new)) in omega (arith, less)
]

module _ (store : List Record) (site : Option ℕ) where
  told_session : (old new : Option LinkBytes) (end : ConnEnd) (taken given : List ℕ) (starts : List ReadStart)
      → IfSome old (λ l. (l.taken ≡ []) × (l.given ≡ []) × (l.reads ≡ []))
      → IfBothTold (Passed taken given starts) old new → length taken ≤ most_bytes
      → Session store site taken (IsAtEnd new) given end → All (IsPrompt store site taken given) starts
      → IfSome new (λ l. Session store site l.taken (l.rest ≡ []) l.given end)
      × IfSome new (λ l. length l.taken ≤ most_bytes)
      × IfSome new (λ l. All (IsPrompt store site l.taken l.given) l.reads)
  told_session None None end taken given starts fresh x few session prompt = (tt, tt, tt)
  told_session None (Some b) end taken given starts fresh x few session prompt = absurd x
  told_session (Some a) None end taken given starts fresh x few session prompt = absurd x
  told_session (Some a) (Some b) end taken given starts fresh x few session prompt =
      let taken_is : taken ≡ b.taken = sym (x.taken_is ∙ ap (λ l. l ++ taken) fresh.0) in
      let given_is : given ≡ b.given = sym (x.given_is ∙ ap (λ l. l ++ given) fresh.1) in
      let starts_is : starts ≡ b.reads = sym (x.reads_is ∙ ap (λ l. l ++ map (counted_from a) starts) fresh.2
      ∙ same_starts a fresh.0 fresh.1 starts) in (
        subst (λ t. Session store site t (b.rest ≡ []) b.given end) taken_is
            (subst (λ g. Session store site taken (b.rest ≡ []) g end) given_is session),
        subst (λ t. length t ≤ most_bytes) taken_is few,
        subst (λ t. All (IsPrompt store site t b.given) b.reads) taken_is
            (subst (λ g. All (IsPrompt store site taken g) b.reads) given_is
            (subst (λ s. All (IsPrompt store site taken given) s) starts_is prompt)),
      )

  pub fresh_served : (old new : LinkView) (end : ConnEnd) → IsFresh old → IsServed store site old.told new.told end
      → HasFaultCause old new end
      → IsConnServed store site new end
  fresh_served old new end fresh x cause =
      let both = told_session old.told new.told end x.taken x.given x.starts fresh.untouched x.passed x.few x.session
      x.prompt in
      record {
        session = both.0;
        few = both.1;
        prompt = both.2;
        fault = λ is. risen old.faults new.faults fresh.faultless (cause is);
      }

-- ---- ports

pub keeps_same : {C : Type 0} (p : PortView C) → KeepsPort p p
keeps_same {C} p = record {
  counts = CountsFaults-none (λ (v : PortView C). v.faults)
      (λ (v : PortView C). v.never_fails) p;
  stays = λ h. h;
}

pub keeps_then : {C : Type 0} {x y z : PortView C} → KeepsPort x y → KeepsPort y z → KeepsPort x z
keeps_then a b = record { counts = CountsFaults-then a.counts b.counts; stays = λ h. b.stays (a.stays h) }

pub map_same : {C : Type 0} (told : Option (List C)) → told ≡ option_map (finished_with {C = C} []) told
map_same None = refl
map_same (Some l) = refl

pub map_more : {C : Type 0} (conn : C) (end : ConnEnd) (served : List (C × ConnEnd)) (told : Option (List C))
    → option_map (λ conns. conns ++ conn ∷ []) (option_map (finished_with served) told) ≡ option_map
    (finished_with ((conn, end) ∷ served)) told
map_more conn end served None = refl
map_more conn end served (Some l) = refl

-- ---- ends that are counted

abbrev pub is_memory : ConnEnd → Bool
is_memory Closed = false
is_memory BadRequest = false
is_memory LinkFault = false
is_memory Full = false
is_memory OutOfMemory = true

pub other_end : (end : ConnEnd) → is_memory end ≡ false → end ≢ OutOfMemory
other_end end other is = true≢false (sym (ap is_memory is) ∙ other)

-- the answer of those behind it, with an end that is counted
abbrev pub joined : ConnEnd → Result Served ServeError → Result Served ServeError
joined end (Ok n) = Ok (with_end end n)
joined end (Err e) = Err e

pub ended_other : (end : ConnEnd) (rest : Result Served ServeError) → is_memory end ≡ false
    → ended end rest ≡ joined end rest
ended_other Closed (Ok n) is = refl
ended_other Closed (Err e) is = refl
ended_other BadRequest (Ok n) is = refl
ended_other BadRequest (Err e) is = refl
ended_other LinkFault (Ok n) is = refl
ended_other LinkFault (Err e) is = refl
ended_other Full (Ok n) is = refl
ended_other Full (Err e) is = refl
ended_other OutOfMemory rest is = absurd (true≢false is)

pub ended_memory : (end : ConnEnd) (rest : Result Served ServeError) → is_memory end ≡ true
    → ended end rest ≡ Err errors.OutOfMemory
ended_memory Closed rest is = absurd (true≢false (sym is))
ended_memory BadRequest rest is = absurd (true≢false (sym is))
ended_memory LinkFault rest is = absurd (true≢false (sym is))
ended_memory Full rest is = absurd (true≢false (sym is))
ended_memory OutOfMemory rest is = refl

module _ {C : Type 0} (store : List Record) (site : Option ℕ) (view : C → LinkView) (pooled : Bool) where
  abbrev Each : C × ConnEnd → Type 0
  Each c = Known pooled (IsConnServed store site (view c.0) c.1)

  pub serving_none : (most : ℕ) (old new : PortView C) (n : Served) → KeepsPort old new → new.finished ≡ old.finished
      → new.accepted ≡ old.accepted → n ≡ no_ends
      → (most ≡ 0) ⊎ ((0 < most) × (new.drained ≡ true)) → IsServing store site view pooled most old new (Ok n)
  serving_none most old new n keeps finished accepted none stop = record {
    served = [];
    each = All-nil Each;
    finished_is = finished ∙ map_same old.finished;
    keeps = keeps;
    says = (
      none,
      All-nil (λ (c : C × ConnEnd). c.1 ≢ OutOfMemory),
      omega (arith, accepted),
      elim stop [ inl zero_most ↦ inl (sym zero_most) | inr drained ↦ inr drained ],
    );
  }

  pub serving_refused : (most : ℕ) (old new : PortView C) (e : EndError) → KeepsPort old new
      → new.finished ≡ old.finished → new.accepted ≡ old.accepted
      → (e ≡ refusals.Failed → Rose old.faults new.faults)
      → IsServing store site view pooled most old new (Err (refusal_of e))
  serving_refused most old new refusals.Failed keeps finished accepted cause = record {
    served = [];
    each = All-nil Each;
    finished_is = finished ∙ map_same old.finished;
    keeps = keeps;
    says = (
      All-nil (λ (c : C × ConnEnd). c.1 ≢ OutOfMemory),
      cause refl,
      λ few. let k = keeps.counts.grows in omega (arith, k, accepted),
    );
  }
  serving_refused most old new refusals.OutOfMemory keeps finished accepted cause = record {
    served = [];
    each = All-nil Each;
    finished_is = finished ∙ map_same old.finished;
    keeps = keeps;
    says = tt;
  }

  -- it listens, and what is answered isn't that it couldn't
  pub listens_once : (old new : PortView C) (number most : ℕ) (answer : Result Served ServeError) → IsTally most answer
      → new.listened ≡ listened_at number old.listened → ListensAt number old new answer
  listens_once old new number most (Ok n) tally is = is
  listens_once old new number most (Err errors.Listen) tally is = absurd tally
  listens_once old new number most (Err errors.Accept) tally is = is
  listens_once old new number most (Err errors.OutOfMemory) tally is = inr (inl is)

  -- the port can't be listened at
  pub serving_unheard : (most : ℕ) (old new : PortView C) → KeepsPort old new → new.finished ≡ old.finished
      → new.accepted ≡ old.accepted → Rose old.faults new.faults
      → IsServing store site view pooled most old new (Err errors.Listen)
  serving_unheard most old new keeps finished accepted rose = record {
    served = [];
    each = All-nil Each;
    finished_is = finished ∙ map_same old.finished;
    keeps = keeps;
    says = (finished, accepted, rose);
  }

  serves_listened : (most : ℕ) (p₀ p₁ p₂ : PortView C) → KeepsPort p₀ p₁ → p₁.accepted ≡ p₀.accepted
      → (served : List (C × ConnEnd)) (answer : Result Served ServeError) → IsTally most answer
      → ServingSays store site view most p₁ p₂ served answer → ServingSays store site view most p₀ p₂ served answer
  serves_listened most p₀ p₁ p₂ keeps accepted served (Ok n) tally says =
      (says.0, says.1, says.2 ∙ ap (λ k. k + length served) accepted, says.3)
  serves_listened most p₀ p₁ p₂ keeps accepted served (Err errors.Listen) tally says = absurd tally
  serves_listened most p₀ p₁ p₂ keeps accepted served (Err errors.Accept) tally says = (
    says.0,
    (let grows = keeps.counts.grows in let rose = says.1 in omega (arith, grows, rose)),
    λ few. (let grows = keeps.counts.grows in let left = says.2 few in omega (arith, grows, left, accepted)),
  )
  serves_listened most p₀ p₁ p₂ keeps accepted served (Err errors.OutOfMemory) tally says = tt

  -- what a serving does after listening, counted from before it
  pub serving_listened : (most : ℕ) (p₀ p₁ p₂ : PortView C) → KeepsPort p₀ p₁ → p₁.finished ≡ p₀.finished
      → p₁.accepted ≡ p₀.accepted
      → (answer : Result Served ServeError) → IsTally most answer → IsServing store site view pooled most p₁ p₂ answer
      → IsServing store site view pooled most p₀ p₂ answer
  serving_listened most p₀ p₁ p₂ keeps finished accepted answer tally x = record {
    served = x.served;
    each = x.each;
    finished_is = x.finished_is ∙ ap (option_map (finished_with x.served)) finished;
    keeps = keeps_then keeps x.keeps;
    says = serves_listened most p₀ p₁ p₂ keeps accepted x.served answer tally x.says;
  }

  module _ (most : ℕ) (some : 0 < most) (p₀ p₁ p₂ p₃ : PortView C) (conn : C) (end : ConnEnd)
      (one : Each (conn, end))
      (accepted : p₁.accepted ≡ p₀.accepted + 1) (first : p₁.finished ≡ p₀.finished) (before : KeepsPort p₀ p₁)
      (counted : p₃.accepted ≡ p₂.accepted) (after : KeepsPort p₂ p₃) where
    rose_all : Rose p₁.faults p₂.faults → Rose p₀.faults p₃.faults
    rose_all rose = let a = before.counts.grows in let b = after.counts.grows in omega (arith, rose, a, b)

    module _ (rest : Result Served ServeError) (s : IsServing store site view pooled (most - 1) p₁ p₂ rest) where
      -- the connection is finished
      module _ (finished : p₃.finished ≡ option_map (λ conns. conns ++ conn ∷ []) p₂.finished) where
        abbrev with_one : List (C × ConnEnd)
        with_one = (conn, end) ∷ s.served

        finishes : (answer : Result Served ServeError) → ServingSays store site view most p₀ p₃ with_one answer
            → IsServing store site view pooled most p₀ p₃ answer
        finishes answer says = record {
          served = with_one;
          each = All-cons Each (conn, end) s.served one s.each;
          finished_is = finished ∙ ap (option_map (λ conns. conns ++ conn ∷ [])) s.finished_is
              ∙ map_more conn end s.served p₁.finished
              ∙ ap (option_map (finished_with with_one)) first;
          keeps = keeps_then before (keeps_then s.keeps after);
          says = says;
        }

        counts_one : (n : Served) → ServingSays store site view (most - 1) p₁ p₂ s.served (Ok n) → end ≢ OutOfMemory
            → IsServing store site view pooled most p₀ p₃ (Ok (with_end end n))
        counts_one n says other = finishes (Ok (with_end end n)) (
          ap (with_end end) says.0,
          All-cons (λ (c : C × ConnEnd). c.1 ≢ OutOfMemory) (conn, end) s.served other says.1,
          (let k = says.2 in omega (arith, k, accepted, counted)),
          elim says.3 [
            | inl all ↦ inl (omega (arith, all, some))
            | inr drained ↦ inr ((let k = drained.0 in omega (arith, k, some)), after.stays drained.1)
          ],
        )

        passes_on : end ≢ OutOfMemory → (e : ServeError) → IsTally (most - 1) (Err e)
            → ServingSays store site view (most - 1) p₁ p₂ s.served (Err e)
            → IsServing store site view pooled most p₀ p₃ (Err e)
        passes_on other errors.Listen tally says = absurd tally
        passes_on other errors.Accept tally says = finishes (Err errors.Accept) (
          All-cons (λ (c : C × ConnEnd). c.1 ≢ OutOfMemory) (conn, end) s.served other says.0,
          rose_all says.1,
          λ few.
              let a = before.counts.grows in
              let b = after.counts.grows in
              let k = says.2 (omega (arith, few, b)) in
              omega (arith, k, accepted, counted, a, b),
        )
        passes_on other errors.OutOfMemory tally says = finishes (Err errors.OutOfMemory) tt

        lacks : IsServing store site view pooled most p₀ p₃ (Err errors.OutOfMemory)
        lacks = finishes (Err errors.OutOfMemory) tt

      -- it is given up
      module _ (finished : p₃.finished ≡ p₂.finished) where
        gives_up : (answer : Result Served ServeError) → ServingSays store site view most p₀ p₃ s.served answer
            → IsServing store site view pooled most p₀ p₃ answer
        gives_up answer says = record {
          served = s.served;
          each = s.each;
          finished_is = finished ∙ s.finished_is ∙ ap (option_map (finished_with s.served)) first;
          keeps = keeps_then before (keeps_then s.keeps after);
          says = says;
        }

        lost : IsServing store site view pooled most p₀ p₃ (Err errors.OutOfMemory)
        lost = gives_up (Err errors.OutOfMemory) tt

        fails_late : All (λ (c : C × ConnEnd). c.1 ≢ OutOfMemory) s.served → Rose p₂.faults p₃.faults
            → (p₂.faults < 2 ^ 64 - 1 → p₂.accepted + p₁.faults ≤ p₁.accepted + length s.served + p₂.faults)
            → IsServing store site view pooled most p₀ p₃ (Err errors.Accept)
        fails_late others rose bound = gives_up (Err errors.Accept) (
          others,
          (let a = before.counts.grows in let b = s.keeps.counts.grows in omega (arith, rose, a, b)),
          λ few.
              let a = before.counts.grows in
              let b = after.counts.grows in
              let less : p₂.faults < p₃.faults = rose few in
              let k = bound (omega (arith, few, b)) in
              omega (arith, k, accepted, counted, a, less),
        )

    memory_ends : (rest : Result Served ServeError) → IsServing store site view pooled (most - 1) p₁ p₂ rest
        → (done : Result Unit EndError)
        → p₃.finished ≡ after_finish conn done p₂.finished
        → IsServing store site view pooled most p₀ p₃ (tallied done (Err errors.OutOfMemory))
    memory_ends rest s (Ok d) finished = lacks rest s finished
    memory_ends rest s (Err refusals.Failed) finished = lost rest s finished
    memory_ends rest s (Err refusals.OutOfMemory) finished = lost rest s finished

    gave_up : (e : ServeError) → IsServing store site view pooled (most - 1) p₁ p₂ (Err e) → IsTally (most - 1) (Err e)
        → p₃.finished ≡ p₂.finished
        → Rose p₂.faults p₃.faults → IsServing store site view pooled most p₀ p₃ (Err e)
    gave_up errors.Listen s tally finished rose = absurd tally
    gave_up errors.Accept s tally finished rose = fails_late (Err errors.Accept) s finished s.says.0 rose s.says.2
    gave_up errors.OutOfMemory s tally finished rose = lost (Err errors.OutOfMemory) s finished

    other_ends : end ≢ OutOfMemory → (done : Result Unit EndError) (rest : Result Served ServeError)
        → IsServing store site view pooled (most - 1) p₁ p₂ rest
        → IsTally (most - 1) rest → p₃.finished ≡ after_finish conn done p₂.finished
        → (IsErrOf done refusals.Failed → Rose p₂.faults p₃.faults)
        → IsServing store site view pooled most p₀ p₃ (tallied done (joined end rest))
    other_ends other (Ok d) (Ok n) s tally finished cause = counts_one (Ok n) s finished n s.says other
    other_ends other (Ok d) (Err e) s tally finished cause = passes_on (Err e) s finished other e tally s.says
    other_ends other (Err refusals.OutOfMemory) rest s tally finished cause = lost rest s finished
    other_ends other (Err refusals.Failed) (Ok n) s tally finished cause =
        fails_late (Ok n) s finished s.says.1 (cause refl) (λ few. let k = s.says.2 in let g = s.keeps.counts.grows
        in omega (arith, k, g))
    other_ends other (Err refusals.Failed) (Err e) s tally finished cause = gave_up e s tally finished (cause refl)

    -- what finishing answered, and those behind it
    pub serving_more : (done : Result Unit EndError) (rest : Result Served ServeError)
        → IsServing store site view pooled (most - 1) p₁ p₂ rest → IsTally (most - 1) rest
        → p₃.finished ≡ after_finish conn done p₂.finished → (IsErrOf done refusals.Failed → Rose p₂.faults p₃.faults)
        → IsServing store site view pooled most p₀ p₃ (tallied done (ended end rest))
    serving_more done rest s tally finished cause = split (is_memory end) refl
      where
        split : (b : Bool) → is_memory end ≡ b
            → IsServing store site view pooled most p₀ p₃ (tallied done (ended end rest))
        split true is =
            subst (λ (r : Result Served ServeError). IsServing store site view pooled most p₀ p₃ (tallied done r))
            (sym (ended_memory end rest is)) (memory_ends rest s done finished)
        split false is =
            subst (λ (r : Result Served ServeError). IsServing store site view pooled most p₀ p₃ (tallied done r))
            (sym (ended_other end rest is))
            (other_ends (other_end end is) done rest s tally finished cause)
