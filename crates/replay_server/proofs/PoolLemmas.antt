-- Pools, one step more.
use Rattle.std.proofs.Common.{◌≡◌, ◌∙◌, ◌≢◌, ◌⊎◌, inl, inr, ◌<◌, ◌≤◌, ℕ, ◌+◌, ◌-◌, Bool, true, false, List, []}
use Rattle.std.proofs.Common.{◌∷◌, ◌++◌, length, Option, Ok, Err, refl, sym, ap, subst, arith}
use Rattle.std.specs.Prelude.{Result, All, IsErrOf, OnOk}
use Rattle.std.specs.Option.{option_map}
use Rattle.std.proofs.lemmas.Bool.{cases_lt}
use Rattle.std.proofs.lemmas.List.Elements.{All-nil, All-cons}
use Rattle.mm_base.specs.Counts.{Rose}
use Rattle.mm_base.specs.Link.{LinkView}
use Rattle.mm_base.specs.Port.{PortView, KeepsPort, after_finish}
use Rattle.mm_base.specs.declared.errors.EndError.{EndError}
use Rattle.mm_base.specs.declared.errors.EndError.TheVariants as refusals
use Rattle.record_store.specs.declared.record.Record.{Record}
use Rattle.replay_server.specs.Servings.{IsConnServed, IsServing, ServingSays, most_served, no_ends, with_end}
use Rattle.replay_server.specs.inside.Pools.{PoolSays, PoolServes, PoolStands}
use Rattle.replay_server.specs.inside.Tallies.{IsTally, ended, tallied}
use Rattle.replay_server.specs.declared.ends.ConnEnd.{ConnEnd}
use Rattle.replay_server.specs.declared.ends.ConnEnd.TheVariants.{Closed, BadRequest, LinkFault, Full, OutOfMemory}
use Rattle.replay_server.specs.declared.ends.Served.{Served}
use Rattle.replay_server.specs.declared.ends.ServeError.{ServeError}
use Rattle.replay_server.specs.declared.ends.ServeError.TheVariants as errors
use Rattle.replay_server.proofs.ServingLemmas.{keeps_same, keeps_then, map_same, map_more, is_memory, other_end, joined}
use Rattle.replay_server.proofs.ServingLemmas.{ended_other, ended_memory, serving_refused}

module _ {C : Type 0} (store : List Record) (site : Option ℕ) (view : C → LinkView) where
  abbrev Others : List (C × ConnEnd) → Type 0
  Others served = All (λ (c : C × ConnEnd). c.1 ≢ OutOfMemory) served

  pub pool_none : (p : PortView C) → PoolStands store site view p p 0 0 (Ok no_ends)
  pool_none p = record {
    served = [];
    each = All-nil (λ (c : C × ConnEnd). ∥ IsConnServed store site (view c.0) c.1 ∥₁);
    finished_is = map_same p.finished;
    listened_is = refl;
    keeps = keeps_same p;
    few = omega arith;
    says = (refl, All-nil (λ (c : C × ConnEnd). c.1 ≢ OutOfMemory), omega arith, refl);
  }

  pub pool_wanting : (p₀ p₁ : PortView C) (begun out : ℕ) (ends : Result Served ServeError)
      → PoolStands store site view p₀ p₁ begun out ends
      → PoolStands store site view p₀ p₁ begun out (Err errors.OutOfMemory)
  pool_wanting p₀ p₁ begun out ends x = record {
    served = x.served;
    each = x.each;
    finished_is = x.finished_is;
    listened_is = x.listened_is;
    keeps = x.keeps;
    few = x.few;
    says = tt;
  }

  pub pool_lost : (p₀ p₁ : PortView C) (begun out : ℕ) (ends : Result Served ServeError)
      → PoolStands store site view p₀ p₁ begun out ends
      → IsServing store site view true most_served p₀ p₁ (Err errors.OutOfMemory)
  pool_lost p₀ p₁ begun out ends x = record {
    served = x.served;
    each = x.each;
    finished_is = x.finished_is;
    keeps = x.keeps;
    says = tt;
  }

  -- the port was asked for a connection
  module _ (p₀ p₁ p₂ : PortView C) (same : p₂.finished ≡ p₁.finished) (heard : p₂.listened ≡ p₁.listened)
      (after : KeepsPort p₁ p₂) where
    accepts_says : (begun out : ℕ) (served : List (C × ConnEnd)) (ends : Result Served ServeError)
        → p₂.accepted ≡ p₁.accepted + 1
        → PoolSays begun out p₀ p₁ served ends → PoolSays (begun + 1) (out + 1) p₀ p₂ served ends
    accepts_says begun out served (Ok n) accepted says = (
      says.0,
      says.1,
      (let k = says.2 in omega (arith, k, accepted)),
      (let k = says.3 in omega (arith, k)),
    )
    accepts_says begun out served (Err errors.Listen) accepted says = absurd says
    accepts_says begun out served (Err errors.Accept) accepted says = (
      says.0,
      (let rose = says.1 in let g = after.counts.grows in omega (arith, rose, g)),
      λ few.
          let g = after.counts.grows in
          let k = says.2 (omega (arith, few, g)) in
          omega (arith, k, accepted, g),
    )
    accepts_says begun out served (Err errors.OutOfMemory) accepted says = tt

    pub pool_accepts : (begun out : ℕ) (ends : Result Served ServeError) → begun < most_served
        → p₂.accepted ≡ p₁.accepted + 1
        → PoolStands store site view p₀ p₁ begun out ends
        → PoolStands store site view p₀ p₂ (begun + 1) (out + 1) ends
    pool_accepts begun out ends room accepted x = record {
      served = x.served;
      each = x.each;
      finished_is = same ∙ x.finished_is;
      listened_is = heard ∙ x.listened_is;
      keeps = keeps_then x.keeps after;
      few = omega (arith, room);
      says = accepts_says begun out x.served ends accepted x.says;
    }

    same_says : (begun out : ℕ) (served : List (C × ConnEnd)) (ends : Result Served ServeError)
        → p₂.accepted ≡ p₁.accepted
        → PoolSays begun out p₀ p₁ served ends → PoolSays begun out p₀ p₂ served ends
    same_says begun out served (Ok n) accepted says = (says.0, says.1, accepted ∙ says.2, says.3)
    same_says begun out served (Err errors.Listen) accepted says = absurd says
    same_says begun out served (Err errors.Accept) accepted says = (
      says.0,
      (let rose = says.1 in let g = after.counts.grows in omega (arith, rose, g)),
      λ few.
          let g = after.counts.grows in
          let k = says.2 (omega (arith, few, g)) in
          omega (arith, k, accepted, g),
    )
    same_says begun out served (Err errors.OutOfMemory) accepted says = tt

    pub pool_same : (begun out : ℕ) (ends : Result Served ServeError) → p₂.accepted ≡ p₁.accepted
        → PoolStands store site view p₀ p₁ begun out ends → PoolStands store site view p₀ p₂ begun out ends
    pool_same begun out ends accepted x = record {
      served = x.served;
      each = x.each;
      finished_is = same ∙ x.finished_is;
      listened_is = heard ∙ x.listened_is;
      keeps = keeps_then x.keeps after;
      few = x.few;
      says = same_says begun out x.served ends accepted x.says;
    }

    refused_says : (begun out : ℕ) (served : List (C × ConnEnd)) (ends : Result Served ServeError)
        → p₂.accepted ≡ p₁.accepted → Rose p₁.faults p₂.faults → KeepsPort p₀ p₁
        → PoolSays begun out p₀ p₁ served ends
        → PoolSays begun out p₀ p₂ served (tallied (Err refusals.Failed) ends)
    refused_says begun out served (Ok n) accepted rose before says = (
      says.1,
      (let g = before.counts.grows in omega (arith, rose, g)),
      λ few.
          let g = before.counts.grows in
          let h = after.counts.grows in
          let k = says.2 in
          omega (arith, k, accepted, g, h),
    )
    refused_says begun out served (Err errors.Listen) accepted rose before says = absurd says
    refused_says begun out served (Err errors.Accept) accepted rose before says =
        same_says begun out served (Err errors.Accept) accepted says
    refused_says begun out served (Err errors.OutOfMemory) accepted rose before says = tt

    pub pool_refused : (error : EndError) (begun out : ℕ) (ends : Result Served ServeError)
        → p₂.accepted ≡ p₁.accepted → (error ≡ refusals.Failed → Rose p₁.faults p₂.faults)
        → PoolStands store site view p₀ p₁ begun out ends
        → PoolStands store site view p₀ p₂ begun out (tallied (Err error) ends)
    pool_refused refusals.Failed begun out ends accepted cause x = record {
      served = x.served;
      each = x.each;
      finished_is = same ∙ x.finished_is;
      listened_is = heard ∙ x.listened_is;
      keeps = keeps_then x.keeps after;
      few = x.few;
      says = refused_says begun out x.served ends accepted (cause refl) x.keeps x.says;
    }
    pool_refused refusals.OutOfMemory begun out ends accepted cause x =
        pool_wanting p₀ p₂ begun out ends (pool_same begun out ends accepted x)

  -- a connection came back that ended so, and was finished or given up
  module _ (p₀ p₁ p₂ : PortView C) (conn : C) (end : ConnEnd) (one : ∥ IsConnServed store site (view conn) end ∥₁)
      (begun out : ℕ) (some : 0 < out)
      (counted : p₂.accepted ≡ p₁.accepted) (heard : p₂.listened ≡ p₁.listened) (after : KeepsPort p₁ p₂) where
    abbrev Before : Result Served ServeError → Type 0
    Before ends = PoolStands store site view p₀ p₁ begun out ends

    abbrev After : Result Served ServeError → Type 0
    After ends = PoolStands store site view p₀ p₂ begun (out - 1) ends

    module _ (finished : p₂.finished ≡ option_map (λ conns. conns ++ conn ∷ []) p₁.finished) where
      more : (ends answer : Result Served ServeError) (x : Before ends)
          → PoolSays begun (out - 1) p₀ p₂ ((conn, end) ∷ x.served) answer → After answer
      more ends answer x says = record {
        served = (conn, end) ∷ x.served;
        each = All-cons (λ (c : C × ConnEnd). ∥ IsConnServed store site (view c.0) c.1 ∥₁) (conn, end) x.served one
            x.each;
        finished_is = finished ∙ ap (option_map (λ conns. conns ++ conn ∷ [])) x.finished_is
            ∙ map_more conn end x.served p₀.finished;
        listened_is = heard ∙ x.listened_is;
        keeps = keeps_then x.keeps after;
        few = x.few;
        says = says;
      }

      finishes : end ≢ OutOfMemory → (ends : Result Served ServeError) (x : Before ends)
          → PoolSays begun out p₀ p₁ x.served ends → After (joined end ends)
      finishes other (Ok n) x says = more (Ok n) (Ok (with_end end n)) x (
        ap (with_end end) says.0,
        All-cons (λ (c : C × ConnEnd). c.1 ≢ OutOfMemory) (conn, end) x.served other says.1,
        (let k = says.2 in omega (arith, k, counted, some)),
        (let k = says.3 in omega (arith, k, some)),
      )
      finishes other (Err errors.Listen) x says = absurd says
      finishes other (Err errors.Accept) x says = more (Err errors.Accept) (Err errors.Accept) x (
        All-cons (λ (c : C × ConnEnd). c.1 ≢ OutOfMemory) (conn, end) x.served other says.0,
        (let rose = says.1 in let g = after.counts.grows in omega (arith, rose, g)),
        λ few.
            let g = after.counts.grows in
            let k = says.2 (omega (arith, few, g)) in
            omega (arith, k, counted, some, g),
      )
      finishes other (Err errors.OutOfMemory) x says = more (Err errors.OutOfMemory) (Err errors.OutOfMemory) x tt

    module _ (finished : p₂.finished ≡ p₁.finished) where
      given_up : (ends answer : Result Served ServeError) (x : Before ends)
          → PoolSays begun (out - 1) p₀ p₂ x.served answer → After answer
      given_up ends answer x says = record {
        served = x.served;
        each = x.each;
        finished_is = finished ∙ x.finished_is;
        listened_is = heard ∙ x.listened_is;
        keeps = keeps_then x.keeps after;
        few = x.few;
        says = says;
      }

      fails : Rose p₁.faults p₂.faults → (ends : Result Served ServeError) (x : Before ends)
          → PoolSays begun out p₀ p₁ x.served ends → After (tallied (Err refusals.Failed) ends)
      fails rose (Ok n) x says = given_up (Ok n) (Err errors.Accept) x (
        says.1,
        (let g = x.keeps.counts.grows in omega (arith, rose, g)),
        λ few.
            let less : p₁.faults < p₂.faults = rose few in
            let g = x.keeps.counts.grows in
            let k = says.2 in
            omega (arith, k, counted, some, g, less),
      )
      fails rose (Err errors.Listen) x says = absurd says
      fails rose (Err errors.Accept) x says = given_up (Err errors.Accept) (Err errors.Accept) x (
        says.0,
        (let r = says.1 in let g = after.counts.grows in omega (arith, r, g)),
        λ few.
            let less : p₁.faults < p₂.faults = rose few in
            let k = says.2 (omega (arith, few, less)) in
            omega (arith, k, counted, some, less),
      )
      fails rose (Err errors.OutOfMemory) x says =
          given_up (Err errors.OutOfMemory) (Err errors.OutOfMemory) x tt

    memory_ends : (ends : Result Served ServeError) → Before ends → (done : Result Unit EndError)
        → p₂.finished ≡ after_finish conn done p₁.finished → After (tallied done (Err errors.OutOfMemory))
    memory_ends ends x (Ok d) finished = more finished ends (Err errors.OutOfMemory) x tt
    memory_ends ends x (Err refusals.Failed) finished = given_up finished ends (Err errors.OutOfMemory) x tt
    memory_ends ends x (Err refusals.OutOfMemory) finished = given_up finished ends (Err errors.OutOfMemory) x tt

    late : Rose p₁.faults p₂.faults → p₂.finished ≡ p₁.finished → (ends : Result Served ServeError) → Before ends
        → After (tallied (Err refusals.Failed) (joined end ends))
    late rose finished (Ok n) x = fails finished rose (Ok n) x x.says
    late rose finished (Err e) x = fails finished rose (Err e) x x.says

    other_ends : end ≢ OutOfMemory → (done : Result Unit EndError) (ends : Result Served ServeError) → Before ends
        → p₂.finished ≡ after_finish conn done p₁.finished
        → (IsErrOf done refusals.Failed → Rose p₁.faults p₂.faults) → After (tallied done (joined end ends))
    other_ends other (Ok d) ends x finished cause = finishes finished other ends x x.says
    other_ends other (Err refusals.Failed) ends x finished cause = late (cause refl) finished ends x
    other_ends other (Err refusals.OutOfMemory) ends x finished cause =
        given_up finished ends (Err errors.OutOfMemory) x tt

    pub pool_finishes : (done : Result Unit EndError) (ends : Result Served ServeError) → Before ends
        → p₂.finished ≡ after_finish conn done p₁.finished
        → (IsErrOf done refusals.Failed → Rose p₁.faults p₂.faults) → After (tallied done (ended end ends))
    pool_finishes done ends x finished cause = split (is_memory end) refl
      where
        split : (b : Bool) → is_memory end ≡ b → After (tallied done (ended end ends))
        split true is =
            subst (λ (r : Result Served ServeError). After (tallied done r)) (sym (ended_memory end ends is))
            (memory_ends ends x done finished)
        split false is =
            subst (λ (r : Result Served ServeError). After (tallied done r)) (sym (ended_other end ends is))
            (other_ends (other_end end is) done ends x finished cause)

  -- no connection is out, and none is accepted any more
  ends_says : (p₀ p₁ : PortView C) (begun out : ℕ) (served : List (C × ConnEnd)) (ends : Result Served ServeError)
      → out ≡ 0 → begun ≤ most_served
      → OnOk ends ((p₁.drained ≡ true) ⊎ (begun ≡ most_served))
      → PoolSays begun out p₀ p₁ served ends → ServingSays store site view most_served p₀ p₁ served ends
  ends_says p₀ p₁ begun out served (Ok n) none few stopped says = (
    says.0,
    says.1,
    (let k = says.2 in omega (arith, k, none)),
    elim (cases_lt (length served) most_served) [
      | inl less ↦ elim stopped [
        | inl drained ↦ inr (less, drained)
        | inr all ↦ inl (let k = says.3 in omega (arith, k, none, all))
      ]
      | inr not_less ↦ inl (let k = says.3 in omega (arith, k, none, few, not_less))
    ],
  )
  ends_says p₀ p₁ begun out served (Err errors.Listen) none few stopped says = absurd says
  ends_says p₀ p₁ begun out served (Err errors.Accept) none few stopped says = (
    says.0,
    says.1,
    λ room. (let k = says.2 room in omega (arith, k, none)),
  )
  ends_says p₀ p₁ begun out served (Err errors.OutOfMemory) none few stopped says = tt

  pub pool_ends : (p₀ p₁ : PortView C) (begun out : ℕ) (ends : Result Served ServeError) → out ≡ 0
      → OnOk ends ((p₁.drained ≡ true) ⊎ (begun ≡ most_served))
      → PoolStands store site view p₀ p₁ begun out ends
      → IsServing store site view true most_served p₀ p₁ ends
  pool_ends p₀ p₁ begun out ends none stopped x = record {
    served = x.served;
    each = x.each;
    finished_is = x.finished_is;
    keeps = x.keeps;
    says = ends_says p₀ p₁ begun out x.served ends none x.few stopped x.says;
  }

  -- the same numbers
  pub pool_at : (p₀ p₁ : PortView C) (begun out : ℕ) (ends : Result Served ServeError) (begun' out' : ℕ)
      (ends' : Result Served ServeError) → begun ≡ begun' → out ≡ out' → ends ≡ ends'
      → PoolStands store site view p₀ p₁ begun' out' ends' → PoolStands store site view p₀ p₁ begun out ends
  pool_at p₀ p₁ begun out ends begun' out' ends' b o e x =
      subst (λ (k : ℕ). PoolStands store site view p₀ p₁ k out ends) (sym b)
      (subst (λ (k : ℕ). PoolStands store site view p₀ p₁ begun' k ends) (sym o)
      (subst (λ (k : Result Served ServeError). PoolStands store site view p₀ p₁ begun' out' k) (sym e) x))

-- no connection is accepted any more, and one came back
module _ (Before After : Type 0) (keeps : Before → After) where
  stopped_end : (end : ConnEnd) (ends : Result Served ServeError) → OnOk ends Before → OnOk (ended end ends) After
  stopped_end Closed (Ok n) x = keeps x
  stopped_end BadRequest (Ok n) x = keeps x
  stopped_end LinkFault (Ok n) x = keeps x
  stopped_end Full (Ok n) x = keeps x
  stopped_end OutOfMemory (Ok n) x = tt
  stopped_end Closed (Err e) x = tt
  stopped_end BadRequest (Err e) x = tt
  stopped_end LinkFault (Err e) x = tt
  stopped_end Full (Err e) x = tt
  stopped_end OutOfMemory (Err e) x = tt

  stopped_done : (done : Result Unit EndError) (ends : Result Served ServeError) → OnOk ends After
      → OnOk (tallied done ends) After
  stopped_done (Ok d) ends x = x
  stopped_done (Err refusals.OutOfMemory) ends x = tt
  stopped_done (Err refusals.Failed) (Ok n) x = tt
  stopped_done (Err refusals.Failed) (Err e) x = tt

  pub stopped_back : (done : Result Unit EndError) (end : ConnEnd) (ends : Result Served ServeError)
      → OnOk ends Before → OnOk (tallied done (ended end ends)) After
  stopped_back done end ends x = stopped_done done (ended end ends) (stopped_end end ends x)

pub tally_most : (few most : ℕ) (ends : Result Served ServeError) → few ≤ most → IsTally few ends → IsTally most ends
tally_most few most (Ok n) less tally = omega (arith, less, tally)
tally_most few most (Err errors.Listen) less tally = tally
tally_most few most (Err errors.Accept) less tally = tt
tally_most few most (Err errors.OutOfMemory) less tally = tt

-- nothing was done, for lack of memory
module _ {C : Type 0} (store : List Record) (site : Option ℕ) (view : C → LinkView) where
  pub pool_idle : (p : PortView C) → PoolServes store site view p p (Err errors.OutOfMemory)
  pool_idle p = record {
    serving = serving_refused store site view true most_served p p refusals.OutOfMemory (keeps_same p) refl refl
        (λ is. absurd (cc is));
    listened = refl;
    within = tt;
  }
