-- A turn with the greatest number leaves every earlier state as it was.
use Rattle.std.proofs.Common.{◌≡◌, ◌≢◌, ℕ, zero, suc, ◌+◌, ◌<◌, List, [], ◌∷◌, ◌++◌, Option, Some, None, true, eqb}
use Rattle.std.proofs.Common.{cond, refl, sym, ap, ◌∙◌, subst, zero-add, arith, eq-eqb, ne_eqb}
use Rattle.std.specs.Prelude.{count_by, ◌==◌, All}
use mathlib.Core.Logic.{dite}
use native.Mathlib.Decide.{ℕ_discrete, dec_le}
use Rattle.std.proofs.lemmas.Bool.Decides.{nat_tests}
use Rattle.std.proofs.lemmas.List.Sums.{fold-append, sum_by-append, sum_by-cons}
use Rattle.std.proofs.lemmas.List.Elements.{All-nil, All-cons}
use Rattle.packet_record.specs.declared.item.Item.{Item}
use Rattle.packet_record.specs.Streams.{Stream, no_items, after}
use Rattle.shell_state.specs.States.{State}
use Rattle.shell_state.specs.Steps.{after_feed, stream_after}
use Rattle.shell_state.specs.declared.taken.Taken.{Taken}
use Rattle.shell_cell.proofs.StateLaws.{feed_fed, feed_taken, feed_horizon, feed_spec, take_fed, take_taken}
use Rattle.shell_cell.proofs.StateLaws.{take_horizon, take_spec, take_broken, break_fed, break_taken, break_horizon}
use Rattle.shell_cell.proofs.StateLaws.{break_spec, break_broken}
use Rattle.shell_cell.specs.declared.view.DrainCall.{DrainCall}
use Rattle.shell_cell.specs.declared.view.DrainCall.TheVariants.{Takes, Breaks}
use Rattle.shell_cell.specs.declared.view.FeedTurn.{FeedTurn}
use Rattle.shell_cell.specs.declared.view.DrainTurn.{DrainTurn}
use Rattle.shell_cell.specs.History.{after_drain, Answers, MayFeed, fed_at, drained_at, turned, state_at, IsTurn, times}
use Rattle.shell_cell.specs.History.{once_to, IsNumbered, fed_flow, taken_flow, flow_after, IsPast}

-- one turn, if it has this number
abbrev one : ℕ → ℕ → ℕ
one number k = cond (eqb number k) 1 0

fed_times : List FeedTurn → ℕ → ℕ
fed_times fed k = count_by (λ (t : FeedTurn). t.number == k) fed

drained_times : List DrainTurn → ℕ → ℕ
drained_times drained k = count_by (λ (t : DrainTurn). t.number == k) drained

times_is : (fed : List FeedTurn) (drained : List DrainTurn) (k : ℕ)
    → times fed drained k ≡ fed_times fed k + drained_times drained k
unfolding fed_times drained_times
times_is fed drained k = refl

fed_times_cons : (t : FeedTurn) (ts : List FeedTurn) (k : ℕ) → fed_times (t ∷ ts) k ≡ one t.number k + fed_times ts k
unfolding fed_times
fed_times_cons t ts k = sum_by-cons (λ (u : FeedTurn). cond (u.number == k) 1 0) t ts

fed_times_snoc : (ts : List FeedTurn) (t : FeedTurn) (k : ℕ)
    → fed_times (ts ++ t ∷ []) k ≡ fed_times ts k + one t.number k
unfolding fed_times
fed_times_snoc ts t k = sum_by-append (λ (u : FeedTurn). cond (u.number == k) 1 0) ts (t ∷ [])
    ∙ ap (λ (z : ℕ). fed_times ts k + z) (zero-add (one t.number k))

drained_times_cons : (t : DrainTurn) (ts : List DrainTurn) (k : ℕ)
    → drained_times (t ∷ ts) k ≡ one t.number k + drained_times ts k
unfolding drained_times
drained_times_cons t ts k = sum_by-cons (λ (u : DrainTurn). cond (u.number == k) 1 0) t ts

drained_times_snoc : (ts : List DrainTurn) (t : DrainTurn) (k : ℕ)
    → drained_times (ts ++ t ∷ []) k ≡ drained_times ts k + one t.number k
unfolding drained_times
drained_times_snoc ts t k = sum_by-append (λ (u : DrainTurn). cond (u.number == k) 1 0) ts (t ∷ [])
    ∙ ap (λ (z : ℕ). drained_times ts k + z) (zero-add (one t.number k))

-- a number that stands nowhere names no turn
fed_at_none : (fed : List FeedTurn) (k : ℕ) → fed_times fed k ≡ 0 → fed_at fed k ≡ None
fed_at_none [] k none = refl
fed_at_none (t ∷ ts) k none = dite (ℕ_discrete t.number k)
    (λ (is : t.number ≡ k). let e = fed_times_cons t ts k in let here = eq-eqb t.number k is
    in absurd (grind (arith, nat_tests)))
    (λ (other : t.number ≢ k). let e = fed_times_cons t ts k in let here = ne_eqb t.number k other
    in rw here (fed_at_none ts k (grind (arith, nat_tests))))

drained_at_none : (drained : List DrainTurn) (k : ℕ) → drained_times drained k ≡ 0 → drained_at drained k ≡ None
drained_at_none [] k none = refl
drained_at_none (t ∷ ts) k none = dite (ℕ_discrete t.number k)
    (λ (is : t.number ≡ k). let e = drained_times_cons t ts k in let here = eq-eqb t.number k is
    in absurd (grind (arith, nat_tests)))
    (λ (other : t.number ≢ k). let e = drained_times_cons t ts k in let here = ne_eqb t.number k other
    in rw here (drained_at_none ts k (grind (arith, nat_tests))))

-- another turn behind changes no turn with another number
fed_at_snoc : (fed : List FeedTurn) (t : FeedTurn) (k : ℕ) → t.number ≢ k → fed_at (fed ++ t ∷ []) k ≡ fed_at fed k
fed_at_snoc [] t k other = rw (ne_eqb t.number k other) refl
fed_at_snoc (u ∷ us) t k other = ap (λ (o : Option Item). cond (eqb u.number k) (Some u.item) o)
    (fed_at_snoc us t k other)

drained_at_snoc : (drained : List DrainTurn) (t : DrainTurn) (k : ℕ) → t.number ≢ k
    → drained_at (drained ++ t ∷ []) k ≡ drained_at drained k
drained_at_snoc [] t k other = rw (ne_eqb t.number k other) refl
drained_at_snoc (u ∷ us) t k other = ap (λ (o : Option DrainCall). cond (eqb u.number k) (Some u.call) o)
    (drained_at_snoc us t k other)

-- it is found by its own number
fed_at_here : (fed : List FeedTurn) (t : FeedTurn) → fed_at fed t.number ≡ None
    → fed_at (fed ++ t ∷ []) t.number ≡ Some t.item
fed_at_here [] t none = rw (eq-eqb t.number t.number refl) refl
fed_at_here (u ∷ us) t none = dite (ℕ_discrete u.number t.number)
    (λ is. let e = eq-eqb u.number t.number is in absurd (cc))
    (λ other. rw (ne_eqb u.number t.number other) (fed_at_here us t (rw (ne_eqb u.number t.number other) at none)))

drained_at_here : (drained : List DrainTurn) (t : DrainTurn) → drained_at drained t.number ≡ None
    → drained_at (drained ++ t ∷ []) t.number ≡ Some t.call
drained_at_here [] t none = rw (eq-eqb t.number t.number refl) refl
drained_at_here (u ∷ us) t none = dite (ℕ_discrete u.number t.number)
    (λ is. let e = eq-eqb u.number t.number is in absurd (cc))
    (λ other. rw (ne_eqb u.number t.number other) (drained_at_here us t (rw (ne_eqb u.number t.number other) at none)))

-- a number above n stands nowhere
fed_above : (fed : List FeedTurn) (drained : List DrainTurn) (n k : ℕ) → IsNumbered fed drained n → n < k
    → fed_at fed k ≡ None
fed_above fed drained n k numbered above = let e = times_is fed drained k
    in let z : times fed drained k ≡ once_to n k = numbered k in fed_at_none fed k (grind (arith, nat_tests))

drained_above : (fed : List FeedTurn) (drained : List DrainTurn) (n k : ℕ) → IsNumbered fed drained n → n < k
    → drained_at drained k ≡ None
drained_above fed drained n k numbered above = let e = times_is fed drained k
    in let z : times fed drained k ≡ once_to n k = numbered k in drained_at_none drained k (grind (arith, nat_tests))

-- every earlier state stays as it was
state_fed : (x : State) (fed : List FeedTurn) (drained : List DrainTurn) (t : FeedTurn) (i : ℕ) → i < t.number
    → state_at x (fed ++ t ∷ []) drained i ≡ state_at x fed drained i
state_fed x fed drained t zero before = refl
state_fed x fed drained t (suc i) before =
    ap (λ (o : Option Item). turned o (drained_at drained (suc i)) (state_at x (fed ++ t ∷ []) drained i))
    (fed_at_snoc fed t (suc i) (λ e. omega arith))
    ∙ ap (turned (fed_at fed (suc i)) (drained_at drained (suc i))) (state_fed x fed drained t i (omega arith))

state_drained : (x : State) (fed : List FeedTurn) (drained : List DrainTurn) (t : DrainTurn) (i : ℕ) → i < t.number
    → state_at x fed (drained ++ t ∷ []) i ≡ state_at x fed drained i
state_drained x fed drained t zero before = refl
state_drained x fed drained t (suc i) before =
    ap (λ (o : Option DrainCall). turned (fed_at fed (suc i)) o (state_at x fed (drained ++ t ∷ []) i))
    (drained_at_snoc drained t (suc i) (λ e. omega arith))
    ∙ ap (turned (fed_at fed (suc i)) (drained_at drained (suc i))) (state_drained x fed drained t i (omega arith))

-- the numbers with a new turn
numbered_fed : (fed : List FeedTurn) (drained : List DrainTurn) (n : ℕ) (t : FeedTurn) → t.number ≡ suc n
    → IsNumbered fed drained n → IsNumbered (fed ++ t ∷ []) drained (suc n)
numbered_fed fed drained n t next numbered k = let old : times fed drained k ≡ once_to n k = numbered k
    in let a = times_is fed drained k in let b = times_is (fed ++ t ∷ []) drained k in let c = fed_times_snoc fed t k
    in grind (arith, nat_tests)

numbered_drained : (fed : List FeedTurn) (drained : List DrainTurn) (n : ℕ) (t : DrainTurn) → t.number ≡ suc n
    → IsNumbered fed drained n → IsNumbered fed (drained ++ t ∷ []) (suc n)
numbered_drained fed drained n t next numbered k = let old : times fed drained k ≡ once_to n k = numbered k
    in let a = times_is fed drained k in let b = times_is fed (drained ++ t ∷ []) k
    in let c = drained_times_snoc drained t k in grind (arith, nat_tests)

-- one more item, and one more call
pub fed_flow_snoc : (fed : List FeedTurn) (t : FeedTurn) → fed_flow (fed ++ t ∷ []) ≡ after (fed_flow fed) t.item
fed_flow_snoc fed t = fold-append (λ (f : Stream) (u : FeedTurn). after f u.item) no_items fed (t ∷ [])

pub taken_flow_snoc : (drained : List DrainTurn) (t : DrainTurn)
    → taken_flow (drained ++ t ∷ []) ≡ flow_after (taken_flow drained) t.call
taken_flow_snoc drained t = fold-append (λ (f : Stream) (u : DrainTurn). flow_after f u.call) no_items drained (t ∷ [])

-- a history goes on by a feed
pub goes_on_fed : (x : State) (fed : List FeedTurn) (drained : List DrainTurn) (n : ℕ) (y : State) (t : FeedTurn)
    → IsPast x fed drained n y → t.number ≡ suc n → MayFeed y t.item
    → IsPast x (fed ++ t ∷ []) drained (suc n) (after_feed y t.item)
goes_on_fed x fed drained n y t past next may =
    let h = past.history in
    let none : fed_at fed (suc n) ≡ None = fed_above fed drained n (suc n) h.numbered (omega arith) in
    let found : fed_at (fed ++ t ∷ []) (suc n) ≡ Some t.item =
    subst (λ (k : ℕ). fed_at (fed ++ t ∷ []) k ≡ Some t.item) next
    (fed_at_here fed t (subst (λ (k : ℕ). fed_at fed k ≡ None) (sym next) none)) in
    let same = λ (i : ℕ) (l : i < suc n). state_fed x fed drained t i (omega arith) in
    let before : state_at x (fed ++ t ∷ []) drained n ≡ y = same n (omega arith) ∙ h.leaves in record {
      history = record {
        numbered = numbered_fed fed drained n t next h.numbered;
        legal = λ i l. dite (ℕ_discrete i n)
            (λ (is : i ≡ n). subst (λ (j : ℕ). IsTurn (fed_at (fed ++ t ∷ []) (suc j)) (drained_at drained (suc j))
            (state_at x (fed ++ t ∷ []) drained j)) (sym is)
            (subst (λ (o : Option Item). IsTurn o (drained_at drained (suc n)) (state_at x (fed ++ t ∷ []) drained n))
            (sym found) (subst (λ (s : State). MayFeed s t.item) (sym before) may)))
            (λ (other : i ≢ n). subst (λ (s : State). IsTurn (fed_at (fed ++ t ∷ []) (suc i))
            (drained_at drained (suc i)) s) (sym (same i l))
            (subst (λ (o : Option Item). IsTurn o (drained_at drained (suc i)) (state_at x fed drained i))
            (sym (fed_at_snoc fed t (suc i) (λ e. omega arith))) (h.legal i (omega arith))));
        leaves = ap (λ (o : Option Item). turned o (drained_at drained (suc n))
            (state_at x (fed ++ t ∷ []) drained n)) found ∙ ap (λ (s : State). after_feed s t.item) before;
      };
      fed_is = feed_fed y t.item may.0 ∙ ap (λ (f : Stream). after f t.item) past.fed_is ∙ sym (fed_flow_snoc fed t);
      taken_is = feed_taken y t.item ∙ past.taken_is;
      horizon = feed_horizon y t.item ∙ past.horizon;
      spec = feed_spec y t.item ∙ past.spec;
    }

-- what a call of the drain leaves alone, and what it takes
drain_fed : (y : State) (call : DrainCall) → (after_drain y call).fed ≡ y.fed
drain_fed y (Takes m answer) = take_fed y m
drain_fed y Breaks = break_fed y

drain_horizon : (y : State) (call : DrainCall) → (after_drain y call).horizon ≡ y.horizon
drain_horizon y (Takes m answer) = take_horizon y m
drain_horizon y Breaks = break_horizon y

drain_spec : (y : State) (call : DrainCall) → (after_drain y call).spec ≡ y.spec
drain_spec y (Takes m answer) = take_spec y m
drain_spec y Breaks = break_spec y

drain_taken : (y : State) (call : DrainCall) → Answers y call → (after_drain y call).taken ≡ flow_after y.taken call
drain_taken y (Takes m answer) right = take_taken y m ∙ ap (λ (a : Taken). stream_after y.taken a) (sym right.2)
drain_taken y Breaks right = break_taken y

-- a broken state stays broken
pub drain_broken : (y : State) (call : DrainCall) → y.broken ≡ true → (after_drain y call).broken ≡ true
drain_broken y (Takes m answer) broken = take_broken y m ∙ broken
drain_broken y Breaks broken = break_broken y

-- and by a call of the drain
pub goes_on_drained : (x : State) (fed : List FeedTurn) (drained : List DrainTurn) (n : ℕ) (y : State) (t : DrainTurn)
    → IsPast x fed drained n y → t.number ≡ suc n → Answers y t.call
    → IsPast x fed (drained ++ t ∷ []) (suc n) (after_drain y t.call)
goes_on_drained x fed drained n y t past next answers =
    let h = past.history in
    let free : fed_at fed (suc n) ≡ None = fed_above fed drained n (suc n) h.numbered (omega arith) in
    let none : drained_at drained (suc n) ≡ None = drained_above fed drained n (suc n) h.numbered (omega arith) in
    let found : drained_at (drained ++ t ∷ []) (suc n) ≡ Some t.call =
    subst (λ (k : ℕ). drained_at (drained ++ t ∷ []) k ≡ Some t.call) next
    (drained_at_here drained t (subst (λ (k : ℕ). drained_at drained k ≡ None) (sym next) none)) in
    let same = λ (i : ℕ) (l : i < suc n). state_drained x fed drained t i (omega arith) in
    let before : state_at x fed (drained ++ t ∷ []) n ≡ y = same n (omega arith) ∙ h.leaves in record {
      history = record {
        numbered = numbered_drained fed drained n t next h.numbered;
        legal = λ i l. dite (ℕ_discrete i n)
            (λ (is : i ≡ n). subst (λ (j : ℕ). IsTurn (fed_at fed (suc j)) (drained_at (drained ++ t ∷ []) (suc j))
            (state_at x fed (drained ++ t ∷ []) j)) (sym is)
            (rw (free, found) (subst (λ (s : State). Answers s t.call) (sym before) answers)))
            (λ (other : i ≢ n). subst (λ (s : State). IsTurn (fed_at fed (suc i))
            (drained_at (drained ++ t ∷ []) (suc i)) s) (sym (same i l))
            (subst (λ (o : Option DrainCall). IsTurn (fed_at fed (suc i)) o (state_at x fed drained i))
            (sym (drained_at_snoc drained t (suc i) (λ e. omega arith))) (h.legal i (omega arith))));
        leaves = rw (free, found) (ap (λ (s : State). after_drain s t.call) before);
      };
      fed_is = drain_fed y t.call ∙ past.fed_is;
      taken_is = drain_taken y t.call answers
          ∙ (ap (λ (f : Stream). flow_after f t.call) past.taken_is ∙ sym (taken_flow_snoc drained t));
      horizon = drain_horizon y t.call ∙ past.horizon;
      spec = drain_spec y t.call ∙ past.spec;
    }

-- no number is above n
fed_below : (fed : List FeedTurn) (n : ℕ) → ((k : ℕ) → n < k → fed_times fed k ≡ 0)
    → All (λ (t : FeedTurn). t.number < suc n) fed
fed_below [] n none = All-nil _
fed_below (t ∷ ts) n none = All-cons (λ (u : FeedTurn). u.number < suc n) t ts
    (dite (dec_le t.number n) (λ le. omega arith)
    (λ no. let e = fed_times_cons t ts t.number in let z = none t.number (omega arith)
    in let here = eq-eqb t.number t.number refl in absurd (grind (arith, nat_tests))))
    (fed_below ts n (λ k above. let e = fed_times_cons t ts k in let z = none k above in omega arith))

drained_below : (drained : List DrainTurn) (n : ℕ) → ((k : ℕ) → n < k → drained_times drained k ≡ 0)
    → All (λ (t : DrainTurn). t.number < suc n) drained
drained_below [] n none = All-nil _
drained_below (t ∷ ts) n none = All-cons (λ (u : DrainTurn). u.number < suc n) t ts
    (dite (dec_le t.number n) (λ le. omega arith)
    (λ no. let e = drained_times_cons t ts t.number in let z = none t.number (omega arith)
    in let here = eq-eqb t.number t.number refl in absurd (grind (arith, nat_tests))))
    (drained_below ts n (λ k above. let e = drained_times_cons t ts k in let z = none k above in omega arith))

none_above : (fed : List FeedTurn) (drained : List DrainTurn) (n k : ℕ) → IsNumbered fed drained n → n < k
    → fed_times fed k + drained_times drained k ≡ 0
none_above fed drained n k numbered above = let e = times_is fed drained k
    in let z : times fed drained k ≡ once_to n k = numbered k in grind (arith, nat_tests)

pub all_fed : (fed : List FeedTurn) (drained : List DrainTurn) (n : ℕ) → IsNumbered fed drained n
    → All (λ (t : FeedTurn). t.number < suc n) fed
all_fed fed drained n numbered = fed_below fed n (λ k above. let z = none_above fed drained n k numbered above
    in omega arith)

pub all_drained : (fed : List FeedTurn) (drained : List DrainTurn) (n : ℕ) → IsNumbered fed drained n
    → All (λ (t : DrainTurn). t.number < suc n) drained
all_drained fed drained n numbered =
    drained_below drained n (λ k above. let z = none_above fed drained n k numbered above in omega arith)

pub no_past : (x : State) → x.fed ≡ no_items → x.taken ≡ no_items → IsPast x [] [] 0 x
no_past x fed taken = record {
  history = record { numbered = λ k. grind (arith, nat_tests); legal = λ i l. absurd (omega arith); leaves = refl };
  fed_is = fed;
  taken_is = taken;
  horizon = refl;
  spec = refl;
}
