-- Where nothing more is fed, each take goes on, until the end.
use Rattle.std.proofs.Common.{◌≡◌, ◌≢◌, ◌⊎◌, inl, inr, ℕ, suc, ◌+◌, ◌-◌, ◌≤◌, ◌<◌, ◌==◌, ◌&&◌, Bool, true, false, cond}
use Rattle.std.proofs.Common.{List, [], ◌∷◌, ◌++◌, length, min, nat_le, nat_lt, ap, sym, subst, ◌∙◌, refl, arith, rules}
use Rattle.std.proofs.Common.{tests}
use Rattle.std.proofs.lemmas.List.{length-append}
use Rattle.packet_record.specs.declared.packet.Timed.{Timed}
use Rattle.packet_record.specs.declared.item.Item.TheVariants.{Mark, End, Broken}
use Rattle.packet_record.specs.declared.item.FlowEnd.TheVariants.{Open, Ended}
use Rattle.packet_record.specs.Moments.{AreFrom}
use Rattle.shell_state.specs.Shells.{whole_out}
use Rattle.link_core.specs.Promises.{count_to}
use Rattle.shell_state.proofs.Laws.{out_burnt, floor_within}
use Rattle.shell_state.specs.declared.taken.Taken.{Taken}
use Rattle.shell_state.specs.declared.taken.Taken.TheVariants.{Item as Gives, Again, NotYet}
use Rattle.shell_state.specs.States.{State, opps_of, departures, ready, floor_of}
use Rattle.shell_state.specs.Steps.{is_ended, licensed, burns, burns_where, with_burnt, with_answer, answer_where}
use Rattle.shell_state.specs.Steps.{answer_after, answer_of, after_take}
use Rattle.shell_state.specs.Standing.{Stands}
use Rattle.shell_state.specs.inside.Standing.{left_of}
use Rattle.shell_state.proofs.Keeping.{burnt_keeps, burns-le, licensed-le, more_departs, ready_is}

licensed_ended : (s : State) → s.fed.end ≡ Ended → licensed s ≡ length (opps_of s)
licensed_ended s e = ap (λ x. cond (is_ended x) (length (opps_of s)) (count_to (opps_of s) s.fed.bound)) e

pub ready_more : (s : State) (n : ℕ) → Stands s → (more : List Timed) × (ready (with_burnt s n) ≡ ready s ++ more)
ready_more s n st =
    let ext = out_burnt s.spec s.horizon s.burnt (s.burnt + n) s.fed.bound s.fed.packets st.built (omega arith)
    st.honest_fed.rises st.covered in (
      ext.more,
      ready_is (departures (with_burnt s n)) s.taken.packets (ready s ++ ext.more)
          (more_departs s.taken.packets (departures s) (ready s) ext.more (departures (with_burnt s n)) st.taken
          ext.is),
    )

-- what was taken and what is ready are no more than all that departs
taken_within : (s : State) → Stands s
    → length s.taken.packets + length (ready s) ≤ length (whole_out s.spec s.horizon s.fed.packets)
taken_within s st =
    let a = st.allowed in
    let b = licensed-le s in
    let le : s.burnt ≤ length (opps_of s) = omega arith in
    let ext = out_burnt s.spec s.horizon s.burnt (length (opps_of s)) s.fed.bound s.fed.packets st.built le
    st.honest_fed.rises st.covered in
    let long = ap length ext.is ∙ length-append (departures s) ext.more in
    let parts = ap length st.taken ∙ length-append s.taken.packets (ready s) in
    omega arith

Goes : State → State → Taken → Type 0
Goes s burnt a = (a ≡ Gives End)
    ⊎ (((with_answer burnt a).taken.end ≡ Open) × (left_of (with_answer burnt a) < left_of s))

-- all that may be burnt is burnt where nothing is ready and fewer than `most` were burnt
none_left : (s : State) (most : ℕ) → Stands s → s.fed.end ≡ Ended → s.broken ≡ false
    → ready (with_burnt s (burns s most)) ≡ [] → burns s most ≢ most → length (opps_of s) ≤ s.burnt + burns s most
none_left s most st e whole none ne =
    let n = burns s most in
    let more = ready_more s n st in
    let all = licensed_ended s e in
    by (ready s) refl (front (ready s) more.0 (sym more.1 ∙ none)) all
  where
    front : (xs ys : List Timed) → xs ++ ys ≡ [] → xs ≡ []
    front [] ys e = refl
    front (x ∷ xs) ys e = absurd (cc e)

    by : (r : List Timed) → ready s ≡ r → ready s ≡ [] → licensed s ≡ length (opps_of s)
        → length (opps_of s) ≤ s.burnt + burns s most
    by r e z all =
        let count : burns s most ≡ min most (licensed s - s.burnt) = ap (λ b. cond b 0 (burns_where (ready s) s most))
        whole ∙ ap (λ l. burns_where l s most) z in
        omega arith

take_goes_on : (s : State) (most : ℕ) → Stands s → s.fed.end ≡ Ended → s.taken.end ≡ Open → s.broken ≡ false → 1 ≤ most
    → Goes s (with_burnt s (burns s most)) (answer_after (with_burnt s (burns s most)) (burns s most) most)
unfolding Goes
take_goes_on s most st ended open' whole some = by (ready b) refl
  where
    n : ℕ
    n = burns s most

    b : State
    b = with_burnt s n

    stb : Stands b
    stb = burnt_keeps s n st open' (burns-le s most)

    last : (t : Bool) → (n == most) ≡ t → ready b ≡ [] → (length (opps_of s) ≤ s.burnt + n → ⊥)
        → Goes s b (cond t (Again n) (NotYet s.fed.bound))
    last true e none rest = inr (
      open',
      let same : n ≡ most = search (rules, tests) in let a = stb.allowed
          in let l = licensed-le s in omega arith,
    )
    last false e none rest = absurd
        (rest (none_left s most st ended whole none (λ same. let x : true ≡ false = sym (search (rules, tests)) ∙ e
        in cc x)))

    third : (t : Bool) → nat_lt s.taken.bound (floor_of b) ≡ t → ready b ≡ [] → (length (opps_of s) ≤ s.burnt + n → ⊥)
        → Goes s b (cond t (Gives (Mark (floor_of b))) (cond (n == most) (Again n) (NotYet s.fed.bound)))
    third true e none rest =
        inr (
          open',
          let lt : s.taken.bound < floor_of b = search (rules, tests)
              in let up = floor_within b.spec b.horizon b.burnt b.fed.bound stb.honest_fed.bound in omega arith,
        )
    third false e none rest = last (n == most) refl none rest

    second : (t : Bool) → (is_ended s.fed.end && nat_le (length (opps_of s)) (s.burnt + n)) ≡ t → ready b ≡ []
        → Goes s b (cond t (Gives End) (cond (nat_lt s.taken.bound (floor_of b)) (Gives (Mark (floor_of b)))
        (cond (n == most) (Again n) (NotYet s.fed.bound))))
    second true e none = inl refl
    second false e none = third (nat_lt s.taken.bound (floor_of b)) refl none
        (λ le. let t : nat_le (length (opps_of s)) (s.burnt + n) ≡ true = search (rules, tests) in
        let x : true ≡ false = sym (ap (λ k. is_ended k && nat_le (length (opps_of s)) (s.burnt + n)) ended ∙ t) ∙ e
        in cc x)

    by : (r : List Timed) → ready b ≡ r → Goes s b (answer_where r b n most)
    by [] e = second (is_ended s.fed.end && nat_le (length (opps_of s)) (s.burnt + n)) refl e
    by (t ∷ ts) e = inr (
      open',
      let up = (subst (AreFrom s.taken.bound) e stb.waits).0 in
          let fits = taken_within b stb in
          let one : length (ready b) ≡ suc (length ts) = ap length e in
          let long = length-append s.taken.packets (t ∷ []) in
          omega arith,
    )

-- each answer but the end leaves the flow open and lowers what is left
pub take_goes : (s : State) (most : ℕ) → Stands s → s.fed.end ≡ Ended → s.taken.end ≡ Open → s.broken ≡ false → 1 ≤ most
    → (answer_of s most ≡ Gives End)
    ⊎ (((after_take s most).taken.end ≡ Open) × (left_of (after_take s most) < left_of s))
unfolding after_take answer_of Goes
take_goes s most st ended open' whole some =
    subst (λ (x : Bool). Goes s (with_burnt s (burns s most))
    (cond x (Gives Broken) (answer_after (with_burnt s (burns s most)) (burns s most) most))) (sym whole)
    (take_goes_on s most st ended open' whole some)
