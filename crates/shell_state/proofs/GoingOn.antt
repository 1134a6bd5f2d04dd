-- Every take that doesn't wait, and every feed, leaves less to be done.
use Rattle.std.proofs.Common.{◌≡◌, ◌⊎◌, inl, inr, ℕ, suc, ◌+◌, ◌≤◌, ◌<◌, ◌==◌, ◌&&◌, Bool, true, false, cond, List, []}
use Rattle.std.proofs.Common.{◌∷◌, ◌++◌, length, nat_le, nat_lt, ap, sym, subst, ◌∙◌, refl, arith, rules, tests}
use Rattle.std.proofs.lemmas.List.{length-append}
use Rattle.packet_record.specs.declared.packet.Timed.{Timed}
use Rattle.packet_record.specs.declared.item.Item.{Item}
use Rattle.packet_record.specs.declared.item.Item.TheVariants.{Packet, Mark, End, Broken}
use Rattle.packet_record.specs.declared.item.FlowEnd.{FlowEnd}
use Rattle.packet_record.specs.declared.item.FlowEnd.TheVariants.{Open, Ended, Broken as Cut}
use Rattle.packet_record.specs.Streams.{after, after_all, AllFollow}
use Rattle.packet_record.specs.Moments.{AreFrom}
use Rattle.link_core.specs.Promises.{count_to}
use Rattle.shell_state.specs.Shells.{whole_out}
use Rattle.shell_state.proofs.Laws.{floor_within, floor_from, floor_above}
use Rattle.shell_state.proofs.Counting.{count_to-le}
use Rattle.shell_state.specs.declared.taken.Taken.{Taken}
use Rattle.shell_state.specs.declared.taken.Taken.TheVariants.{Item as Gives, Again, NotYet}
use Rattle.shell_state.specs.States.{State, opps_of, departures, ready, floor_of}
use Rattle.shell_state.specs.Steps.{is_ended, licensed, burns, with_burnt, with_answer, answer_where, answer_after}
use Rattle.shell_state.specs.Steps.{answer_of, after_take, after_feed, fed_more, burnt_by}
use Rattle.shell_state.specs.Standing.{Stands}
use Rattle.shell_state.specs.Promises.{KeepsUp, MayCome, GoesOn, takes_left, steps_left, open_of}
use Rattle.shell_state.proofs.Keeping.{burnt_keeps, burns-le, licensed-le}
use Rattle.shell_state.proofs.Foretelling.{adds, out_goes_on}

-- the licence is at least as far as the bound of what was fed
licensed_from : (s : State) → count_to (opps_of s) s.fed.bound ≤ licensed s
licensed_from s = by s.fed.end
  where
    by : (x : FlowEnd) → count_to (opps_of s) s.fed.bound ≤ cond (is_ended x) (length (opps_of s))
        (count_to (opps_of s) s.fed.bound)
    by Open = omega arith
    by Ended = count_to-le (opps_of s) s.fed.bound
    by Cut = omega arith

pub keeps_up : (s : State) → Stands s → KeepsUp s
keeps_up s st = record {
  floor = λ all. let lic = licensed_from s in floor_from s.spec s.horizon s.burnt s.fed.bound st.built
      st.honest_fed.bound (omega arith);
  above = λ all link le. let lic = licensed_from s in floor_above s.spec s.horizon s.burnt s.fed.bound st.built link
      le (omega arith);
}

-- what was taken and what is ready are no more than all that ever departs
within_all : (s : State) (coming : List Timed) → Stands s → MayCome s.fed coming
    → length s.taken.packets + length (ready s) ≤ length (whole_out s.spec s.horizon (s.fed.packets ++ coming))
within_all s coming st come =
    let ext = out_goes_on s coming st come in
    let long = ap length ext.is ∙ length-append (departures s) ext.more in
    let parts = ap length st.taken ∙ length-append s.taken.packets (ready s) in
    omega arith

-- the answer, of the state after those were burnt
Nears : List Timed → State → State → Taken → Type 0
Nears packets s b a = (a ≡ NotYet s.fed.bound) ⊎ (takes_left packets (with_answer b a) < takes_left packets s)

take_nears : (s : State) (most : ℕ) (coming : List Timed) → Stands s → s.taken.end ≡ Open → 1 ≤ most
    → MayCome s.fed coming
    → Nears (s.fed.packets ++ coming) s (with_burnt s (burns s most))
    (answer_after (with_burnt s (burns s most)) (burns s most) most)
unfolding Nears
take_nears s most coming st open' some come = by (ready b) refl
  where
    n : ℕ
    n = burns s most

    b : State
    b = with_burnt s n

    all : List Timed
    all = s.fed.packets ++ coming

    stb : Stands b
    stb = burnt_keeps s n st open' (burns-le s most)

    is_open : open_of s.taken.end ≡ 1
    is_open = ap open_of open'

    last : (t : Bool) → (n == most) ≡ t → Nears all s b (cond t (Again n) (NotYet s.fed.bound))
    last true e = inr (let same : n ≡ most = search (rules, tests) in let a = stb.allowed in let l = licensed-le s
        in omega arith)
    last false e = inl refl

    third : (t : Bool) → nat_lt s.taken.bound (floor_of b) ≡ t
        → Nears all s b (cond t (Gives (Mark (floor_of b))) (cond (n == most) (Again n) (NotYet s.fed.bound)))
    third true e = inr (let lt : s.taken.bound < floor_of b = search (rules, tests)
        in let up = floor_within b.spec b.horizon b.burnt b.fed.bound stb.honest_fed.bound in omega arith)
    third false e = last (n == most) refl

    second : (t : Bool) → Nears all s b
        (cond t (Gives End) (cond (nat_lt s.taken.bound (floor_of b)) (Gives (Mark (floor_of b)))
        (cond (n == most) (Again n) (NotYet s.fed.bound))))
    second true = inr (let o = is_open in omega arith)
    second false = third (nat_lt s.taken.bound (floor_of b)) refl

    by : (r : List Timed) → ready b ≡ r → Nears all s b (answer_where r b n most)
    by [] e = second (is_ended s.fed.end && nat_le (length (opps_of s)) (s.burnt + n))
    by (t ∷ ts) e = inr (
        let up = (subst (AreFrom s.taken.bound) e stb.waits).0 in
        let fits = within_all b coming stb come in
        let one : length (ready b) ≡ suc (length ts) = ap length e in
        let long = length-append s.taken.packets (t ∷ []) in
        omega arith
        )

pub take_leaves_fewer : (s : State) (most : ℕ) (coming : List Timed) → Stands s → s.taken.end ≡ Open → 1 ≤ most
    → MayCome s.fed coming
    → (answer_of s most ≡ NotYet s.fed.bound)
    ⊎ (takes_left (s.fed.packets ++ coming) (after_take s most) < takes_left (s.fed.packets ++ coming) s)
unfolding after_take answer_of Nears
take_leaves_fewer s most coming st open' some come = by s.broken refl
  where
    b : State
    b = with_burnt s (burns s most)

    by : (x : Bool) → s.broken ≡ x → Nears (s.fed.packets ++ coming) s b
        (cond x (Gives Broken) (answer_after b (burns s most) most))
    by true e = inr (let o : open_of s.taken.end ≡ 1 = ap open_of open' in omega arith)
    by false e = take_nears s most coming st open' some come

burnt_by-grows : (s : State) (item : Item) → s.burnt ≤ burnt_by s item
burnt_by-grows s (Packet t) = omega arith
burnt_by-grows s (Mark m) = omega arith
burnt_by-grows s End = omega arith
burnt_by-grows s Broken = omega arith

pub feed_leaves_no_more : (s : State) (item : Item) (packets : List Timed)
    → takes_left packets (after_feed s item) ≤ takes_left packets s
unfolding after_feed
feed_leaves_no_more s item packets = by s.broken
  where
    by : (x : Bool) → takes_left packets (cond x s (fed_more s item)) ≤ takes_left packets s
    by true = omega arith
    by false = let more = burnt_by-grows s item in omega arith

take_step : (s : State) (most : ℕ) (items : List Item) → Stands s → s.taken.end ≡ Open → 1 ≤ most
    → AllFollow s.horizon s.fed items
    → (answer_of s most ≡ NotYet s.fed.bound) ⊎ (steps_left items (after_take s most) < steps_left items s)
unfolding after_take
take_step s most items st open' some follow =
    let more = adds s.horizon s.fed items follow in
    let P : List Timed → Type 0 = λ l. (answer_of s most ≡ NotYet s.fed.bound)
    ⊎ (length items + takes_left l (after_take s most) < length items + takes_left l s) in
    subst P (sym more.is) (elim (take_leaves_fewer s most more.added st open' some more.come) [
      | inl waits ↦ inl waits
      | inr less ↦ inr (omega (arith, less))
    ])

feed_step : (s : State) (item : Item) (items : List Item) → s.broken ≡ false
    → steps_left items (after_feed s item) < steps_left (item ∷ items) s
unfolding after_feed
feed_step s item items whole =
    let P : State → Type 0 = λ x. length items + takes_left (after_all x.fed items).packets x < suc (length items) +
    takes_left (after_all (after s.fed item) items).packets s in
    subst P (sym (ap (λ x. cond x s (fed_more s item)) whole)) (let more = burnt_by-grows s item in omega arith)

pub goes_on : (s : State) → Stands s → GoesOn s
goes_on s st = record {
  take = λ most some open' coming come. take_leaves_fewer s most coming st open' some come;
  feed = feed_leaves_no_more s;
  take_step = λ most some open' items follow. take_step s most items st open' some follow;
  feed_step = feed_step s;
}
