-- Each step keeps what is true of every state.
use Rattle.std.proofs.Common.{◌≡◌, ◌⊎◌, inl, inr, ℕ, ◌+◌, ◌-◌, ◌≤◌, ◌<◌, ◌==◌, ◌&&◌, Bool, true, false, cond, List, []}
use Rattle.std.proofs.Common.{◌∷◌, ◌++◌, length, drop, max, nat_le, nat_lt, ap, sym, subst, ◌∙◌, refl, append_assoc}
use Rattle.std.proofs.Common.{arith, rules, tests}
use Rattle.std.proofs.Math.Seq.{drop-append_seam}
use Rattle.packet_record.specs.declared.packet.Timed.{Timed}
use Rattle.packet_record.specs.declared.item.Item.{Item}
use Rattle.packet_record.specs.declared.item.Item.TheVariants.{Packet, Mark, End, Broken}
use Rattle.packet_record.specs.declared.item.FlowEnd.{FlowEnd}
use Rattle.packet_record.specs.declared.item.FlowEnd.TheVariants.{Open, Ended, Broken as Cut}
use Rattle.packet_record.specs.Streams.{Stream, after, stream, MayFollow, IsUpTo}
use Rattle.packet_record.specs.Moments.{AreFrom, AreUpTo, Rise}
use Rattle.packet_record.proofs.MomentsLemmas.{from_lower, up_to_higher, from-append, up_to-append, up_to_back}
use Rattle.packet_record.proofs.MomentsLemmas.{rise-append, rise_back}
use Rattle.trace_reader.specs.declared.opportunity.Opportunity.{Opportunity}
use Rattle.link_core.specs.Promises.{count_to, AreCovered}
use Rattle.shell_state.proofs.Counting.{count_to-le, count_to-grows}
use Rattle.shell_state.proofs.Laws.{out_fed, out_burnt, out_rises, out_within, out_up_to, floor_grows, floor_within}
use Rattle.shell_state.specs.declared.taken.Taken.{Taken}
use Rattle.shell_state.specs.declared.taken.Taken.TheVariants.{Item as Gives, Again, NotYet}
use Rattle.shell_state.specs.States.{State, opps_of, departures, ready, floor_of}
use Rattle.shell_state.specs.Steps.{is_ended, licensed, burns, burns_where, with_burnt, with_answer, answer_where}
use Rattle.shell_state.specs.Steps.{answer_after, answer_of, after_take, after_feed, after_break, fed_more}
use Rattle.shell_state.specs.Standing.{IsHonest, Stands}

pub ready_is : (d t r : List Timed) → d ≡ t ++ r → drop (length t) d ≡ r
ready_is d t r e = ap (drop (length t)) e ∙ drop-append_seam t r

-- where more departs, more is ready
pub more_departs : (t d r more d' : List Timed) → d ≡ t ++ r → d' ≡ d ++ more → d' ≡ t ++ (r ++ more)
more_departs t d r more d' e e' = e' ∙ ap (λ l. l ++ more) e ∙ append_assoc t r more

pub covered_more : (os : List Opportunity) (b b' : ℕ) (ts : List Timed) → b ≤ b' → AreCovered os b ts
    → AreCovered os b' ts
covered_more os b b' [] le c = tt
covered_more os b b' (t ∷ ts) le c = (omega (arith, c.0), covered_more os b b' ts le c.1)

covered-push : (os : List Opportunity) (b : ℕ) (t : Timed) (ts : List Timed) → AreCovered os b ts
    → count_to os t.moment ≤ b → AreCovered os b (ts ++ t ∷ [])
covered-push os b t [] c le = (le, tt)
covered-push os b t (u ∷ ts) c le = (c.0, covered-push os b t ts c.1 le)

pub licensed_open : (s : State) → s.fed.end ≡ Open → licensed s ≡ count_to (opps_of s) s.fed.bound
licensed_open s e = ap (λ x. cond (is_ended x) (length (opps_of s)) (count_to (opps_of s) s.fed.bound)) e

by_end : (x : FlowEnd) (n m : ℕ) → m ≤ n → cond (is_ended x) n m ≤ n
by_end Open n m le = le
by_end Ended n m le = omega arith
by_end Cut n m le = le

pub licensed-le : (s : State) → licensed s ≤ length (opps_of s)
licensed-le s = by_end s.fed.end (length (opps_of s)) (count_to (opps_of s) s.fed.bound)
    (count_to-le (opps_of s) s.fed.bound)

-- licensed opportunities are burnt
pub burnt_keeps : (s : State) (n : ℕ) → Stands s → s.taken.end ≡ Open → n ≤ licensed s - s.burnt
    → Stands (with_burnt s n)
burnt_keeps s n st open' le =
    let le' : s.burnt ≤ s.burnt + n = omega arith in
    let all = licensed s in
    let allowed : s.burnt ≤ all = st.allowed in
    let ext = out_burnt s.spec s.horizon s.burnt (s.burnt + n) s.fed.bound s.fed.packets st.built le'
    st.honest_fed.rises st.covered in
    let whole = more_departs s.taken.packets (departures s) (ready s) ext.more (departures (with_burnt s n)) st.taken
    ext.is in
    let is = ready_is (departures (with_burnt s n)) s.taken.packets (ready s ++ ext.more) whole in
    record {
      built = st.built;
      honest_fed = st.honest_fed;
      honest_taken = st.honest_taken;
      covered = covered_more (opps_of s) s.burnt (s.burnt + n) s.fed.packets le' st.covered;
      allowed = omega arith;
      taken = whole ∙ ap (λ l. s.taken.packets ++ l) (sym is);
      waits = subst (AreFrom s.taken.bound) (sym is)
          (from-append s.taken.bound (ready s) ext.more st.waits
          (from_lower s.taken.bound (floor_of s) ext.more st.floor ext.later));
      floor = let g = floor_grows s.spec s.horizon s.burnt (s.burnt + n) s.fed.bound s.fed.bound st.built le'
          (omega arith) in let f = st.floor in omega arith;
      ended = λ e. absurd (let no : Open ≡ Ended = sym open' ∙ e in cc no);
      fed_broken = st.fed_broken;
      taken_broken = st.taken_broken;
    }

honest_push : (h : ℕ) (f : Stream) (t : Timed) → IsHonest h f → f.bound ≤ t.moment → t.moment ≤ h
    → IsHonest h (after f (Packet t))
honest_push h f t hon le within = record {
  rises = rise-append f.bound f.packets (t ∷ []) hon.rises hon.bounded (le, tt) (tt, tt);
  bounded = up_to-append t.moment f.packets (t ∷ []) (up_to_higher f.bound t.moment f.packets le hon.bounded)
      (omega arith, tt);
  within = up_to-append h f.packets (t ∷ []) hon.within (within, tt);
  bound = omega arith;
}

honest_mark : (h : ℕ) (f : Stream) (m : ℕ) → IsHonest h f → f.bound ≤ m → m ≤ h + 1 → IsHonest h (after f (Mark m))
honest_mark h f m hon le within = record {
  rises = hon.rises;
  bounded = up_to_higher f.bound m f.packets le hon.bounded;
  within = hon.within;
  bound = within;
}

same_end : (h : ℕ) (f : Stream) (e : FlowEnd) → IsHonest h f → IsHonest h (stream f.packets f.bound e)
same_end h f e hon = record { rises = hon.rises; bounded = hon.bounded; within = hon.within; bound = hon.bound }

-- an item is fed to a state that is not broken
pub fed_keeps : (s : State) (item : Item) → Stands s → s.broken ≡ false → MayFollow s.fed item → IsUpTo s.horizon item
    → Stands (fed_more s item)
fed_keeps s (Packet t) st whole may within =
    let os = opps_of s in
    let counted = count_to os t.moment in
    let b' = max s.burnt counted in
    let le : s.burnt ≤ b' = omega arith in
    let before : s.burnt ≤ count_to os s.fed.bound = subst (λ n. s.burnt ≤ n) (licensed_open s may.0) st.allowed in
    let grown = count_to-grows os s.fed.bound t.moment may.1 in
    let ext = out_fed s.spec s.horizon s.burnt b' s.fed.bound s.fed.packets (t ∷ []) st.built le before st.covered
    st.honest_fed.rises st.honest_fed.bounded (may.1, tt) (tt, tt) in
    let s' = fed_more s (Packet t) in
    let departs = more_departs s.taken.packets (departures s) (ready s) ext.more (departures s') st.taken ext.is in
    let is = ready_is (departures s') s.taken.packets (ready s ++ ext.more) departs in
    record {
      built = st.built;
      honest_fed = honest_push s.horizon s.fed t st.honest_fed may.1 within;
      honest_taken = st.honest_taken;
      covered = covered-push os b' t s.fed.packets (covered_more os s.burnt b' s.fed.packets le st.covered)
          (omega arith);
      allowed = subst (λ n. b' ≤ n) (sym (licensed_open s' may.0)) (omega arith);
      taken = departs ∙ ap (λ l. s.taken.packets ++ l) (sym is);
      waits = subst (AreFrom s.taken.bound) (sym is)
          (from-append s.taken.bound (ready s) ext.more st.waits
          (from_lower s.taken.bound (floor_of s) ext.more st.floor ext.later));
      floor = let g = floor_grows s.spec s.horizon s.burnt b' s.fed.bound t.moment st.built le may.1
          in let f = st.floor in omega arith;
      ended = λ e. absurd (let no : Open ≡ Ended = sym may.0 ∙ (st.ended e).0 in cc no);
      fed_broken = λ e. absurd (let no : Open ≡ Cut = sym may.0 ∙ e in cc no);
      taken_broken = λ e. absurd (let no : true ≡ false = sym (st.taken_broken e) ∙ whole in cc no);
    }
fed_keeps s (Mark m) st whole may within =
    let os = opps_of s in
    let before : s.burnt ≤ count_to os s.fed.bound = subst (λ n. s.burnt ≤ n) (licensed_open s may.0) st.allowed in
    let grown = count_to-grows os s.fed.bound m may.1 in
    record {
      built = st.built;
      honest_fed = honest_mark s.horizon s.fed m st.honest_fed may.1 within;
      honest_taken = st.honest_taken;
      covered = st.covered;
      allowed = subst (λ n. s.burnt ≤ n) (sym (licensed_open (fed_more s (Mark m)) may.0)) (omega arith);
      taken = st.taken;
      waits = st.waits;
      floor = let g = floor_grows s.spec s.horizon s.burnt s.burnt s.fed.bound m st.built (omega arith) may.1
          in let f = st.floor in omega arith;
      ended = λ e. absurd (let no : Open ≡ Ended = sym may.0 ∙ (st.ended e).0 in cc no);
      fed_broken = λ e. absurd (let no : Open ≡ Cut = sym may.0 ∙ e in cc no);
      taken_broken = λ e. absurd (let no : true ≡ false = sym (st.taken_broken e) ∙ whole in cc no);
    }
fed_keeps s End st whole may within = record {
  built = st.built;
  honest_fed = same_end s.horizon s.fed Ended st.honest_fed;
  honest_taken = st.honest_taken;
  covered = st.covered;
  allowed = let f = st.allowed in let g = licensed-le s in omega arith;
  taken = st.taken;
  waits = st.waits;
  floor = st.floor;
  ended = λ e. absurd (let no : Open ≡ Ended = sym may.0 ∙ (st.ended e).0 in cc no);
  fed_broken = λ e. absurd (let no : Ended ≡ Cut = e in cc no);
  taken_broken = λ e. absurd (let no : true ≡ false = sym (st.taken_broken e) ∙ whole in cc no);
}
fed_keeps s Broken st whole may within = record {
  built = st.built;
  honest_fed = same_end s.horizon s.fed Cut st.honest_fed;
  honest_taken = st.honest_taken;
  covered = st.covered;
  allowed = subst (λ n. s.burnt ≤ n) (licensed_open s may.0) st.allowed;
  taken = st.taken;
  waits = st.waits;
  floor = st.floor;
  ended = λ e. absurd (let no : Open ≡ Ended = sym may.0 ∙ (st.ended e).0 in cc no);
  fed_broken = λ e. refl;
  taken_broken = λ e. refl;
}

-- the first departure that is ready is taken
packet_keeps : (s : State) (t : Timed) (ts : List Timed) → Stands s → s.taken.end ≡ Open → ready s ≡ t ∷ ts
    → Stands (with_answer s (Gives (Packet t)))
packet_keeps s t ts st open' e =
    let front = s.taken.packets in
    let whole : departures s ≡ front ++ t ∷ ts = st.taken ∙ ap (λ l. front ++ l) e in
    let whole' : departures s ≡ (front ++ t ∷ []) ++ ts = whole ∙ sym (append_assoc front (t ∷ []) ts) in
    let is = ready_is (departures s) (front ++ t ∷ []) ts whole' in
    let waits = subst (AreFrom s.taken.bound) e st.waits in
    let rises = subst Rise whole (out_rises s.spec s.horizon s.burnt s.fed.packets st.built st.honest_fed.rises) in
    let within = up_to_back s.horizon front (t ∷ ts)
    (subst (AreUpTo s.horizon) whole
    (out_within s.spec s.horizon s.burnt s.fed.packets st.built st.honest_fed.within)) in
    let under = up_to_back (floor_of s) front (t ∷ ts)
    (subst (AreUpTo (floor_of s)) whole (out_up_to s.spec s.horizon s.burnt s.fed.bound s.fed.packets st.built
    st.honest_fed.bounded)) in
    record {
      built = st.built;
      honest_fed = st.honest_fed;
      honest_taken = honest_push s.horizon s.taken t st.honest_taken waits.0 within.0;
      covered = st.covered;
      allowed = st.allowed;
      taken = whole' ∙ ap (λ l. (front ++ t ∷ []) ++ l) (sym is);
      waits = subst (AreFrom t.moment) (sym is) (rise_back front t ts rises);
      floor = under.0;
      ended = λ x. absurd (let no : Open ≡ Ended = sym open' ∙ x in cc no);
      fed_broken = st.fed_broken;
      taken_broken = λ x. absurd (let no : Open ≡ Cut = sym open' ∙ x in cc no);
    }

mark_keeps : (s : State) → Stands s → s.taken.end ≡ Open → ready s ≡ [] → s.taken.bound < floor_of s
    → Stands (with_answer s (Gives (Mark (floor_of s))))
mark_keeps s st open' e lt = record {
  built = st.built;
  honest_fed = st.honest_fed;
  honest_taken = honest_mark s.horizon s.taken (floor_of s) st.honest_taken (omega arith)
      (floor_within s.spec s.horizon s.burnt s.fed.bound st.honest_fed.bound);
  covered = st.covered;
  allowed = st.allowed;
  taken = st.taken;
  waits = subst (AreFrom (floor_of s)) (sym e) tt;
  floor = omega arith;
  ended = λ x. absurd (let no : Open ≡ Ended = sym open' ∙ x in cc no);
  fed_broken = st.fed_broken;
  taken_broken = st.taken_broken;
}

end_keeps : (s : State) → Stands s → ready s ≡ [] → s.fed.end ≡ Ended → length (opps_of s) ≤ s.burnt
    → Stands (with_answer s (Gives End))
end_keeps s st e fed le = record {
  built = st.built;
  honest_fed = st.honest_fed;
  honest_taken = same_end s.horizon s.taken Ended st.honest_taken;
  covered = st.covered;
  allowed = st.allowed;
  taken = st.taken;
  waits = st.waits;
  floor = st.floor;
  ended = λ x. (fed, (let f = st.allowed in let g = licensed-le s in omega arith), e);
  fed_broken = st.fed_broken;
  taken_broken = λ x. absurd (let no : Ended ≡ Cut = x in cc no);
}

pub broken_keeps : (s : State) → Stands s → s.broken ≡ true → Stands (with_answer s (Gives Broken))
broken_keeps s st b = record {
  built = st.built;
  honest_fed = st.honest_fed;
  honest_taken = same_end s.horizon s.taken Cut st.honest_taken;
  covered = st.covered;
  allowed = st.allowed;
  taken = st.taken;
  waits = st.waits;
  floor = st.floor;
  ended = λ x. absurd (let no : Cut ≡ Ended = x in cc no);
  fed_broken = st.fed_broken;
  taken_broken = λ x. b;
}

ended_true : (x : FlowEnd) (b : Bool) → (is_ended x && b) ≡ true → (x ≡ Ended) × (b ≡ true)
ended_true Open b e = absurd (cc e)
ended_true Ended b e = (refl, e)
ended_true Cut b e = absurd (cc e)

pub answer_keeps : (s : State) (n most : ℕ) → Stands s → s.taken.end ≡ Open
    → Stands (with_answer s (answer_where (ready s) s n most))
answer_keeps s n most st open' = by (ready s) refl
  where
    Holds : Taken → Type 0
    Holds a = Stands (with_answer s a)

    last : (b : Bool) → Holds (cond b (Again n) (NotYet s.fed.bound))
    last true = st
    last false = st

    third : (b : Bool) → nat_lt s.taken.bound (floor_of s) ≡ b → ready s ≡ []
        → Holds (cond b (Gives (Mark (floor_of s))) (cond (n == most) (Again n) (NotYet s.fed.bound)))
    third true e r = mark_keeps s st open' r (search (rules, tests))
    third false e r = last (n == most)

    second : (b : Bool) → (is_ended s.fed.end && nat_le (length (opps_of s)) s.burnt) ≡ b → ready s ≡ []
        → Holds (cond b (Gives End) (cond (nat_lt s.taken.bound (floor_of s)) (Gives (Mark (floor_of s)))
        (cond (n == most) (Again n) (NotYet s.fed.bound))))
    second true e r = let p = ended_true s.fed.end (nat_le (length (opps_of s)) s.burnt) e in let q = p.1
        in end_keeps s st r p.0 (search (rules, tests))
    second false e r = third (nat_lt s.taken.bound (floor_of s)) refl r

    by : (r : List Timed) → ready s ≡ r → Holds (answer_where r s n most)
    by [] e = second (is_ended s.fed.end && nat_le (length (opps_of s)) s.burnt) refl e
    by (t ∷ ts) e = packet_keeps s t ts st open' e

pub burns-le : (s : State) (most : ℕ) → burns s most ≤ licensed s - s.burnt
burns-le s most = by s.broken (ready s)
  where
    by : (b : Bool) (r : List Timed) → cond b 0 (burns_where r s most) ≤ licensed s - s.burnt
    by true r = omega arith
    by false [] = omega arith
    by false (t ∷ ts) = omega arith

pub take_keeps : (s : State) (most : ℕ) → Stands s → s.taken.end ≡ Open → Stands (after_take s most)
unfolding after_take answer_of
take_keeps s most st open' = by s.broken refl
  where
    burnt : State
    burnt = with_burnt s (burns s most)

    by : (b : Bool) → s.broken ≡ b → Stands
        (with_answer burnt (cond b (Gives Broken) (answer_after burnt (burns s most) most)))
    by true e = broken_keeps burnt (burnt_keeps s (burns s most) st open' (burns-le s most)) e
    by false e = answer_keeps burnt (burns s most) most (burnt_keeps s (burns s most) st open' (burns-le s most)) open'

pub feed_keeps : (s : State) (item : Item) → Stands s → (MayFollow s.fed item ⊎ (s.broken ≡ true))
    → IsUpTo s.horizon item → Stands (after_feed s item)
unfolding after_feed
feed_keeps s item st may within = by s.broken refl may
  where
    by : (b : Bool) → s.broken ≡ b → (MayFollow s.fed item ⊎ (s.broken ≡ true)) → Stands (cond b s (fed_more s item))
    by true e m = st
    by false e m = elim m [
      | inl follows ↦ fed_keeps s item st e follows within
      | inr broken ↦ absurd (let no : true ≡ false = sym broken ∙ e in cc no)
    ]

pub break_keeps : (s : State) → Stands s → Stands (after_break s)
unfolding after_break
break_keeps s st = record {
  built = st.built;
  honest_fed = st.honest_fed;
  honest_taken = st.honest_taken;
  covered = st.covered;
  allowed = st.allowed;
  taken = st.taken;
  waits = st.waits;
  floor = st.floor;
  ended = st.ended;
  fed_broken = λ x. refl;
  taken_broken = λ x. refl;
}
