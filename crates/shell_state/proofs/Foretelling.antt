-- What was taken stands for everything that may still be fed.
use Rattle.std.proofs.Common.{◌≡◌, ◌⊎◌, inl, inr, ℕ, ◌≤◌, List, [], ◌∷◌, ◌++◌, length, ap, sym, subst, ◌∙◌, refl}
use Rattle.std.proofs.Common.{append_assoc, arith}
use Rattle.std.proofs.lemmas.List.{append-nil}
use Rattle.packet_record.specs.declared.packet.Timed.{Timed}
use Rattle.packet_record.specs.declared.item.Item.{Item}
use Rattle.packet_record.specs.declared.item.Item.TheVariants.{Packet, Mark, End, Broken}
use Rattle.packet_record.specs.declared.item.FlowEnd.TheVariants.{Open, Ended}
use Rattle.packet_record.specs.Streams.{Stream, after, after_all, AllFollow}
use Rattle.packet_record.specs.Moments.{AreFrom, Rise}
use Rattle.packet_record.proofs.MomentsLemmas.{from_lower, from-append}
use Rattle.shell_log.specs.declared.entry.Entry.{Entry}
use Rattle.link_core.specs.Promises.{count_to}
use Rattle.link_core.specs.inside.Promises.{Extends}
use Rattle.shell_state.specs.Shells.{out, lost, inside, shell_log, whole_out, whole_log}
use Rattle.shell_state.proofs.Laws.{out_fed, out_burnt, log_fed, log_burnt}
use Rattle.shell_state.specs.States.{State, opps_of, departures, ready, floor_of}
use Rattle.shell_state.specs.Standing.{Stands, Foretells, ForetellsAll}
use Rattle.shell_state.specs.Promises.{MayCome, ForetellsMore, IsFinished}
use Rattle.shell_state.proofs.Keeping.{licensed_open, licensed-le, more_departs}

-- the packets that items add
pub record Adds (f : Stream) (packets : List Timed) : Type 0 where
  pub added : List Timed
  pub is : packets ≡ f.packets ++ added
  pub come : MayCome f added

pub adds : (h : ℕ) (f : Stream) (items : List Item) → AllFollow h f items → Adds f (after_all f items).packets
adds h f [] a = record {
  added = [];
  is = sym (append-nil f.packets);
  come = record { rises = tt; later = tt; open' = inr refl };
}
adds h f (Packet t ∷ items) a =
    let rest = adds h (after f (Packet t)) items a.2 in
    record {
      added = t ∷ rest.added;
      is = rest.is ∙ append_assoc f.packets (t ∷ []) rest.added;
      come = record {
        rises = (rest.come.later, rest.come.rises);
        later = (a.0.1, from_lower f.bound t.moment rest.added a.0.1 rest.come.later);
        open' = inl a.0.0;
      };
    }
adds h f (Mark m ∷ items) a =
    let rest = adds h (after f (Mark m)) items a.2 in
    record {
      added = rest.added;
      is = rest.is;
      come = record {
        rises = rest.come.rises;
        later = from_lower f.bound m rest.added a.0.1 rest.come.later;
        open' = inl a.0.0;
      };
    }
adds h f (End ∷ items) a =
    let rest = adds h (after f End) items a.2 in
    record {
      added = rest.added;
      is = rest.is;
      come = record { rises = rest.come.rises; later = rest.come.later; open' = inl a.0.0 };
    }
adds h f (Broken ∷ items) a =
    let rest = adds h (after f Broken) items a.2 in
    record {
      added = rest.added;
      is = rest.is;
      come = record { rises = rest.come.rises; later = rest.come.later; open' = inl a.0.0 };
    }

within_all : (s : State) → Stands s → s.burnt ≤ length (opps_of s)
within_all s st = let allowed = st.allowed in let all = licensed-le s in omega arith

-- where packets are still to come, the departures go on from those of now
by_out : (s : State) (coming : List Timed) → Stands s → Rise coming → AreFrom s.fed.bound coming → (s.fed.end ≡ Open)
    ⊎ (coming ≡ [])
    → Extends (whole_out s.spec s.horizon (s.fed.packets ++ coming)) (departures s) (floor_of s)
by_out s coming st rises later (inl open') =
    let before : s.burnt ≤ count_to (opps_of s) s.fed.bound = subst (λ n. s.burnt ≤ n) (licensed_open s open')
    st.allowed in
    out_fed s.spec s.horizon s.burnt (length (opps_of s)) s.fed.bound s.fed.packets coming st.built (within_all s st)
    before st.covered st.honest_fed.rises st.honest_fed.bounded later rises
by_out s coming st rises later (inr none) =
    subst (λ l. Extends (whole_out s.spec s.horizon l) (departures s) (floor_of s))
    (sym (ap (λ l. s.fed.packets ++ l) none ∙ append-nil s.fed.packets))
    (out_burnt s.spec s.horizon s.burnt (length (opps_of s)) s.fed.bound s.fed.packets st.built (within_all s st)
    st.honest_fed.rises st.covered)

pub out_goes_on : (s : State) (coming : List Timed) → Stands s → MayCome s.fed coming
    → Extends (whole_out s.spec s.horizon (s.fed.packets ++ coming)) (departures s) (floor_of s)
out_goes_on s coming st come = by_out s coming st come.rises come.later come.open'

-- and the log goes on from that of now
by_log : (s : State) (coming : List Timed) → Stands s → Rise coming → AreFrom s.fed.bound coming → (s.fed.end ≡ Open)
    ⊎ (coming ≡ [])
    → (entries : List Entry) × (whole_log s.spec s.horizon (s.fed.packets ++ coming) ≡ shell_log s.spec s.horizon
    s.burnt s.fed.packets ++ entries)
by_log s coming st rises later (inl open') =
    let before : s.burnt ≤ count_to (opps_of s) s.fed.bound = subst (λ n. s.burnt ≤ n) (licensed_open s open')
    st.allowed in
    log_fed s.spec s.horizon s.burnt (length (opps_of s)) s.fed.bound s.fed.packets coming st.built (within_all s st)
    before st.covered st.honest_fed.rises st.honest_fed.bounded later rises
by_log s coming st rises later (inr none) =
    subst (λ l. (entries : List Entry)
    × (whole_log s.spec s.horizon l ≡ shell_log s.spec s.horizon s.burnt s.fed.packets ++ entries))
    (sym (ap (λ l. s.fed.packets ++ l) none ∙ append-nil s.fed.packets))
    (log_burnt s.spec s.horizon s.burnt (length (opps_of s)) s.fed.packets st.built (within_all s st)
    st.honest_fed.rises st.covered)

-- from the two laws of a shell
foretold : (s : State) (packets : List Timed) → Stands s → Extends (whole_out s.spec s.horizon packets) (departures s)
    (floor_of s)
    → (entries : List Entry) × (whole_log s.spec s.horizon packets ≡ shell_log s.spec s.horizon s.burnt s.fed.packets
    ++ entries) → Foretells s packets
foretold s packets st ext log = record {
  more = ready s ++ ext.more;
  departs = more_departs s.taken.packets (departures s) (ready s) ext.more (whole_out s.spec s.horizon packets)
      st.taken ext.is;
  later = from-append s.taken.bound (ready s) ext.more st.waits
      (from_lower s.taken.bound (floor_of s) ext.more st.floor ext.later);
  entries = log.0;
  log = log.1;
}

pub foretells_more : (s : State) → Stands s → ForetellsMore s
foretells_more s st coming come = foretold s (s.fed.packets ++ coming) st (out_goes_on s coming st come)
    (by_log s coming st come.rises come.later come.open')

pub foretells : (s : State) → Stands s → ForetellsAll s
foretells s st items follow =
    let more = adds s.horizon s.fed items follow in
    subst (Foretells s) (sym more.is) (foretells_more s st more.added more.come)

-- at the end, what was taken is all that departs
pub taken_whole : (s : State) → Stands s → s.taken.end ≡ Ended → (s.fed.end ≡ Ended)
    × (s.taken.packets ≡ whole_out s.spec s.horizon s.fed.packets)
taken_whole s st e =
    let all = st.ended e in (
      all.0,
      sym (append-nil s.taken.packets) ∙ ap (λ l. s.taken.packets ++ l) (sym all.2) ∙ sym st.taken
          ∙ ap (λ n. out s.spec s.horizon n s.fed.packets) all.1,
    )

-- and every other list is whole too
pub finished : (s : State) → Stands s → s.taken.end ≡ Ended → IsFinished s
finished s st e =
    let whole = taken_whole s st e in
    let all = (st.ended e).1 in
    record {
      fed = whole.0;
      out = whole.1;
      lost = ap (λ n. lost s.spec s.horizon n s.fed.packets) all;
      inside = ap (λ n. inside s.spec s.horizon n s.fed.packets) all;
      log = ap (λ n. shell_log s.spec s.horizon n s.fed.packets) all;
    }
