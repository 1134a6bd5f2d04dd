-- A chain of stages with one stage more, and one whose workers ran.
use Rattle.std.proofs.Common.{◌≡◌, ◌∙◌, ap, sym, subst, ℕ, List, [], ◌∷◌, ◌++◌, refl}
use Rattle.packet_record.specs.declared.packet.Direction.{Direction}
use Rattle.packet_record.specs.declared.packet.Row.{Row}
use Rattle.packet_record.specs.declared.packet.Timed.{Timed}
use Rattle.packet_record.specs.Rows.{entering}
use Rattle.mark_channel.specs.Ends.{Channel}
use Rattle.shell_state.specs.States.{State}
use Rattle.nest_spec.specs.Nests.{NestParts, directions_of}
use Rattle.nest_spec.specs.Passed.{HavePassed}
use Rattle.shell_state.specs.declared.spec.DirSpec.{DirSpec}
use Rattle.shell_workers.specs.declared.stage.Stage.{Stage}
use Rattle.nest_runner.specs.declared.lane.Lane.{Lane}
use Rattle.shell_workers.specs.Stages.{AllDone, AllFresh, AllSame, IsFresh}
use Rattle.nest_runner.specs.Lanes.{AllOwn, HasCarried, HasRun, IsWired, Linked, specs_of}
use Rattle.nest_runner.specs.inside.Lanes.{AllEnded, HasEnded, IsSameLane}

abbrev pub IsOwn : ℕ → Stage → Type 0
IsOwn h s = (s.feed.cell ≡ s.cell) × (s.drain.cell ≡ s.cell) × (s.cell.opening.horizon ≡ h)

pub AllFresh-snoc : (stages : List Stage) (s : Stage) → AllFresh stages → IsFresh s → AllFresh (stages ++ s ∷ [])
AllFresh-snoc [] s all one = (one, tt)
AllFresh-snoc (x ∷ xs) s all one = (all.0, AllFresh-snoc xs s all.1 one)

pub AllOwn-snoc : (h : ℕ) (stages : List Stage) (s : Stage) → AllOwn h stages → IsOwn h s → AllOwn h (stages ++ s ∷ [])
AllOwn-snoc h [] s all one = (one, tt)
AllOwn-snoc h (x ∷ xs) s all one = (all.0, AllOwn-snoc h xs s all.1 one)

pub Linked-snoc : (first last : Channel) (stages : List Stage) (s : Stage) → Linked first stages s.from.channel
    → s.to.channel ≡ last → Linked first (stages ++ s ∷ []) last
Linked-snoc first last [] s all is = (sym all, is)
Linked-snoc first last (x ∷ xs) s all is = (all.0, Linked-snoc x.to.channel last xs s all.1 is)

Linked-same : (c d c' d' : Channel) (ss ts : List Stage) → c' ≡ c → d' ≡ d → AllSame ss ts → Linked c ss d
    → Linked c' ts d'
Linked-same c d c' d' [] [] p q same is = p ∙ is ∙ sym q
Linked-same c d c' d' [] (t ∷ ts) p q same is = absurd same
Linked-same c d c' d' (s ∷ ss) [] p q same is = absurd same
Linked-same c d c' d' (s ∷ ss) (t ∷ ts) p q same is = (
  same.0.from.1 ∙ is.0 ∙ sym p,
  Linked-same s.to.channel d t.to.channel d' ss ts same.0.to.1 q same.1 is.1,
)

AllOwn-same : (h : ℕ) (ss ts : List Stage) → AllSame ss ts → AllOwn h ss → AllOwn h ts
AllOwn-same h [] [] same own = tt
AllOwn-same h [] (t ∷ ts) same own = absurd same
AllOwn-same h (s ∷ ss) [] same own = absurd same
AllOwn-same h (s ∷ ss) (t ∷ ts) same own = (
  (
    same.0.feed.1 ∙ own.0.0 ∙ sym same.0.cell,
    same.0.drain.1 ∙ own.0.1 ∙ sym same.0.cell,
    ap (λ c. c.opening.horizon) same.0.cell ∙ own.0.2,
  ),
  AllOwn-same h ss ts same.1 own.1,
)

specs-same : (ss ts : List Stage) → AllSame ss ts → specs_of ts ≡ specs_of ss
specs-same [] [] same = refl
specs-same [] (t ∷ ts) same = absurd same
specs-same (s ∷ ss) [] same = absurd same
specs-same (s ∷ ss) (t ∷ ts) same =
    ap (λ (c : DirSpec). c ∷ specs_of ts) (ap (λ c. c.opening.spec) same.0.cell)
    ∙ ap (λ (l : List DirSpec). s.cell.opening.spec ∷ l) (specs-same ss ts same.1)

-- a lane whose workers ran is wired as before
pub still_wired : (h : ℕ) (specs : List DirSpec) (old new : Lane) → IsWired h specs old → IsSameLane old new
    → IsWired h specs new
still_wired h specs old new wired same = record {
  within = same.0.0 ∙ wired.within;
  linked = Linked-same _ _ _ _ _ _ same.0.1 same.1.1.1 same.1.0 wired.linked;
  own = AllOwn-same h _ _ same.1.0 wired.own;
  specs_are = specs-same _ _ same.1.0 ∙ wired.specs_are;
}

pub specs-snoc : (stages : List Stage) (s : Stage) (rest : List DirSpec)
    → specs_of (stages ++ s ∷ []) ++ rest ≡ specs_of stages ++ (s.cell.opening.spec ∷ rest)
specs-snoc [] s rest = refl
specs-snoc (x ∷ xs) s rest = ap (λ (l : List DirSpec). x.cell.opening.spec ∷ l) (specs-snoc xs s rest)

-- what was carried came to its end at each stage
all_ended : (stages : List Stage) → AllDone stages → AllEnded stages
all_ended [] all = tt
all_ended (s ∷ ss) all = (all.0.received, all.0.sent.0, ap (λ f. f.end) all.0.sent.1 ∙ all.0.sent.0, all_ended ss all.1)

pub carried_ended : (packets : List Timed) (lane : Lane) → HasCarried packets lane → HasEnded lane
carried_ended packets lane has = record {
  sent = has.over;
  stages = all_ended lane.path.stages.items has.done.0;
  collected = has.done.1;
}

-- the states of a lane's cells are those of the nest's shells, through which the rows went
pub run_passed : (d : Direction) (nest : NestParts) (rows : List Row) (lane : Lane) (states : List State)
    → HasRun d nest rows lane
    → HavePassed lane.head.horizon (specs_of lane.path.stages.items) lane.head.flow.packets states
    → HavePassed nest.horizon (directions_of d nest) (entering d nest.horizon rows) states
run_passed d nest rows lane states run passed =
    subst (λ (l : List Timed). HavePassed nest.horizon (directions_of d nest) l states) run.carried.sent
    (subst (λ (l : List DirSpec). HavePassed nest.horizon l lane.head.flow.packets states) run.wired.specs_are
    (subst (λ (h : ℕ). HavePassed h (specs_of lane.path.stages.items) lane.head.flow.packets states) run.wired.within
    passed))
