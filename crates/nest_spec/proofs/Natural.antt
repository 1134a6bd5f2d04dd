-- The fates by overwriting are the fates in the walk.
use Rattle.std.proofs.Common.{◌≡◌, ℕ, ◌≤◌, Bool, true, cond, eqb, List, [], ◌∷◌, Option, Some, None, find, ap, sym, ◌∙◌}
use Rattle.std.proofs.Common.{refl, arith}
use Rattle.std.specs.List.{list_any}
use Rattle.std.specs.Option.{is_none, option_map_or}
use Rattle.packet_record.specs.declared.packet.Timed.{Timed}
use Rattle.packet_record.specs.declared.packet.Row.{Row}
use Rattle.packet_record.specs.Packets.{number}
use Rattle.shell_state.specs.Shells.{whole_out, whole_lost}
use Rattle.shell_state.specs.Shells.{whole_inside}
use Rattle.nest_spec.specs.declared.fate.Fate.{Fate}
use Rattle.nest_spec.specs.declared.fate.Fate.TheVariants as fates
use Rattle.nest_spec.specs.declared.mark.Mark.TheVariants.{Drops, Leaves}
use Rattle.nest_spec.specs.declared.shell.ShellDirection.{ShellDirection}
use Rattle.nest_spec.specs.Links.{specs_in}
use Rattle.nest_spec.specs.inside.Links.{AreBuilt}
use Rattle.nest_spec.specs.Walk.{Step, step, walk, last_list}
use Rattle.nest_spec.specs.Fates.{find_id, ended_at, departed_at, fate_in}
use Rattle.nest_spec.specs.Marks.{mark_fate, passed}
use Rattle.nest_spec.specs.inside.Marks.{ids_of, marked_through}
use Rattle.nest_spec.proofs.NumberLemmas.{is_id, all_three, none_found, without_found, some_number, none_among}
use Rattle.nest_spec.proofs.NumberLemmas.{some_among}

-- one shell marks, and then those after it
pub one_step : (h n : ℕ) (shells rest : List ShellDirection) (s : ShellDirection) (arrived departed lost : List Timed)
    (held : List ℕ) (f : Row → Fate) → shells ≡ s ∷ rest → n ≡ s.number
    → departed ≡ whole_out s.spec h arrived → lost ≡ whole_lost s.spec h arrived
    → held ≡ ids_of (whole_inside s.spec h arrived)
    → marked_through h rest departed (passed n lost held f) ≡ marked_through h shells arrived f
one_step h n shells rest s arrived departed lost held f is en ed el eh =
    ap (λ m. marked_through h rest departed (passed m lost held f)) en
    ∙ ap (λ l. marked_through h rest l (passed s.number lost held f)) ed
    ∙ ap (λ l. marked_through h rest (whole_out s.spec h arrived) (passed s.number l held f)) el
    ∙ ap (λ l. marked_through h rest (whole_out s.spec h arrived) (passed s.number (whole_lost s.spec h arrived) l f))
    eh
    ∙ ap (λ l. marked_through h l arrived f) (sym is)

-- one shell marks a row: by what it lost, else by what stays inside
abbrev marks : ℕ → Option Timed → Bool → Fate → Fate
marks n lost held so_far = option_map_or (mark_fate (Drops n)) lost (cond held (fates.Inside n) so_far)

-- a row whose packet doesn't arrive isn't touched
pub untouched : (h : ℕ) (shells : List ShellDirection) (arrived : List Timed) (f : Row → Fate) (r : Row)
    → AreBuilt (specs_in shells)
    → number (is_id r.timed.packet.id) arrived ≡ 0 → marked_through h shells arrived f r ≡ f r
untouched h [] arrived f r built none = ap (λ o. option_map_or (mark_fate Leaves) o (f r))
    (none_found r.timed.packet.id arrived none)
untouched h (s ∷ shells) arrived f r built none =
    let id = r.timed.packet.id in
    let all = all_three (is_id id) s.spec h arrived built.0 in
    let lost = none_found id (whole_lost s.spec h arrived) (omega arith) in
    let held = none_among id (whole_inside s.spec h arrived) (omega arith) in
    untouched h shells (whole_out s.spec h arrived)
    (passed s.number (whole_lost s.spec h arrived) (ids_of (whole_inside s.spec h arrived)) f) r built.1
    (omega arith)
    ∙ ap (λ o. marks s.number o (list_any (λ i. eqb i id) (ids_of (whole_inside s.spec h arrived))) (f r)) lost
    ∙ ap (λ b. marks s.number None b (f r)) held

-- what arrives and doesn't depart is lost, or stays inside
ends_here : (n : ℕ) (o : Option Timed) (held : Bool) (so_far : Fate) → (o ≡ None → held ≡ true)
    → marks n o held so_far ≡ option_map_or (λ (t : Timed). fates.Dropped n t.moment) o (fates.Inside n)
ends_here n None held so_far stays = ap (λ b. cond b (fates.Inside n) so_far) (stays refl)
ends_here n (Some t) held so_far stays = refl

last : (o : Option Timed) (so_far : Fate) → (o ≡ None → so_far ≡ fates.Unsent)
    → option_map_or (mark_fate Leaves) o so_far ≡ option_map_or (λ (t : Timed). fates.Departed t.moment) o fates.Unsent
last None so_far none = none refl
last (Some t) so_far none = refl

-- a row whose packet arrives has the fate of its packet
pub natural : (h : ℕ) (shells : List ShellDirection) (arrived : List Timed) (f : Row → Fate) (r : Row)
    → AreBuilt (specs_in shells) → 1 ≤ number (is_id r.timed.packet.id) arrived
    → marked_through h shells arrived f r ≡ fate_in r.timed.packet.id arrived (walk h shells arrived)
natural h [] arrived f r built some =
    last (find_id r.timed.packet.id arrived) (f r)
    (λ none. absurd (let no = without_found r.timed.packet.id arrived none in omega arith))
natural h (s ∷ shells) arrived f r built some =
    by (find_id id out) refl (λ more. natural h shells out (passed s.number lost (ids_of inside) f) r built.1 more)
  where
    id : ℕ
    id = r.timed.packet.id

    out : List Timed
    out = whole_out s.spec h arrived

    lost : List Timed
    lost = whole_lost s.spec h arrived

    inside : List Timed
    inside = whole_inside s.spec h arrived

    steps : List Step
    steps = walk h shells out

    here : Step
    here = step h s arrived

    next : Option Step → Fate
    next o = option_map_or (ended_at id) o (departed_at id (last_list out steps))

    rest : Option Step
    rest = find (λ (x : Step). is_none (find_id id x.departed)) steps

    by : (o : Option Timed) → find_id id out ≡ o
        → (1 ≤ number (is_id id) out → marked_through h shells out (passed s.number lost (ids_of inside) f) r ≡ next
        rest)
        → marked_through h shells out (passed s.number lost (ids_of inside) f) r ≡ next
        (cond (is_none (find_id id out)) (Some here) rest)
    by (Some u) found more = more (some_number id out u found)
        ∙ sym (ap (λ x. next (cond (is_none x) (Some here) rest)) found)
    by None found more =
        let all = all_three (is_id id) s.spec h arrived built.0 in
        let no_out = without_found id out found in
        untouched h shells out (passed s.number lost (ids_of inside) f) r built.1 no_out
        ∙ ends_here s.number (find_id id lost) (list_any (λ i. eqb i id) (ids_of inside)) (f r)
        (λ none. some_among id inside (let no_lost = without_found id lost none in omega arith))
        ∙ sym (ap (λ x. next (cond (is_none x) (Some here) rest)) found)
