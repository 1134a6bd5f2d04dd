-- What is marked through both directions are the fates of the result.
use Rattle.std.proofs.Common.{◌≡◌, ℕ, ◌<◌, ◌≤◌, ◌&&◌, Bool, true, false, cond, List, Option, length, map, option_map}
use Rattle.std.proofs.Common.{get_or, nat_le, nat_lt, ap, sym, ◌∙◌, refl, arith, rules, tests}
use Rattle.packet_record.specs.declared.packet.Row.{Row}
use Rattle.packet_record.specs.declared.packet.Direction.{Direction}
use Rattle.packet_record.specs.declared.packet.Direction.TheVariants.{Up, Down}
use Rattle.packet_record.specs.Rows.{goes, entering}
use Rattle.packet_record.specs.Rows.{AreApart}
use Rattle.nest_spec.specs.declared.fate.Fate.{Fate}
use Rattle.nest_spec.specs.declared.fate.Fate.TheVariants.{Unsent}
use Rattle.nest_spec.specs.inside.Links.{AreBuilt}
use Rattle.nest_spec.specs.Fates.{fated, fate_in}
use Rattle.std.proofs.lemmas.List.{length-map}
use Rattle.shell_log.specs.declared.entry.Entry.{Entry}
use Rattle.nest_spec.specs.declared.run_result.Named.{Named}
use Rattle.nest_spec.specs.RunViews.{named_by}
use Rattle.nest_spec.specs.Marks.{Marks, marks}
use Rattle.nest_spec.specs.inside.Marks.{marked_through}
use Rattle.nest_spec.specs.Walk.{named_log, in_nest_order}
use Rattle.nest_spec.specs.Nests.{NestParts, shells_in, directions_of, walk_of, fate_of, run_lists, result_of}
use Rattle.nest_spec.proofs.MarkLemmas.{fated_same, marks_on}
use Rattle.nest_spec.proofs.NestLemmas.{shells_long, walk_long}
use Rattle.nest_spec.proofs.OrderLemmas.{map-in_nest_order}
use Rattle.nest_spec.proofs.Natural.{untouched, natural}
use Rattle.nest_spec.proofs.OnceLemmas.{Enters, enters}

-- the fates when a direction's packets have passed its shells
abbrev pub marked_in : Direction → NestParts → List Row → (Row → Fate) → Row → Fate
marked_in d nest rows f = marked_through nest.horizon (shells_in d nest) (entering d nest.horizon rows) f

abbrev pub marked_both : NestParts → List Row → Row → Fate
marked_both nest rows = marked_in Down nest rows (marked_in Up nest rows (λ _. Unsent))

at_row : (nest : NestParts) (rows : List Row) (r : Row) → AreBuilt (directions_of Up nest)
    → AreBuilt (directions_of Down nest) → Enters Up nest.horizon rows r → Enters Down nest.horizon rows r
    → (d : Direction) → r.direction ≡ d → (late early : Bool) → nat_lt nest.horizon r.timed.moment ≡ late
    → nat_le r.timed.moment nest.horizon ≡ early
    → marked_both nest rows r ≡ cond late Unsent
    (fate_in r.timed.packet.id (entering d nest.horizon rows) (walk_of d nest rows))
at_row nest rows r built_up built_down up down d is true true late early =
    absurd (let a : r.timed.moment ≤ nest.horizon = search (rules, tests) in let b : nest.horizon < r.timed.moment =
    search (rules, tests) in omega arith)
at_row nest rows r built_up built_down up down d is false false late early =
    absurd (let a : nest.horizon < r.timed.moment = search (rules, tests) in let b : r.timed.moment ≤ nest.horizon =
    search (rules, tests) in omega arith)
at_row nest rows r built_up built_down up down d is true false late early =
    let none : (k : Direction) → cond {A = ℕ} (goes k r.direction && nat_le r.timed.moment nest.horizon) 1 0 ≡ 0 =
    λ k. ap (λ b. cond {A = ℕ} (goes k r.direction && b) 1 0) early ∙ no (goes k r.direction) in
    untouched nest.horizon (shells_in Down nest) (entering Down nest.horizon rows)
    (marked_in Up nest rows (λ _. Unsent)) r built_down (down.of_id ∙ none Down)
    ∙ untouched nest.horizon (shells_in Up nest) (entering Up nest.horizon rows) (λ _. Unsent) r built_up (up.of_id
    ∙ none Up)
  where
    no : (b : Bool) → cond {A = ℕ} (b && false) 1 0 ≡ 0
    no true = refl
    no false = refl
at_row nest rows r built_up built_down up down Up is false true late early =
    let sent = up.of_id ∙ ap (λ k. cond {A = ℕ} (goes Up k && nat_le r.timed.moment nest.horizon) 1 0) is
    ∙ ap (λ b. cond {A = ℕ} b 1 0) early in
    let none = down.of_id ∙ ap (λ k. cond {A = ℕ} (goes Down k && nat_le r.timed.moment nest.horizon) 1 0) is in
    untouched nest.horizon (shells_in Down nest) (entering Down nest.horizon rows)
    (marked_in Up nest rows (λ _. Unsent)) r built_down none
    ∙ natural nest.horizon (shells_in Up nest) (entering Up nest.horizon rows) (λ _. Unsent) r built_up
    (omega (arith, sent))
at_row nest rows r built_up built_down up down Down is false true late early =
    let sent = down.of_id ∙ ap (λ k. cond {A = ℕ} (goes Down k && nat_le r.timed.moment nest.horizon) 1 0) is
    ∙ ap (λ b. cond {A = ℕ} b 1 0) early in
    natural nest.horizon (shells_in Down nest) (entering Down nest.horizon rows)
    (marked_in Up nest rows (λ _. Unsent)) r built_down (omega (arith, sent))

pub fates_are : (nest : NestParts) (rows : List Row) → AreApart rows → AreBuilt (directions_of Up nest)
    → AreBuilt (directions_of Down nest)
    → fated (marked_both nest rows) rows ≡ fated (fate_of nest rows) rows
fates_are nest rows apart built_up built_down =
    fated_same (marked_both nest rows) (fate_of nest rows) rows (λ i r lt.
    let row = get_or rows i r in
    at_row nest rows row built_up built_down (enters Up nest.horizon rows i r apart lt)
    (enters Down nest.horizon rows i r apart lt) row.direction refl
    (nat_lt nest.horizon row.timed.moment) (nat_le row.timed.moment nest.horizon) refl refl)

-- What the run of a direction makes of a marking, and its logs in passing order, where they have names.
pub record HasRun {A : Type 0} (d : Direction) (nest : NestParts) (rows : List Row) (entries : A → List Entry)
    (old new : Marks) (logs : List (Option (Named A))) : Type 0 where
  pub same : new.rows ≡ old.rows
  pub fates : (f : Row → Fate) → old.fates ≡ fated f old.rows → new.fates ≡ fated (marked_in d nest rows f) old.rows
  pub named : map (option_map (named_by entries)) logs ≡ map named_log (walk_of d nest rows)
  pub built : AreBuilt (directions_of d nest)

logs_long : {A : Type 0} (d : Direction) (nest : NestParts) (rows : List Row) (entries : A → List Entry)
    (logs : List (Option (Named A)))
    → map (option_map (named_by entries)) logs ≡ map named_log (walk_of d nest rows) → length logs ≡ length nest.shells
logs_long d nest rows entries logs named =
    sym (length-map logs (option_map (named_by entries))) ∙ ap length named ∙ length-map (walk_of d nest rows) named_log
    ∙ walk_long nest.horizon (shells_in d nest) (entering d nest.horizon rows) ∙ shells_long d nest

pub same_long : {A : Type 0} (nest : NestParts) (rows : List Row) (entries : A → List Entry)
    (ups downs : List (Option (Named A)))
    → map (option_map (named_by entries)) ups ≡ map named_log (walk_of Up nest rows)
    → map (option_map (named_by entries)) downs ≡ map named_log (walk_of Down nest rows) → length ups ≡ length downs
same_long nest rows entries ups downs up down = logs_long Up nest rows entries ups up
    ∙ sym (logs_long Down nest rows entries downs down)

-- both directions give the result
pub result_is : {A : Type 0} (nest : NestParts) (rows : List Row) (entries : A → List Entry)
    (first middle last : Marks) (ups downs : List (Option (Named A))) (logs : List (Named A)) → AreApart rows
    → first ≡ marks rows (fated (λ _. Unsent) rows) → HasRun Up nest rows entries first middle ups
    → HasRun Down nest rows entries middle last downs → logs ≡ in_nest_order ups downs
    → run_lists last.fates (map (named_by entries) logs) ≡ result_of nest rows
result_is nest rows entries first middle last ups downs logs apart start up down order =
    let passed_up = marks_on (marked_in Up nest rows) first middle rows (λ _. Unsent) start up.same up.fates in
    let passed_both = marks_on (marked_in Down nest rows) middle last rows (marked_in Up nest rows (λ _. Unsent))
    passed_up down.same down.fates in
    ap (λ f. run_lists f (map (named_by entries) logs)) (ap (λ (m : Marks). m.fates) passed_both
    ∙ fates_are nest rows apart up.built down.built)
    ∙ ap (run_lists (fated (fate_of nest rows) rows)) (ap (map (named_by entries)) order
    ∙ map-in_nest_order (named_by entries) ups downs
    ∙ ap (λ l. in_nest_order l (map (option_map (named_by entries)) downs)) up.named
    ∙ ap (in_nest_order (map named_log (walk_of Up nest rows))) down.named)
