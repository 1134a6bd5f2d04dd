use Rattle.std.proofs.Common.{◌≡◌, ◌∙◌, IfOk, OnOk, List, ap, subst, sym}
use Rattle.packet_record.specs.Rows.{AreApart}
use Rattle.packet_record.specs.declared.packet.Direction.TheVariants.{Up, Down}
use Rattle.packet_record.specs.declared.packet.Row.{Row}
use Rattle.nest_spec.specs.Fates.{fated}
use Rattle.nest_spec.specs.Marks.{Marks}
use Rattle.nest_spec.specs.Nests.{result_of}
use Rattle.nest_spec.specs.Once.{HaveOneFate}
use Rattle.nest_spec.specs.declared.fate.Fate.TheVariants.{Unsent}
use Rattle.nest_spec.proofs.Scheduled.{apart}
use Rattle.nest_runner.specs.Lanes.{HasRun}
use Rattle.nest_runner.proofs.gathering.gather_packed.Goals as goal

pub gather_marked-requires-clause-apart : goal.gather_marked-requires-clause-apart
gather_marked-requires-clause-apart c =
    subst (λ (rows : List Row). AreApart rows)
    (sym (ap (λ (m : Marks). m.rows) c.in_ok-marking.ensures ∙ c.rows-rows.ensures.rows))
    (apart c.args.schedule.now c.rows-rows.ensures.schedule.order)

pub gather_marked-requires-clause-unsent : goal.gather_marked-requires-clause-unsent
gather_marked-requires-clause-unsent c =
    ap (λ (m : Marks). m.fates) c.in_ok-marking.ensures
    ∙ ap (fated (λ row. Unsent)) (sym (ap (λ (m : Marks). m.rows) c.in_ok-marking.ensures))

pub gather_marked-requires-clause-up : goal.gather_marked-requires-clause-up
gather_marked-requires-clause-up c =
    subst (λ (rows : List Row). HasRun Up c.args.nest.now rows c.args.up)
    (sym (ap (λ (m : Marks). m.rows) c.in_ok-marking.ensures ∙ c.rows-rows.ensures.rows)) c.requires.up

pub gather_marked-requires-clause-down : goal.gather_marked-requires-clause-down
gather_marked-requires-clause-down c =
    subst (λ (rows : List Row). HasRun Down c.args.nest.now rows c.args.down)
    (sym (ap (λ (m : Marks). m.rows) c.in_ok-marking.ensures ∙ c.rows-rows.ensures.rows)) c.requires.down

pub returns-clause-value : goal.returns-clause-value
returns-clause-value c =
    subst (λ (rows : List Row). IfOk c.gather_marked.result (λ r. r ≡ result_of c.args.nest.now rows))
    (ap (λ (m : Marks). m.rows) c.in_ok-marking.ensures ∙ c.rows-rows.ensures.rows) c.gather_marked.ensures.value

pub returns-clause-once : goal.returns-clause-once
returns-clause-once c =
    subst (λ (rows : List Row). OnOk c.gather_marked.result (HaveOneFate c.args.nest.now rows))
    (ap (λ (m : Marks). m.rows) c.in_ok-marking.ensures ∙ c.rows-rows.ensures.rows) c.gather_marked.ensures.once
