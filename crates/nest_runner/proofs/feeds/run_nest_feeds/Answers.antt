use Rattle.std.proofs.Common.{◌≡◌, ◌∙◌, IfOk, OnOk, List, ap, subst, sym}
use Rattle.packet_record.specs.Rows.{AreApart}
use Rattle.packet_record.specs.declared.packet.Direction.TheVariants.{Up, Down}
use Rattle.packet_record.specs.declared.packet.Row.{Row}
use Rattle.nest_spec.specs.Fates.{fated}
use Rattle.nest_spec.specs.Marks.{Marks}
use Rattle.nest_spec.specs.Nests.{result_of}
use Rattle.nest_spec.specs.Once.{HaveOneFate}
use Rattle.nest_spec.specs.declared.fate.Fate.TheVariants.{Unsent}
use Rattle.nest_runner.specs.Lanes.{HasRun}
use Rattle.nest_runner.proofs.feeds.run_nest_feeds.Goals as goal

pub new-requires : goal.new-requires
new-requires g c = record {
  apart = subst (λ (rows : List Row). AreApart rows) (sym c.rows.ensures.rows) c.rows.ensures.apart;
}

pub gather_marked-requires-clause-apart : goal.gather_marked-requires-clause-apart
gather_marked-requires-clause-apart g c =
    subst (λ (rows : List Row). AreApart rows)
    (sym (ap (λ (m : Marks). m.rows) c.in_ok-marking.ensures ∙ c.rows.ensures.rows)) c.rows.ensures.apart

pub gather_marked-requires-clause-unsent : goal.gather_marked-requires-clause-unsent
gather_marked-requires-clause-unsent g c =
    ap (λ (m : Marks). m.fates) c.in_ok-marking.ensures
    ∙ ap (fated (λ row. Unsent)) (sym (ap (λ (m : Marks). m.rows) c.in_ok-marking.ensures))

pub gather_marked-requires-clause-up : goal.gather_marked-requires-clause-up
gather_marked-requires-clause-up g c =
    let same = ap (λ (m : Marks). m.rows) c.in_ok-marking.ensures ∙ c.rows.ensures.rows ∙ c.run_fed.ensures.rows in
    subst (λ (rows : List Row). HasRun Up c.args.nest.now rows c.in_ok-up.field-0.up) (sym same)
    c.in_ok-up.ensures.ran.0

pub gather_marked-requires-clause-down : goal.gather_marked-requires-clause-down
gather_marked-requires-clause-down g c =
    let same = ap (λ (m : Marks). m.rows) c.in_ok-marking.ensures ∙ c.rows.ensures.rows ∙ c.run_fed.ensures.rows in
    subst (λ (rows : List Row). HasRun Down c.args.nest.now rows c.in_ok-up.field-0.down) (sym same)
    c.in_ok-up.ensures.ran.1

pub returns-clause-value : goal.returns-clause-value
returns-clause-value g c =
    let same = ap (λ (m : Marks). m.rows) c.in_ok-marking.ensures ∙ c.rows.ensures.rows ∙ c.run_fed.ensures.rows in
    subst (λ (rows : List Row). IfOk c.gather_marked.result (λ r. r ≡ result_of c.args.nest.now rows)) same
    c.gather_marked.ensures.value

pub returns-clause-once : goal.returns-clause-once
returns-clause-once g c =
    let same = ap (λ (m : Marks). m.rows) c.in_ok-marking.ensures ∙ c.rows.ensures.rows ∙ c.run_fed.ensures.rows in
    subst (λ (rows : List Row). OnOk c.gather_marked.result (HaveOneFate c.args.nest.now rows)) same
    c.gather_marked.ensures.once
