use Rattle.std.proofs.Common.{◌≡◌, rules, subst, sym}
use Rattle.packet_record.specs.Rows.{entering}
use Rattle.shell_workers.specs.declared.ends.WorkEnd.{WorkEnd}
use Rattle.shell_workers.specs.declared.ends.WorkEnd.TheVariants.{Ended}
use Rattle.shell_workers.specs.Ends.{IfEnded}
use Rattle.mark_channel.specs.Boths.{ByDirection, OfBoth}
use Rattle.nest_runner.specs.Lanes.{HasCarried, HasRun}
use Rattle.nest_runner.specs.inside.Lanes.{HasEnded}
use Rattle.nest_runner.specs.inside.Lanes.{lanes_of}
use Rattle.nest_runner.proofs.BothLanes.{both_ended, both_ran}
use Rattle.nest_runner.proofs.run.run_rows.Goals as goal

pub returns-clause-ended : goal.returns-clause-ended
returns-clause-ended g c =
    let rows = c.args.rows.now in
    let ran = c.run_lanes-end in
    let is : ran.result ≡ Ended = search rules in
    let carried = subst (λ (e : WorkEnd). IfEnded e
    (ByDirection (λ d lane. HasCarried (entering d c.horizon.result rows) lane) (lanes_of ran.new.lanes))) is
    ran.ensures.carried in
    subst (λ lanes. OfBoth HasEnded lanes) (sym c.into_both.ensures) (both_ended c.horizon.result rows _ carried)

pub returns-clause-ran : goal.returns-clause-ran
returns-clause-ran g c =
    let rows = c.args.rows.now in
    let ran = c.run_lanes-end in
    let is : ran.result ≡ Ended = search rules in
    let carried = subst (λ (e : WorkEnd). IfEnded e
    (ByDirection (λ d lane. HasCarried (entering d c.horizon.result rows) lane) (lanes_of ran.new.lanes))) is
    ran.ensures.carried in
    subst (λ lanes. ByDirection (λ d lane. HasRun d c.args.nest.now rows lane) lanes) (sym c.into_both.ensures)
    (both_ran c.args.nest.now c.horizon.result rows _ _ c.horizon.ensures.value c.in_ok-lanes.ensures.wired
    ran.ensures.same carried)
