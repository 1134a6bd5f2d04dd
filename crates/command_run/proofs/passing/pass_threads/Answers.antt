use Rattle.command_run.proofs.StreamLemmas.{kept_run}
use Rattle.command_run.proofs.passing.pass_threads.Goals as goal

pub returns-clause-found : goal.returns-clause-found
returns-clause-found g c =
    kept_run (g.D.Disk.view c.args.disk.now).files c.args.name.now c.args.nest.now c.in_ok-run.schedule
    c.in_ok-share.field-0 c.in_ok-run.run' c.args.keeps c.in_ok-run.ensures.found (λ e. c.in_ok-share.ensures)
