use Rattle.shell_log.proofs.FaultLaws.{every_text}
use Rattle.shell_log.proofs.reading.read_log.Goals as goal

pub returns-clause-every : goal.returns-clause-every
returns-clause-every c = every_text c.args.text.now c.read_text.result c.read_text.ensures.found
    c.read_text.ensures.log c.read_text.ensures.exact
