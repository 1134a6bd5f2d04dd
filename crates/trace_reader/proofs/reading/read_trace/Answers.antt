use Rattle.trace_reader.proofs.TextFaults.{every_text, every_printed}
use Rattle.trace_reader.proofs.reading.read_trace.Goals as goal

pub returns-clause-every : goal.returns-clause-every
returns-clause-every c = every_text c.args.text.now c.read_text.result c.read_text.ensures.found
    c.read_text.ensures.exact

pub returns-clause-printed : goal.returns-clause-printed
returns-clause-printed c = every_printed c.args.text.now c.read_text.result c.read_text.ensures.found
    c.read_text.ensures.exact
