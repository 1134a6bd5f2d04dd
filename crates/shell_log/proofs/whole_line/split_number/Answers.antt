use Rattle.std.proofs.Common.{sym, ◌∙◌}
use Rattle.shell_log.proofs.WholeLineLemmas.{number_in_front}
use Rattle.shell_log.proofs.whole_line.split_number.Goals as goal

pub returns : goal.returns
returns c =
    let read = c.in_ok-value.ensures.read in
    number_in_front c.args.text.now read.0 c.in_ok-value.rest.now c.in_ok-value.value read.1 read.2
    (sym c.leads_with_zero.ensures ∙ c.if-leads_with_zero.false)
