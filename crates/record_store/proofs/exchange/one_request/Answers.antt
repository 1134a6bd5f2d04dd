use Rattle.std.proofs.Common.{◌∙◌}
use Rattle.record_store.proofs.ExchangeLaws.{short_request, no_request}
use Rattle.record_store.proofs.exchange.one_request.Goals as goal

pub returns-else-len-bytes : goal.returns-else-len-bytes
returns-else-len-bytes c = short_request c.args.bytes.now c.in-Some.request
    (rw c.in-Some.is at c.in_ok-request.ensures) (λ e. c.if-len-bytes.false (c.len.ensures ∙ e))

pub returns-in-None : goal.returns-in-None
returns-in-None c = no_request c.args.bytes.now (rw c.in-None.is at c.in_ok-request.ensures)
