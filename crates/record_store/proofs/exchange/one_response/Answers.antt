use Rattle.std.proofs.Common.{◌∙◌, arith}
use Rattle.record_store.proofs.ExchangeLaws.{other_response, no_response}
use Rattle.record_store.proofs.exchange.one_response.Goals as goal
use Rattle.record_store.proofs.exchange.one_response.Goals.{else-len-bytes-via-then-len-bytes+else-response-ge200}
use Rattle.record_store.proofs.exchange.one_response.Goals.{else-len-bytes-via-else-len-bytes}

pub returns-else-len-bytes : goal.returns-else-len-bytes
returns-else-len-bytes c =
    other_response c.args.to_head c.args.bytes.now c.in-Some.response (rw c.in-Some.is at c.in_ok-response.ensures)
    (λ long final.
    elim c.else-len-bytes.branch [
      | else-len-bytes-via-then-len-bytes+else-response-ge200 w ↦ omega (arith, w.if-response-ge200.false, final)
      | else-len-bytes-via-else-len-bytes w ↦ w.if-len-bytes.false (c.len.ensures ∙ long)
    ])

pub returns-in-None : goal.returns-in-None
returns-in-None c = no_response c.args.to_head c.args.bytes.now (rw c.in-None.is at c.in_ok-response.ensures)
