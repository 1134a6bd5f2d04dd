use Rattle.record_store.proofs.ExchangeLaws.{lacks_request, lacks_response}
use Rattle.record_store.proofs.exchange.exchange_of.Goals as goal

pub returns-in-None : goal.returns-in-None
returns-in-None c = lacks_request c.args.request.now c.args.response.now (rw c.in-None.is at c.in_ok-request.ensures)

pub returns-in-None-2 : goal.returns-in-None-2
returns-in-None-2 c =
    lacks_response c.args.request.now c.args.response.now c.in-Some.request
    (rw c.in-Some.is at c.in_ok-request.ensures) (rw c.in-None-2.is at c.in_ok-response-in-Some.ensures)
