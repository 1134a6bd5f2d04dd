use Rattle.std.proofs.Common.{false}
use Rattle.httparse.proofs.GrammarLemmas.{request_unique}
use Rattle.http_frame.specs.Forms.{request_form}
use Rattle.http_frame.proofs.FindingLemmas.{more_none, fault_none}
use Rattle.http_frame.proofs.RunLemmas.{request_stops}
use Rattle.http_frame.proofs.first.first_request.Goals as goal

pub returns-in-Ok-More : goal.returns-in-Ok-More
returns-in-Ok-More c =
    let t = rw c.in-Ok-More.field-0-is at rw c.in-Ok-More.is at c.advance-outcome.ensures in
    λ text after h r e. more_none request_form request_unique false c.args.bytes.now text after h r t.1 e
    (request_stops false text after h r)

pub returns-in-Ok-Fault : goal.returns-in-Ok-Fault
returns-in-Ok-Fault c =
    let t = rw c.in-Ok-Fault.field-0-is at rw c.in-Ok-Fault.is at c.advance-outcome.ensures in
    λ text after h r e. fault_none request_form request_unique false c.args.bytes.now text after h r
    c.in-Ok-Fault.field-0-0 t.1 e (request_stops false text after h r)
