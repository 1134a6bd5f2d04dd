use Rattle.std.proofs.Common.{true, Ok, ◌≡◌, ℕ, List, Bool, subst, sym}
use Rattle.std.specs.Prelude.{Option, Result}
use Rattle.text_base.specs.declared.out_of_memory.OutOfMemory.{OutOfMemory}
use Rattle.http_frame.specs.declared.messages.ResponseHead.{ResponseHead}
use Rattle.http_frame.specs.declared.pending.Pending.{Pending}
use Rattle.http_frame.specs.declared.pending.Outcome.{Outcome}
use Rattle.http_frame.specs.declared.pending.Outcome.TheVariants as outcomes
use Rattle.httparse.proofs.GrammarLemmas.{response_unique}
use Rattle.http_frame.specs.Forms.{response_form}
use Rattle.http_frame.specs.Frames.{BeginsMessage}
use Rattle.http_frame.specs.inside.Frames.{AdvanceSays}
use Rattle.http_frame.specs.Runs.{BeginsResponse}
use Rattle.http_frame.proofs.FindingLemmas.{more_none, fault_none}
use Rattle.http_frame.proofs.first.first_response.Goals as goal

found : (to_head : Bool) (bytes : List ℕ) (p : Option (Pending ResponseHead))
    (o : Result (Outcome ResponseHead) OutOfMemory) (x y : Outcome ResponseHead)
    → o ≡ Ok x → x ≡ y → AdvanceSays (response_form to_head) true bytes p o
    → AdvanceSays (response_form to_head) true bytes p (Ok y)
found to_head bytes p o x y is same says =
    subst (λ v. AdvanceSays (response_form to_head) true bytes p (Ok v)) same
    (subst (AdvanceSays (response_form to_head) true bytes p) is says)

pub returns-in-Ok-More : goal.returns-in-Ok-More
returns-in-Ok-More c =
    let t = found c.args.to_head c.args.bytes.now c.advance-outcome.result.0 c.advance-outcome.result.1
    c.in-Ok-More.field-0 outcomes.More c.in-Ok-More.is (rw c.in-Ok-More.is at c.in-Ok-More.field-0-is)
    c.advance-outcome.ensures in
    λ text after h r e stops. more_none (response_form c.args.to_head) response_unique true c.args.bytes.now text
    after h r t.1 e stops

pub returns-in-Ok-Fault : goal.returns-in-Ok-Fault
returns-in-Ok-Fault c =
    let t = found c.args.to_head c.args.bytes.now c.advance-outcome.result.0 c.advance-outcome.result.1
    c.in-Ok-Fault.field-0 (outcomes.Fault c.in-Ok-Fault.field-0-0) c.in-Ok-Fault.is
    (rw c.in-Ok-Fault.is at c.in-Ok-Fault.field-0-is) c.advance-outcome.ensures in
    λ text after h r e stops. fault_none (response_form c.args.to_head) response_unique true c.args.bytes.now text
    after h r c.in-Ok-Fault.field-0-0 t.1 e stops

gives : (to_head : Bool) (bytes : List ℕ) (head : ResponseHead) (text copy : List ℕ) → copy ≡ text
    → BeginsMessage (response_form to_head) true bytes head text
    → BeginsResponse to_head bytes (record { head = head; bytes = copy })
gives to_head bytes head text copy same b =
    subst (λ ys. BeginsResponse to_head bytes (record { head = head; bytes = ys })) (sym same)
    (record {
      is = record { tree = b.tree; is = b.is; says = b.says };
      after = b.after;
      split = b.split;
      stops = b.stops;
    })

pub returns-in-Ok-Message : goal.returns-in-Ok-Message
returns-in-Ok-Message c =
    let arm = c.in-Ok-Message in
    let t = found c.args.to_head c.args.bytes.now c.advance-outcome.result.0 c.advance-outcome.result.1 arm.field-0
    (outcomes.Message arm.found) arm.is (rw arm.is at arm.field-0-is) c.advance-outcome.ensures in
    gives c.args.to_head c.args.bytes.now arm.found.head _ c.in_ok-bytes-in-Ok-Message.bytes
    c.in_ok-bytes-in-Ok-Message.ensures t.2
