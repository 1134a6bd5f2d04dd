use Rattle.http_frame.proofs.AloneLemmas.{taken_head, no_head, refused_head, without_memory}
use Rattle.http_frame.proofs.request_frames.RequestFrames.take_head.Goals as goal

pub returns-in-Ok-Message : goal.returns-in-Ok-Message
returns-in-Ok-Message c =
    taken_head c.args.self.now c.find.new.self c.take_off.new.self c.in-Ok-Message.found
    (rw c.in-Ok-Message.field-0-is at rw c.in-Ok-Message.is at c.find.ensures) c.take_off.ensures

pub returns-in-Ok-More : goal.returns-in-Ok-More
returns-in-Ok-More c = no_head c.args.self.now c.find.new.self
    (rw c.in-Ok-More.field-0-is at rw c.in-Ok-More.is at c.find.ensures)

pub returns-in-Ok-Fault : goal.returns-in-Ok-Fault
returns-in-Ok-Fault c = refused_head c.args.self.now c.find.new.self c.in-Ok-Fault.error
    (rw c.in-Ok-Fault.field-0-is at rw c.in-Ok-Fault.is at c.find.ensures)

pub returns-in-Err : goal.returns-in-Err
returns-in-Err c = without_memory c.args.self.now c.find.new.self c.in-Err.field-0 (rw c.in-Err.is at c.find.ensures)
