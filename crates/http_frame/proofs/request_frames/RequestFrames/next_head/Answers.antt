use Rattle.http_frame.proofs.AloneLemmas.{gives_head, gives_fault_alone, gives_more_alone, answers_again_alone}
use Rattle.http_frame.proofs.request_frames.RequestFrames.next_head.Goals as goal

pub returns : goal.returns
returns c =
    let old = c.args.self.now in
    let new = c.take_head.new.self in
    let says = c.take_head.ensures in
    record {
      says = says;
      first = λ bytes after h r e is_open. gives_head old new c.take_head.result bytes after h r says e is_open;
      fails = λ e cause is_open clear. gives_fault_alone old new c.take_head.result e says cause is_open clear;
      waits = λ cause is_open clear. gives_more_alone old new c.take_head.result says cause is_open clear;
      again = λ e was. answers_again_alone old new c.take_head.result e says was;
    }
