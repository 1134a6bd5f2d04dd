use Rattle.httparse.proofs.GrammarLemmas.{response_unique}
use Rattle.http_frame.specs.Forms.{response_form}
use Rattle.http_frame.proofs.FindingLemmas.{gives_first, gives_fault, gives_more, keeps_ended, answers_again}
use Rattle.http_frame.proofs.ResponseLemmas.{no_clash, more_has}
use Rattle.http_frame.proofs.response_frames.ResponseFrames.next.Goals as goal

pub returns : goal.returns
returns c =
    let form = response_form c.args.head_request in
    let old = c.args.self.now in
    let new = c.take_next.new.self in
    let says = c.take_next.ensures in
    record {
      says = says;
      input = keeps_ended form response_unique old new c.take_next.result says;
      first = λ bytes after h r e stops is_open. gives_first form response_unique old new c.take_next.result bytes
          after h r says e stops is_open;
      fails = λ e cause is_open. gives_fault form response_unique old new c.take_next.result e says cause is_open
          (no_clash c.args.head_request old.ended old.unread e cause);
      waits = λ cause is_open. gives_more form response_unique old new c.take_next.result says cause is_open
          (more_has c.args.head_request old.ended old.unread cause);
      again = λ e was. answers_again form response_unique old new c.take_next.result e says was;
    }
