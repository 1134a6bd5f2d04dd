-- Heads that are given alone, from what `find` and `next` say.
use Rattle.std.proofs.Common.{Ok, Err, Some, None, ◌≡◌, ◌∙◌, ℕ, List, ◌++◌, length, take, drop, refl, sym, ap, subst}
use Rattle.std.specs.Prelude.{Result}
use Rattle.std.proofs.lemmas.List.{take-append-drop}
use Rattle.httparse.specs.Grammar.{RequestHead as Head, IsRequestHead, print_request}
use Rattle.httparse.proofs.GrammarLemmas.{request_unique}
use Rattle.http_frame.specs.Window.{NeverHas}
use Rattle.http_frame.specs.Forms.{request_form, said_of_request}
use Rattle.http_frame.specs.Messages.{IsRequest}
use Rattle.http_frame.specs.Frames.{Frames, NextSays, MoreCause, FaultCause, GivesFault, GivesMore}
use Rattle.http_frame.specs.inside.Frames.{FindSays}
use Rattle.http_frame.specs.HeadsAlone.{head_alone, NextHeadSays, GivesHead}
use Rattle.text_base.specs.declared.out_of_memory.OutOfMemory.{OutOfMemory}
use Rattle.http_frame.specs.declared.head.FoundMessage.{FoundMessage}
use Rattle.http_frame.specs.declared.pending.Outcome.TheVariants as outcomes
use Rattle.http_frame.specs.declared.errors.Step.{Step}
use Rattle.http_frame.specs.declared.errors.Step.TheVariants as steps
use Rattle.http_frame.specs.declared.errors.FrameError.{FrameError}
use Rattle.http_frame.specs.declared.errors.FrameError.TheVariants.{BadHead}
use Rattle.http_frame.specs.declared.errors.FrameFault.{FrameFault}
use Rattle.http_frame.specs.declared.errors.FrameFault.TheVariants as faults
use Rattle.http_frame.specs.declared.messages.Request.{Request}
use Rattle.http_frame.specs.declared.messages.RequestHead.{RequestHead}
use Rattle.http_frame.proofs.ChunkLemmas.{split_same}
use Rattle.http_frame.proofs.FindingLemmas.{gives_first, gives_fault, gives_more, answers_again}
use Rattle.http_frame.proofs.RunLemmas.{prefix_free, request_stops}

-- ---- from what stands at the front

pub taken_head : (old mid new : Frames) (m : FoundMessage RequestHead)
    → FindSays request_form old (Ok (outcomes.Message m)) mid
    → new ≡ record mid { unread = drop m.len mid.unread } → NextHeadSays old (Ok (steps.Message m.head)) new
taken_head old mid new m x is = record {
  whole = Ok (steps.Message (record { head = m.head; bytes = take m.len old.unread }));
  says = record {
    was = x.0.was;
    is = ap (λ s. s.failed) is ∙ ap (λ s. s.failed) x.0.same ∙ x.0.was;
    ended = ap (λ s. s.ended) is ∙ ap (λ s. s.ended) x.0.same;
    begins = x.2;
    unread = sym (take-append-drop m.len old.unread)
        ∙ ap (λ ys. take m.len old.unread ++ ys) (ap (λ s. drop m.len s.unread) (sym x.0.same)
        ∙ sym (ap (λ s. s.unread) is));
  };
  alone = refl;
}

pub no_head : (old new : Frames) → FindSays request_form old (Ok outcomes.More) new
    → NextHeadSays old (Ok steps.More) new
no_head old new x = record { whole = Ok steps.More; says = x; alone = refl }

pub refused_head : (old new : Frames) (e : FrameError) → FindSays request_form old (Ok (outcomes.Fault e)) new
    → NextHeadSays old (Err (faults.Frame e)) new
refused_head old new e x = record { whole = Err (faults.Frame e); says = x; alone = refl }

pub without_memory : (old new : Frames) (e : OutOfMemory) → FindSays request_form old (Err e) new
    → NextHeadSays old (Err faults.OutOfMemory) new
without_memory old new e x = record { whole = Err faults.OutOfMemory; says = x; alone = refl }

-- ---- what the answers are, exactly

given_head : (old new : Frames) (whole : Result (Step Request) FrameFault) (bytes after : List ℕ) (h : Head)
    (r : IsRequest bytes h) → NextSays request_form old whole new
    → old.unread ≡ bytes ++ after → old.failed ≡ None → GivesHead h after (head_alone whole) new
given_head old new (Ok (steps.Message m)) bytes after h r x e is_open =
    let b = x.begins in
    let same = prefix_free m.bytes bytes b.after after b.tree h b.is r (sym b.split ∙ e) in (
      b.says ∙ ap said_of_request same.1,
      (split_same m.bytes bytes new.unread after (ap length same.0) (sym x.unread ∙ e)).1,
    )
given_head old new (Ok steps.More) bytes after h r x e is_open =
    gives_first request_form request_unique old new (Ok steps.More) bytes after h r x e
    (request_stops old.ended bytes after h r) is_open
given_head old new (Err (faults.Frame f)) bytes after h r x e is_open =
    gives_first request_form request_unique old new (Err (faults.Frame f)) bytes after h r x e
    (request_stops old.ended bytes after h r) is_open
given_head old new (Err faults.OutOfMemory) bytes after h r x e is_open = tt

pub gives_head : (old new : Frames) (result : Result (Step RequestHead) FrameFault) (bytes after : List ℕ) (h : Head)
    → IsRequest bytes h → NextHeadSays old result new
    → old.unread ≡ bytes ++ after → old.failed ≡ None → GivesHead h after result new
gives_head old new result bytes after h r x e is_open =
    subst (λ s. GivesHead h after s new) (sym x.alone) (given_head old new x.whole bytes after h r x.says e is_open)

fault_alone : (whole : Result (Step Request) FrameFault) (e : FrameError) → GivesFault e whole
    → GivesFault e (head_alone whole)
fault_alone (Ok step) e x = absurd x
fault_alone (Err (faults.Frame f)) e x = x
fault_alone (Err faults.OutOfMemory) e x = tt

pub gives_fault_alone : (old new : Frames) (result : Result (Step RequestHead) FrameFault) (e : FrameError)
    → NextHeadSays old result new → FaultCause request_form old.ended old.unread e
    → old.failed ≡ None → (e ≡ BadHead → MoreCause request_form old.ended old.unread → ⊥) → GivesFault e result
gives_fault_alone old new result e x cause is_open clear =
    subst (GivesFault e) (sym x.alone)
    (fault_alone x.whole e (gives_fault request_form request_unique old new x.whole e x.says cause is_open clear))

more_alone : (whole : Result (Step Request) FrameFault) → GivesMore whole → GivesMore (head_alone whole)
more_alone (Ok (steps.Message m)) x = absurd x
more_alone (Ok steps.More) x = tt
more_alone (Err (faults.Frame f)) x = absurd x
more_alone (Err faults.OutOfMemory) x = tt

pub gives_more_alone : (old new : Frames) (result : Result (Step RequestHead) FrameFault)
    → NextHeadSays old result new → MoreCause request_form old.ended old.unread
    → old.failed ≡ None → (NeverHas print_request IsRequestHead old.unread → ⊥) → GivesMore result
gives_more_alone old new result x cause is_open clear =
    subst GivesMore (sym x.alone) (more_alone x.whole
    (gives_more request_form request_unique old new x.whole x.says cause is_open clear))

pub answers_again_alone : (old new : Frames) (result : Result (Step RequestHead) FrameFault) (e : FrameError)
    → NextHeadSays old result new → old.failed ≡ Some e
    → result ≡ Err (faults.Frame e)
answers_again_alone old new result e x was = x.alone
    ∙ ap head_alone (answers_again request_form request_unique old new x.whole e x.says was)
