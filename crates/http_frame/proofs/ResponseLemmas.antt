-- Of bytes that may become a response's head, some continuation begins with one.
use Rattle.std.proofs.Common.{Bool, ◌≡◌, ◌∙◌, ℕ, List, [], ◌++◌, ap, subst, append_assoc}
use Rattle.std.proofs.Common.{inl, inr}
use Rattle.httparse.specs.Grammar.{print_response, IsResponseHead}
use Rattle.http_frame.specs.Window.{NeverHas}
use Rattle.http_frame.specs.Forms.{response_form}
use Rattle.http_frame.specs.Frames.{MoreCause, FaultCause}
use Rattle.http_frame.specs.declared.errors.FrameError.{FrameError}
use Rattle.http_frame.specs.declared.errors.FrameError.TheVariants.{BadHead}

pub more_has : (to_head ended : Bool) (bytes : List ℕ) → MoreCause (response_form to_head) ended bytes
    → NeverHas print_response IsResponseHead bytes → ⊥
more_has to_head ended bytes x never = elim x [
  | inl a ↦ never a.2.0 a.2.1 [] a.2.2
  | inr b ↦
      let r = b.1.read in
      never [] r.tree _ (
        r.begins.reads.0,
        ap (λ ys. ys ++ []) r.begins.reads.1
            ∙ append_assoc (print_response r.tree) _ [],
      )
]

pub no_clash : (to_head ended : Bool) (bytes : List ℕ) (e : FrameError)
    → FaultCause (response_form to_head) ended bytes e
    → e ≡ BadHead → MoreCause (response_form to_head) ended bytes → ⊥
no_clash to_head ended bytes e cause is more = more_has to_head ended bytes more
    (subst (FaultCause (response_form to_head) ended bytes) is cause).1
