use Rattle.std.proofs.Common.{◌≡◌, ◌+◌, ◌==◌, [], ◌∷◌, true, length, Option, Some, None, MatchOption, IfSome, IfNone}
use Rattle.std.proofs.Common.{sym, ap, ◌∙◌}
use Rattle.mm_base.specs.Link.{IsFresh}
use Rattle.mm_base.specs.MemLink.{MemLinkState, mem_link_view, IsUnused}
use Rattle.mm_base.specs.MemPort.{MemPortState}
use Rattle.mm_base.proofs.mem_port.MemPortPort.accept.Goals as goal

-- no link was left, or the next one was taken
abbrev IsDrained : Option MemLinkState → MemPortState → MemPortState → Type 0
IsDrained link old new = IfNone link ((old.waiting ≡ []) × (new ≡ old))

abbrev IsNext : Option MemLinkState → MemPortState → MemPortState → Type 0
IsNext link old new = IfSome link (λ conn. IsUnused conn × (old.waiting ≡ conn ∷ new.waiting)
    × (new ≡ record old { waiting = new.waiting; accepted = old.accepted + 1 }))

next_waited : (link : Option MemLinkState) (old mid new : MemPortState) → mid.waiting ≡ old.waiting
    → IsDrained link mid new → IsNext link mid new
    → MatchOption link ((old.waiting ≡ []) × (new.waiting ≡ [])) (λ conn. old.waiting ≡ conn ∷ new.waiting)
next_waited (Some conn) old mid new same drained next = sym same ∙ next.1
next_waited None old mid new same drained next = (
  sym same ∙ drained.0,
  ap (λ port. port.waiting) drained.1 ∙ drained.0,
)

next_counted : (link : Option MemLinkState) (old mid new : MemPortState) → mid.accepted ≡ old.accepted
    → IsDrained link mid new → IsNext link mid new
    → MatchOption link ((new.accepted ≡ old.accepted) × ((length new.waiting == 0) ≡ true))
    (λ conn. (new.accepted ≡ old.accepted + 1) × IsFresh (mem_link_view conn))
next_counted (Some conn) old mid new same drained next = (
  ap (λ port. port.accepted) next.2 ∙ ap (λ count. count + 1) same,
  record { untouched = (next.0.taken, next.0.given, next.0.reads); faultless = next.0.faults },
)
next_counted None old mid new same drained next = (
  ap (λ port. port.accepted) drained.1 ∙ same,
  ap (λ port. length port.waiting == 0) drained.1 ∙ ap (λ links. length links == 0) drained.0,
)

pub returns-clause-next : goal.returns-clause-next
returns-clause-next c = next_waited c.next_link.result c.args.self.now c.call.new.self c.next_link.new.self
    c.call.ensures.waiting c.next_link.ensures.none c.next_link.ensures.some

pub returns-clause-ok : goal.returns-clause-ok
returns-clause-ok c = next_counted c.next_link.result c.args.self.now c.call.new.self c.next_link.new.self
    c.call.ensures.accepted c.next_link.ensures.none c.next_link.ensures.some
