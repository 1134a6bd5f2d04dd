use Rattle.std.proofs.Common.{Some, ap, ◌∙◌, rules}
use Rattle.mm_base.specs.Link.{moved, read_begun}
use Rattle.mm_base.proofs.mem_link.MemLinkLink.read.Goals as goal

pub returns-clause-told : goal.returns-clause-told
returns-clause-told c =
    let n = c.fill.result in
    ap (λ link. Some link.bytes) c.fill.ensures.moved
    ∙ ap (λ link. Some (moved n link.bytes)) c.in_ok-note_read.ensures.ok
    ∙ ap (λ link. Some (moved n (read_begun link.bytes))) c.self.view_is

pub returns-clause-call : goal.returns-clause-call
returns-clause-call c = search rules
