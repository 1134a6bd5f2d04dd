use Rattle.std.proofs.Common.{length, drop, min, ap, ◌∙◌}
use Rattle.std.proofs.lemmas.List.{take_rest}
use Rattle.mm_base.specs.Link.{LinkBytes, moved}
use Rattle.mm_base.specs.MemLink.{MemLinkState, read_count}
use Rattle.mm_base.proofs.LinkLemmas.{moved-bytes_at}
use Rattle.mm_base.proofs.mem_link.MemLink.fill.Goals as goal

pub returns-clause-count : goal.returns-clause-count
returns-clause-count c =
    let i = c.self.inside in
    let room = length c.args.buf.now in
    c.min-count.ensures
    ∙ ap (λ count. min count i.most) (c.min.ensures ∙ ap (λ rest. min (length rest) room)
    (take_rest c.as_slice.result.now i.at ∙ ap (drop i.at) c.as_slice.ensures))
    ∙ ap (λ link. read_count link c.args.buf.now) c.self.view_is

pub returns-clause-moved : goal.returns-clause-moved
returns-clause-moved c =
    let i = c.self.inside in
    let n = c.min-count.result in
    let with_bytes : LinkBytes → MemLinkState
    = λ bytes. record { bytes = bytes; most = i.most; fails = i.fails.items; calls = i.calls; faults = i.faults } in
    let after : MemLinkState → MemLinkState
    = λ link. record link { bytes = moved n c.args.self.now.bytes } in
    ap with_bytes (moved-bytes_at i.input i.at n i.given i.reads.items _ (ap (λ link. link.bytes) c.self.view_is))
    ∙ ap after c.self.view_is
