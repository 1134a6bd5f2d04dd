use Rattle.std.proofs.Common.{◌≡◌, ap, sym}
use Rattle.packet_queue.specs.View.{Queue}
use Rattle.link_core.proofs.SoundLemmas.{behind, sound_burn}
use Rattle.link_core.proofs.Fronts.{log_behind_burn}
use Rattle.link_core.proofs.parts.Parts.burn_next.Goals as goal

pub returns-clause-sound : goal.returns-clause-sound
returns-clause-sound g c =
    let buffer = c.serve.ensures.buffer in
    let old : Queue = c.args.self.now.buffer.queue in
    let spec_e : c.serve.new.buffer.queue.spec ≡ old.spec = ap (λ (q : Queue). q.spec) buffer.queue in
    let lost_e : c.serve.new.buffer.queue.lost ≡ old.lost = ap (λ (q : Queue). q.lost) buffer.queue in
    rw (spec_e, lost_e, c.serve.ensures.log.kept)
    (sound_burn _ _ _ _ _ _ _ _ _ _ _ _ _ _ _ _ c.args.o c.requires.0 (sym c.requires.1.0)
    buffer.part buffer.inside buffer.used (behind g.gone.departed _ _ _ c.serve.ensures.departed)
    (behind g.gone.log _ _ _ c.serve.ensures.log.entries))

pub serve-requires-clause-order : goal.serve-requires-clause-order
serve-requires-clause-order g c =
    log_behind_burn g.gone.log _ _ _ _ _ _ _ _ _ _ _ c.args.o c.requires.0 (sym c.requires.1.0)
