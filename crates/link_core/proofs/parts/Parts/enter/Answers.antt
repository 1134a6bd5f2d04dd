use Rattle.std.proofs.Common.{◌≡◌, ◌≤◌, ◌+◌, ◌++◌, List, ◌∷◌, [], Option, Some, None, length}
use Rattle.std.proofs.Common.{take, map, arith, ap, subst, sym, ◌∙◌}
use Rattle.packet_record.specs.declared.packet.Timed.{Timed}
use Rattle.packet_record.specs.Packets.{moved_to}
use Rattle.packet_queue.specs.Queues.{enqueued, dropped}
use Rattle.packet_queue.specs.declared.spec.QueueSpec.{QueueSpec}
use Rattle.packet_queue.specs.View.{Queue}
use Rattle.shell_log.specs.declared.entry.Entry.TheVariants as entries
use Rattle.link_core.specs.inside.State.{pending}
use Rattle.link_core.specs.inside.Written.{written}
use Rattle.link_core.specs.Links.{drop_line, drop_line_by}
use Rattle.link_core.proofs.FewLemmas.{kind_few}
use Rattle.link_core.proofs.SoundLemmas.{behind, sound_enter}
use Rattle.link_core.proofs.Fronts.{log_behind_enter}
use Rattle.packet_queue.proofs.Sizes.{some_bytes}
use Rattle.packet_queue.proofs.Limits.{length_most}
use Rattle.link_core.proofs.parts.Parts.enter.Goals as goal

-- a packet that comes makes one more inside, or none
inside_few : (packet : Option Timed) (q : QueueSpec) (ts : List Timed) (t : Timed)
    → length (pending packet (enqueued q ts t)) ≤ length (pending packet ts) + 1
inside_few None q ts t = kind_few q.kind q ts t
inside_few (Some u) q ts t = let few = kind_few q.kind q ts t in omega arith

pub returns-clause-room : goal.returns-clause-room
returns-clause-room g c =
    let now = c.args.self.now in
    let old : Queue = now.buffer.queue in
    let packets_e : c.enqueue-dropped.new.self.packets ≡ enqueued old.spec old.packets c.args.t =
    ap (λ (q : Queue). q.packets) c.enqueue-dropped.ensures.queue in
    let few = subst (λ (ts : List Timed). length (pending now.buffer.packet ts)
    ≤ length (pending now.buffer.packet old.packets) + 1) (sym packets_e)
    (inside_few now.buffer.packet old.spec old.packets c.args.t) in
    let spare = ap (λ (q : Queue). q.spare) c.enqueue-dropped.ensures.queue in
    let left = c.note.ensures.left in
    record { queue = omega arith; departures = omega arith; entries = omega arith }

pub returns-clause-sound : goal.returns-clause-sound
returns-clause-sound g c =
    let old : Queue = c.args.self.now.buffer.queue in
    let t = c.args.t in
    let spec_e : c.enqueue-dropped.new.self.spec ≡ old.spec =
    ap (λ (q : Queue). q.spec) c.enqueue-dropped.ensures.queue in
    let packets_e : c.enqueue-dropped.new.self.packets ≡ enqueued old.spec old.packets t =
    ap (λ (q : Queue). q.packets) c.enqueue-dropped.ensures.queue in
    let lost_e : c.enqueue-dropped.new.self.lost ≡ old.lost
    ++ map (moved_to t.moment) (dropped old.spec old.packets t) =
    ap (λ (q : Queue). q.lost) c.enqueue-dropped.ensures.queue
    in
    let come_e : c.enter.new.self.come ≡ c.args.self.now.arrived.come ++ t ∷ [] = c.enter.ensures.come
    ∙ ap (λ (ts : List Timed). c.args.self.now.arrived.come ++ take 1 ts) c.requires.1.0.next in
    let logged = c.args.self.now.log.kept in
    let log_e : c.note.new.log.entries ≡ c.args.self.now.log.entries
    ++ written logged (entries.Arrival t.moment t.packet.size ∷ drop_line t.moment
    (dropped old.spec old.packets t)) =
    c.note.ensures.log.entries
    ∙ ap (λ n. c.args.self.now.log.entries
    ++ written logged (entries.Arrival t.moment t.packet.size ∷ drop_line_by t.moment n
    c.enqueue-dropped.result.bytes)) c.enqueue-dropped.ensures.packets
    ∙ ap (λ n. c.args.self.now.log.entries
    ++ written logged (entries.Arrival t.moment t.packet.size ∷ drop_line_by t.moment
    (length (dropped old.spec old.packets t)) n)) c.enqueue-dropped.ensures.bytes
    in
    let all_e : g.gone.log ++ c.note.new.log.entries
    ≡ g.gone.log ++ c.args.self.now.log.entries
    ++ written logged (entries.Arrival t.moment t.packet.size ∷ drop_line t.moment
    (dropped old.spec old.packets t)) =
    behind g.gone.log _ _ _ log_e
    in
    let all_come : g.gone.come ++ c.enter.new.self.come ≡ (g.gone.come ++ c.args.self.now.arrived.come) ++ t ∷ [] =
    behind g.gone.come _ _ _ come_e
    in
    rw (spec_e, packets_e, lost_e, all_come, c.note.ensures.log.kept, all_e)
    (sound_enter _ _ _ _ _ _ _ _ _ _ _ t c.requires.0 c.requires.1.0.order c.requires.1.0.burnt c.requires.1.0.later)

pub note-requires-clause-order : goal.note-requires-clause-order
note-requires-clause-order g c = log_behind_enter g.gone.log _ _ _ _ _ _ _ _ _ _ _ c.args.t c.requires.0
    c.requires.1.0.order c.requires.1.0.burnt

pub note-requires-clause-some : goal.note-requires-clause-some
note-requires-clause-some g c =
    let packets = c.enqueue-dropped.ensures.packets in
    let size = c.enqueue-dropped.ensures.bytes in
    let old : Queue = c.args.self.now.buffer.queue in
    λ lt. let h = some_bytes (dropped old.spec old.packets c.args.t) (omega arith) in omega arith

pub note-requires-clause-packets : goal.note-requires-clause-packets
note-requires-clause-packets g c =
    let packets = c.enqueue-dropped.ensures.packets in
    let size = c.enqueue-dropped.ensures.bytes in
    let old : Queue = c.args.self.now.buffer.queue in
    let most = length_most (dropped old.spec old.packets c.args.t) in
    omega arith
