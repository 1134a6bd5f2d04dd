-- Where nothing is inside and no log is kept, opportunities burn with no effect.
use Rattle.std.proofs.Common.{◌≡◌, ℕ, zero, suc, ◌+◌, ◌-◌, ◌≤◌, ◌<◌, false, List, [], ◌∷◌, Option, Some, None, length}
use Rattle.std.proofs.Common.{arith, refl, sym, subst}
use Rattle.std.proofs.lemmas.List.{append-nil}
use Rattle.packet_record.specs.declared.packet.Timed.{Timed}
use Rattle.packet_queue.specs.declared.spec.QueueSpec.{QueueSpec}
use Rattle.shell_log.specs.declared.entry.Entry.{Entry}
use Rattle.trace_reader.specs.declared.opportunity.Opportunity.{Opportunity}
use Rattle.trace_reader.proofs.ListLemmas.{some_at}
use Rattle.link_core.specs.inside.State.{pending}
use Rattle.link_core.specs.inside.Sound.{Sound}
use Rattle.link_core.proofs.SoundLemmas.{sound_burn}

idle_one : (q : QueueSpec) (opps : List Opportunity) (b : ℕ) (arrivals : List Timed) (used : ℕ)
    (departed lost : List Timed) (log : List Entry)
    → Sound q opps b arrivals None used [] departed lost false log → b < length opps
    → Sound q opps (b + 1) arrivals None used [] departed lost false log
idle_one q opps b arrivals used departed lost log s lt =
    let next = some_at opps b lt in
    sound_burn q opps b arrivals None None used used [] [] departed departed lost false log log next.0 s next.1
    s.part refl
    s.part
    (sym (append-nil departed)) (sym (append-nil log))

idle_many : (n : ℕ) (q : QueueSpec) (opps : List Opportunity) (b : ℕ) (arrivals : List Timed) (used : ℕ)
    (departed lost : List Timed) (log : List Entry)
    → Sound q opps b arrivals None used [] departed lost false log → b + n ≤ length opps
    → Sound q opps (b + n) arrivals None used [] departed lost false log
idle_many zero q opps b arrivals used departed lost log s le = let none : b ≡ b + 0 = omega arith
    in subst (λ k. Sound q opps k arrivals None used [] departed lost false log) none s
idle_many (suc n) q opps b arrivals used departed lost log s le =
    let sum : b + 1 + n ≡ b + suc n = omega arith in
    let more = idle_many n q opps (b + 1) arrivals used departed lost log
    (idle_one q opps b arrivals used departed lost log s (omega arith)) (omega arith) in
    subst (λ k. Sound q opps k arrivals None used [] departed lost false log) sum more

pub idle_burns : (q : QueueSpec) (opps : List Opportunity) (b e : ℕ) (arrivals : List Timed) (packet : Option Timed)
    (used : ℕ) (queue departed lost : List Timed) (log : List Entry)
    → Sound q opps b arrivals packet used queue departed lost false log → length (pending packet queue) ≡ 0 → b ≤ e
    → e ≤ length opps
    → Sound q opps e arrivals packet used queue departed lost false log
idle_burns q opps b e arrivals None used [] departed lost log s none le lt =
    let sum : b + (e - b) ≡ e = omega arith in
    subst (λ k. Sound q opps k arrivals None used [] departed lost false log) sum
    (idle_many (e - b) q opps b arrivals used departed lost log s (omega arith))
idle_burns q opps b e arrivals None used (t ∷ queue) departed lost log s none le lt = absurd (omega arith)
idle_burns q opps b e arrivals (Some t) used queue departed lost log s none le lt = absurd (omega arith)
