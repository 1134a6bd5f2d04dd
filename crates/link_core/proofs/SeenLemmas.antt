-- What callers see of sound parts.
use Rattle.std.proofs.Common.{◌≡◌, ◌≤◌, ◌++◌, ℕ, Bool, List, [], ◌∷◌, Option, take, drop, sym, subst, ap, ◌∙◌}
use Rattle.std.proofs.lemmas.List.{take-append-drop}
use Rattle.packet_record.specs.declared.packet.Timed.{Timed}
use Rattle.packet_queue.specs.declared.spec.QueueSpec.{QueueSpec}
use Rattle.shell_log.specs.declared.entry.Entry.{Entry}
use Rattle.trace_reader.specs.declared.opportunity.Opportunity.{Opportunity}
use Rattle.trace_reader.specs.Orders.{AreRising}
use Rattle.link_core.specs.Links.{link_out, link_lost, link_log, link_inside}
use Rattle.link_core.specs.inside.Written.{written}
use Rattle.link_core.specs.inside.State.{pending}
use Rattle.link_core.specs.inside.Sound.{Sound}
use Rattle.link_core.proofs.SentLemmas.{each_front}
use Rattle.link_core.proofs.InOrder.{out_is, lost_is, log_is, inside_is}

pub rising_front : (xs ys : List Opportunity) → AreRising (xs ++ ys) → AreRising xs
rising_front [] ys r = tt
rising_front (x ∷ xs) ys r = (each_front (λ p. x.moment ≤ p.moment) xs ys r.0, rising_front xs ys r.1)

pub rising_take : (b : ℕ) (opps : List Opportunity) → AreRising opps → AreRising (take b opps)
rising_take b opps r = rising_front (take b opps) (drop b opps) (subst AreRising (sym (take-append-drop b opps)) r)

pub seen_out : (q : QueueSpec) (opps : List Opportunity) (b : ℕ) (arrivals : List Timed) (packet : Option Timed)
    (used : ℕ) (queue departed lost : List Timed) (logged : Bool) (log : List Entry)
    → Sound q opps b arrivals packet used queue departed lost logged log → departed ≡ link_out q (take b opps) arrivals
seen_out q opps b arrivals packet used queue departed lost logged log s = sym s.tied.departed_is
    ∙ sym (out_is q (take b opps) arrivals (rising_take b opps s.order))

pub seen_lost : (q : QueueSpec) (opps : List Opportunity) (b : ℕ) (arrivals : List Timed) (packet : Option Timed)
    (used : ℕ) (queue departed lost : List Timed) (logged : Bool) (log : List Entry)
    → Sound q opps b arrivals packet used queue departed lost logged log → lost ≡ link_lost q (take b opps) arrivals
seen_lost q opps b arrivals packet used queue departed lost logged log s = sym s.tied.lost_is
    ∙ sym (lost_is q (take b opps) arrivals)

pub seen_log : (q : QueueSpec) (opps : List Opportunity) (b : ℕ) (arrivals : List Timed) (packet : Option Timed)
    (used : ℕ) (queue departed lost : List Timed) (logged : Bool) (log : List Entry)
    → Sound q opps b arrivals packet used queue departed lost logged log
    → log ≡ written logged (link_log q (take b opps) arrivals)
seen_log q opps b arrivals packet used queue departed lost logged log s =
    sym s.tied.log_is ∙ ap (written logged)
    (sym (log_is q (take b opps) arrivals (rising_take b opps s.order) s.tied.arrivals_fall))

pub seen_inside : (q : QueueSpec) (opps : List Opportunity) (b : ℕ) (arrivals : List Timed) (packet : Option Timed)
    (used : ℕ) (queue departed lost : List Timed) (logged : Bool) (log : List Entry)
    → Sound q opps b arrivals packet used queue departed lost logged log
    → pending packet queue ≡ link_inside q (take b opps) arrivals
seen_inside q opps b arrivals packet used queue departed lost logged log s = sym s.tied.inside_is
    ∙ sym (inside_is q (take b opps) arrivals (rising_take b opps s.order))
