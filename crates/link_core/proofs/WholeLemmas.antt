-- What the parts of a link hold once all arrivals are in and the first `last` opportunities are burnt.
use Rattle.std.proofs.Common.{◌≡◌, ◌≤◌, ◌++◌, ℕ, List, length, take, ap, sym, ◌∙◌}
use Rattle.std.proofs.lemmas.List.{append-nil, take_all}
use Rattle.packet_record.specs.declared.packet.Timed.{Timed}
use Rattle.packet_queue.specs.declared.spec.QueueSpec.{QueueSpec}
use Rattle.trace_reader.specs.declared.opportunity.Opportunity.{Opportunity}
use Rattle.link_core.specs.declared.parts.Parts.{Parts}
use Rattle.link_core.specs.Links.{link_log}
use Rattle.link_core.specs.inside.Written.{written}
use Rattle.link_core.specs.views.Span.{span_opps}
use Rattle.link_core.specs.inside.Sound.{IsSound, nothing}
use Rattle.link_core.specs.inside.Play.{IsPlayed, all_arrivals}
use Rattle.link_core.proofs.SeenLemmas.{seen_log}

module _ (last : ℕ) (c : Parts) (sound : IsSound c) (played : IsPlayed last c) (q : QueueSpec) (os : List Opportunity)
    (ts : List Timed)
    (spec : c.buffer.queue.spec ≡ q) (opps : span_opps c.opportunities ≡ os)
    (arrivals : all_arrivals nothing c ≡ ts) where
  burnt_is : take c.burnt (span_opps c.opportunities) ≡ take last os
  burnt_is = ap (λ b. take b (span_opps c.opportunities)) played.all_burnt ∙ ap (take last) opps

  pub come_is : c.arrived.come ≡ ts
  come_is = sym (append-nil c.arrived.come) ∙ ap (λ (us : List Timed). c.arrived.come ++ us) (sym played.all_in)
      ∙ arrivals

  pub along : {X : Type 0} (f : QueueSpec → List Opportunity → List Timed → X)
      → f c.buffer.queue.spec (take c.burnt (span_opps c.opportunities)) c.arrived.come ≡ f q (take last os) ts
  along f =
      ap (λ r. f r (take c.burnt (span_opps c.opportunities)) c.arrived.come) spec
      ∙ ap (λ (xs : List Opportunity). f q xs c.arrived.come) burnt_is
      ∙ ap (λ (us : List Timed). f q (take last os) us) come_is

  -- where these are all
  pub throughout : {X : Type 0} (f : QueueSpec → List Opportunity → List Timed → X) → length os ≤ last
      → f c.buffer.queue.spec (take c.burnt (span_opps c.opportunities)) c.arrived.come ≡ f q os ts
  throughout f all = along f ∙ ap (λ (xs : List Opportunity). f q xs ts) (take_all last os all)

  pub whole_log : c.log.entries ≡ written c.log.kept (link_log q (take last os) ts)
  whole_log = seen_log _ _ _ _ _ _ _ _ _ _ _ sound ∙ ap (written c.log.kept) (along link_log)
