use Rattle.std.proofs.Common.{◌++◌, List, map, ap, sym, ◌∙◌}
use Rattle.std.proofs.lemmas.List.{append-nil}
use Rattle.packet_record.specs.declared.packet.Timed.{Timed}
use Rattle.link_core.specs.Links.{link_out, link_lost, link_inside}
use Rattle.link_core.specs.views.Span.{span_opps}
use Rattle.link_core.proofs.InPlaceLemmas.{same_along}
use Rattle.link_core.proofs.SeenLemmas.{seen_out, seen_lost, seen_inside}
use Rattle.link_core.proofs.in_place.played_in_place.Goals as goal

pub returns-clause-departed : goal.returns-clause-departed
returns-clause-departed c =
    let new = c.play_in_place.new.self in
    let is = c.in_ok-play_in_place.ensures in
    let coming = c.new-places.result.coming in
    let arrivals = ap (λ (ts : List Timed). coming ++ ts) is.come ∙ append-nil coming ∙ c.new-places.ensures.coming in
    let departed = c.play_in_place.new.places.departed in
    c.into_departed.ensures ∙ sym (append-nil departed)
    ∙ ap (λ (ts : List Timed). departed ++ ts) (sym is.departed)
    ∙ seen_out _ _ _ _ _ _ _ _ _ _ _ is.sound
    ∙ same_along link_out _ _ _ _ _ _ _ _ (c.play_in_place.ensures.link.spec ∙ c.new-parts.ensures.spec) is.burnt
    (ap span_opps (c.play_in_place.ensures.link.opportunities ∙ c.new-parts.ensures.opportunities)) arrivals

pub returns-clause-lost : goal.returns-clause-lost
returns-clause-lost c =
    let is = c.in_ok-play_in_place.ensures in
    let coming = c.new-places.result.coming in
    let arrivals = ap (λ (ts : List Timed). coming ++ ts) is.come ∙ append-nil coming ∙ c.new-places.ensures.coming in
    c.into_lost.ensures
    ∙ seen_lost _ _ _ _ _ _ _ _ _ _ _ is.sound
    ∙ same_along link_lost _ _ _ _ _ _ _ _ (c.play_in_place.ensures.link.spec ∙ c.new-parts.ensures.spec) is.burnt
    (ap span_opps (c.play_in_place.ensures.link.opportunities ∙ c.new-parts.ensures.opportunities)) arrivals

pub returns-clause-held : goal.returns-clause-held
returns-clause-held c =
    let is = c.in_ok-play_in_place.ensures in
    let coming = c.new-places.result.coming in
    let arrivals = ap (λ (ts : List Timed). coming ++ ts) is.come ∙ append-nil coming ∙ c.new-places.ensures.coming in
    c.in_ok-held.ensures
    ∙ ap (λ (ts : List Timed). map (λ (t : Timed). t.packet.id) ts)
    (seen_inside _ _ _ _ _ _ _ _ _ _ _ is.sound
    ∙ same_along link_inside _ _ _ _ _ _ _ _ (c.play_in_place.ensures.link.spec ∙ c.new-parts.ensures.spec) is.burnt
    (ap span_opps (c.play_in_place.ensures.link.opportunities ∙ c.new-parts.ensures.opportunities)) arrivals)
