use Rattle.std.proofs.Common.{◌≡◌, ◌∙◌, true, sym, subst}
use Rattle.nest_core.specs.Channels.{ChannelParts, has_room}
use Rattle.nest_core.specs.Worlds.{line, world}
use Rattle.nest_core.specs.inside.Standing.{WorldStands}
use Rattle.nest_core.specs.views.World.{world_view}
use Rattle.nest_core.specs.declared.actor.Actor.TheVariants.{Source}
use Rattle.nest_core.proofs.Meeting.{act_stands}
use Rattle.nest_core.proofs.Changing.{sourced}
use Rattle.nest_core.proofs.world.World.send_next.Goals as goal

pub invariant_of-self : goal.invariant_of-self
invariant_of-self c =
    let w = world_view c.self.inside in
    let room : has_room w.line.channel ≡ true = sym c.has_room.ensures ∙ c.if-not-has_room.false in
    subst (λ (k : ChannelParts). WorldStands
    (world w.horizon c.next.new.self (line k w.line.stations w.line.collected))) (sym c.send.ensures)
    (subst WorldStands (sourced w c.in-Some.item c.next.new.self room c.in-Some.ensures.items)
    (act_stands w Source c.self.invariant))
