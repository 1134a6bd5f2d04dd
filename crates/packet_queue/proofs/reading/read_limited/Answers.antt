use Rattle.std.proofs.Common.{◌≡◌, Option, Some, rules, ap, sym, ◌∙◌}
use Rattle.packet_queue.specs.declared.reading.Limits.{Limits}
use Rattle.packet_queue.specs.Arguments.{items_of}
use Rattle.packet_queue.specs.inside.Reading.{limited_by}
use Rattle.packet_queue.proofs.ArgumentsLemmas.{limited_is}
use Rattle.packet_queue.proofs.reading.read_limited.Goals as goal

pub returns-in-Some : goal.returns-in-Some
returns-in-Some c =
    let made : c.with_limits.result ≡ limited_by c.args.kind (Some c.in-Some.limits) = search rules in
    made
    ∙ ap (λ (o : Option Limits). limited_by c.args.kind o) (sym c.in-Some.is ∙ c.read_limits.ensures)
    ∙ limited_is c.args.kind (items_of c.args.args.now)

pub returns-in-None : goal.returns-in-None
returns-in-None c =
    ap (λ (o : Option Limits). limited_by c.args.kind o) (sym c.in-None.is ∙ c.read_limits.ensures)
    ∙ limited_is c.args.kind (items_of c.args.args.now)
