use Rattle.std.proofs.Common.{◌∙◌, length, ap}
use Rattle.std.proofs.lemmas.List.{length-map}
use Rattle.packet_record.specs.declared.packet.Row.{Row}
use Rattle.nest_spec.specs.declared.fate.Fate.TheVariants.{Unsent}
use Rattle.nest_spec.specs.Fates.{fate_row}
use Rattle.nest_spec.proofs.Scheduled.{numbered}
use Rattle.nest_spec.proofs.marking.Marking.of_packed.Goals as goal

pub invariant_of-result : goal.invariant_of-result
invariant_of-result c =
    let long = length-map c.args.rows.now (λ (row : Row). fate_row row Unsent) in (
      numbered c.args.rows.now c.requires.schedule,
      ap length c.in_ok-all_packed_unsent.ensures ∙ long,
    )
