-- Beside Steps, for proofs alone: the item of a step as a list.
use Rattle.std.specs.Prelude.{List, [], ◌∷◌}
use Rattle.packet_record.specs.declared.item.Item.{Item}
use Rattle.sender_merge.specs.declared.step.MergeStep.{MergeStep}
use Rattle.sender_merge.specs.declared.step.MergeStep.TheVariants.{Item as Gives, Need}

-- the item that the step gives, if it gives one
abbrev pub given_in : MergeStep → List Item
given_in (Gives x) = x ∷ []
given_in (Need sender) = []
