-- For proofs alone: what is true of the words for a nest.
use Rattle.nest_spec.specs.Plans.{IsPlan}
use Rattle.nest_spec.specs.declared.nest_words.NestWords.TheInside.{Inside}
use Rattle.nest_spec.specs.views.NestWords.{plan_view}

-- Its fields are a whole nest.
abbrev pub HasPlan : Inside → Type 0
HasPlan w = IsPlan (plan_view w)
