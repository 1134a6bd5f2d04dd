-- For proofs alone: what is true of every nest.
use Rattle.nest_spec.specs.Nests.{IsNest}
use Rattle.nest_spec.specs.declared.nest.Nest.TheInside.{Inside}
use Rattle.nest_spec.specs.views.Nest.{nest_view}

-- Its fields are a nest.
abbrev pub HasNest : Inside → Type 0
HasNest n = IsNest (nest_view n)
