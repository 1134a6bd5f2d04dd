-- The words for a nest as contracts see them.
use Rattle.nest_spec.specs.Words.{NestPlan}
use Rattle.nest_spec.specs.declared.nest_words.NestWords.TheInside.{Inside}

-- The shells, and the names of traces and logs.
abbrev pub plan_view : Inside → NestPlan
plan_view w = record { shells = w.shells.items; traces = w.traces.items; logs = w.logs.items }
