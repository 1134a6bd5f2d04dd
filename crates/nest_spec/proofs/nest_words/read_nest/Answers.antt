use Rattle.std.proofs.Common.{map, string_bytes, rules}
use Rattle.nest_spec.specs.inside.Draft.{draft_plan}
use Rattle.nest_spec.proofs.PlanLemmas.{nest_fits}
use Rattle.nest_spec.proofs.nest_words.read_nest.Goals as goal

pub invariant_of-result : goal.invariant_of-result
invariant_of-result c = nest_fits (map string_bytes c.args.words.now) (draft_plan c.read_shells.new.draft)
    (search rules)
