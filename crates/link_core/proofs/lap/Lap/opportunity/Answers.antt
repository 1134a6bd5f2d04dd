use Rattle.std.proofs.Common.{◌+◌, ◌≤◌, ap, sym, refl, ◌∙◌, Some, arith}
use Rattle.trace_reader.specs.Opps.{later, entry}
use Rattle.trace_reader.proofs.Fields.{same_opportunity}
use Rattle.link_core.proofs.LapLemmas.{entry_at, moment_within}
use Rattle.link_core.proofs.lap.Lap.opportunity.Goals as goal

pub overflow_add-result : goal.overflow_add-result
overflow_add-result c =
    let trace = c.args.trace.now.opportunities in
    let o = c.at-found.result in
    let at = entry_at trace c.args.self.first c.args.self.start c.args.j o c.requires.lap c.requires.low
    c.requires.high c.at-found.ensures.at in
    let within : o.moment + c.args.self.start ≤ 3600000 = moment_within (entry trace c.args.j) c.args.self.start o at
    c.requires.within in
    omega arith

pub returns : goal.returns
returns c =
    let o = c.at-found.result in
    let at = entry_at c.args.trace.now.opportunities c.args.self.first c.args.self.start c.args.j o c.requires.lap
    c.requires.low c.requires.high c.at-found.ensures.at in
    ap Some (same_opportunity (later c.args.self.start o) _ _ _ _ refl refl) ∙ sym at
