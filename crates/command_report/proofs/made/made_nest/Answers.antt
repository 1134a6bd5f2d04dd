use Rattle.std.proofs.Common.{◌≡◌, ◌≤◌, List, length, IfOk, Result, Ok, Err, ap, sym, subst, ◌∙◌}
use Rattle.trace_reader.specs.declared.trace.Trace.{Trace}
use Rattle.nest_spec.specs.Nests.{NestParts, built, opportunities_of}
use Rattle.command_report.specs.Made.{IsMadeNest}
use Rattle.command_report.proofs.WordLemmas.{two_traces, few_opportunities}
use Rattle.command_report.proofs.made.made_nest.Goals as goal

if_built : {E : Type 0} (P : NestParts → Type 0) (nest : NestParts) (result : Result NestParts E)
    → IfOk result (λ n. n ≡ nest) → P nest → IfOk result P
if_built P nest (Ok n) e p = subst P (sym e) p
if_built P nest (Err fault) e p = tt

pub build-requires-clause-traces : goal.build-requires-clause-traces
build-requires-clause-traces c = ap length c.in_ok-traces.ensures.traces
    ∙ sym (two_traces c.in_ok-words.words c.in_ok-words.ensures)

pub build-requires-clause-few : goal.build-requires-clause-few
build-requires-clause-few c =
    subst (λ (traces : List Trace). opportunities_of c.args.horizon c.in_ok-words.words.shells traces ≤ 16000000)
    (sym c.in_ok-traces.ensures.traces)
    (few_opportunities c.args.number c.args.horizon c.in_ok-words.words c.in_ok-trace.trace c.in_ok-words.ensures
    c.in_ok-trace.ensures.moments c.requires)

pub returns : goal.returns
returns c =
    let nest : NestParts = built c.in_ok-words.words c.in_ok-traces.traces.items c.args.number c.args.horizon in
    let made : IsMadeNest c.args.number c.args.horizon
    (built c.in_ok-words.words c.in_ok-traces.traces.items c.args.number c.args.horizon) = record {
      plan = c.in_ok-words.words;
      trace = c.in_ok-trace.trace;
      words = c.in_ok-words.ensures;
      made = record {
        form = c.in_ok-trace.ensures.form;
        moments = c.in_ok-trace.ensures.moments;
        trace_is = c.in_ok-traces.ensures.trace;
      };
      nest_is = ap (λ (traces : List Trace). built c.in_ok-words.words traces c.args.number c.args.horizon)
          c.in_ok-traces.ensures.traces;
    } in
    if_built (IsMadeNest c.args.number c.args.horizon) nest c.build.result c.build.ensures made
