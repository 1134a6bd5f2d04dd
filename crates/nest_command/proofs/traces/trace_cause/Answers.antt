use Rattle.std.proofs.Common.{Some, ap, sym, ◌∙◌}
use Rattle.trace_reader.specs.declared.reading.TraceError.{TraceError}
use Rattle.nest_command.specs.Inputs.{trace_refused}
use Rattle.nest_command.proofs.InputLemmas.{trace_bad, trace_said}
use Rattle.nest_command.proofs.traces.trace_cause.Goals as goal

pub returns-in-TooManyLines : goal.returns-in-TooManyLines
returns-in-TooManyLines c = λ text h.
    trace_said c.args.name text c.args.error _ _ (h (λ e. let no = sym c.in-TooManyLines.is ∙ e in cc no))
    (ap (λ (e : TraceError). trace_refused c.args.name (Some e)) c.in-TooManyLines.is) c.limit.ensures

pub returns-in_default : goal.returns-in_default
returns-in_default c = λ text h.
    trace_said c.args.name text c.args.error _ _ (h c.in_default.not-OutOfMemory)
    (trace_bad c.args.name c.args.error c.in_default.not-TooManyLines c.in_default.not-OutOfMemory)
    (cc (c.number.ensures, c.line.ensures))
