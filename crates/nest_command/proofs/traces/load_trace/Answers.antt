use Rattle.std.proofs.Common.{Err, subst, sym}
use Rattle.std.proofs.lemmas.Result.{err_from_is_err_and}
use Rattle.trace_reader.specs.Traces.{TraceView}
use Rattle.command_ends.specs.Readings.{Done, unless}
use Rattle.command_ends.specs.Stops.{StopsReading}
use Rattle.command_ends.specs.declared.cause.Cause.{Cause}
use Rattle.command_ends.proofs.ReadingLemmas.{stops_at, text_stopped}
use Rattle.nest_command.specs.Inputs.{reading_trace, trace_refusal}
use Rattle.nest_command.proofs.InputLemmas.{trace_accepted, trace_text}
use Rattle.nest_command.proofs.traces.load_trace.Goals as goal

pub returns-in_err-text-clause-stopped : goal.returns-in_err-text-clause-stopped
returns-in_err-text-clause-stopped g c =
    let p = err_from_is_err_and c.from_residual.result c.from_residual.ensures.1 in
    let name = c.args.name.now in
    let old = g.D.Disk.view c.args.disk.now in
    let new = g.D.Disk.view c.read_input.new.disk in
    rw p.1 (subst (λ (k : Cause). StopsReading (reading_trace name Done) old new k) (sym p.2)
    (stops_at name (λ text. unless (trace_refusal name text) (Done text)) old new _
    (rw c.as_str.ensures at c.in_err-text.ensures.stopped)))

pub returns-in_err-trace-clause-stopped : goal.returns-in_err-trace-clause-stopped
returns-in_err-trace-clause-stopped g c =
    let p = err_from_is_err_and c.from_residual-in_err-trace.result c.from_residual-in_err-trace.ensures.1 in
    let name = c.args.name.now in
    let old = g.D.Disk.view c.args.disk.now in
    let new = g.D.Disk.view c.read_input.new.disk in
    rw p.1 (subst (λ (k : Cause). StopsReading (reading_trace name Done) old new k) (sym p.2)
    (text_stopped {T = TraceView} old new (trace_refusal name) name c.in_ok-text.text (Err c.in_err-trace.field-0.0)
    (rw c.as_str.ensures at c.in_ok-text.ensures.input)
    (λ refusal e. (trace_text name c.in_ok-text.text refusal e).not_absent)
    (rw c.as_str-2.ensures at c.in_err-trace.ensures.refused)))

pub returns-clause-found : goal.returns-clause-found
returns-clause-found g c = record {
  input = rw c.as_str.ensures at c.in_ok-text.ensures.input;
  accepted = trace_accepted c.args.name.now c.in_ok-text.text c.in_ok-trace.ensures.no_fault;
  trace_is = c.in_ok-trace.ensures.trace;
}
