use Rattle.std.proofs.Common.{◌≡◌, ◌-◌, ◌*◌, ◌≤◌, ◌++◌, length}
use Rattle.trace_reader.specs.declared.opportunity.TraceForm.TheVariants.{Moments}
use Rattle.trace_reader.specs.Made.{moments_from, made_moments}
use Rattle.trace_reader.proofs.TextFaults.{IsRead}
use Rattle.trace_reader.proofs.MadeLemmas.{moments}
use Rattle.trace_reader.proofs.making.make_trace.Given as goal

abbrev pub invariant-loop : goal.invariant-loop
invariant-loop l = record {
  count : length l.list.items ≡ l.counter;
  low : l.counter ≤ l.moment;
  high : l.moment ≤ 3 * l.counter;
  read : IsRead Moments l.list.items l.moment;
  made : moments l.list.items ++ moments_from l.draws l.moment (100 - l.counter) ≡ made_moments l.number;
}
