use Rattle.std.proofs.Common.{◌≡◌, ◌≤◌, ◌+◌, ◌%◌, ◌++◌, ◌∷◌, [], ℕ, List, length, ap, refl, ◌∙◌, arith, rules}
use Rattle.packet_record.specs.Draws.{next_draw}
use Rattle.trace_reader.specs.declared.opportunity.Opportunity.{Opportunity}
use Rattle.trace_reader.specs.declared.opportunity.TraceForm.TheVariants.{Moments}
use Rattle.trace_reader.specs.Made.{made_moments, moments_from}
use Rattle.trace_reader.proofs.TextFaults.{none_read, add_one}
use Rattle.trace_reader.proofs.MadeLemmas.{moments, moments_more, moments_end, if_made}
use Rattle.trace_reader.proofs.making.make_trace.Goals as goal

pub loop-init : goal.loop-init
loop-init c =
    let none = c.in_ok-list.ensures.items in
    record {
      count = ap length none;
      low = omega arith;
      high = omega arith;
      read = none_read Moments c.in_ok-list.list.items none;
      made = ap (λ (l : List Opportunity). moments l ++ moments_from c.new-draws.result 0 100) none
          ∙ ap (λ (x : ℕ). moments_from x 0 100) c.new-draws.ensures;
    }

pub loop-preserved : goal.loop-preserved
loop-preserved c =
    let list = c.loop.list.items in
    let more = c.in_ok-push.ensures.items ∙ ap (λ (p : Opportunity). list ++ p ∷ []) c.new.ensures in
    let below : c.from.result ≤ 2 = search rules in
    let drawn : c.from.result ≡ next_draw c.loop.draws % 3 = search rules in
    record {
      count = search rules;
      low = omega arith;
      high = omega arith;
      read = add_one Moments list c.push.new.self.items c.loop.moment _ c.loop.invariant.read (omega arith)
          (omega arith) (refl, tt) more;
      made = moments_more c.loop.draws c.draw.new.self c.loop.moment c.loop.counter list c.push.new.self.items _
          (made_moments c.args.number)
          (omega arith) c.loop.invariant.made (search rules) (ap (λ (n : ℕ). c.loop.moment + (1 + n)) drawn) more;
    }

pub returns-clause-form : goal.returns-clause-form
returns-clause-form c = if_made (λ t. t.form ≡ Moments) _ c.from_list.result c.from_list.ensures refl

pub returns-clause-moments : goal.returns-clause-moments
returns-clause-moments c =
    if_made (λ t. moments t.opportunities ≡ made_moments c.args.number) _ c.from_list.result c.from_list.ensures
    (moments_end c.loop.draws c.loop.moment c.loop.counter c.loop.list.items (made_moments c.args.number)
    (search rules) c.loop.invariant.made)
