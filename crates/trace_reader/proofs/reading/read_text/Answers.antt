use Rattle.std.proofs.Common.{◌≡◌, ◌+◌, ◌++◌, ◌∷◌, [], ℕ, List, Some, length, map, ap, sym, ◌∙◌, arith, rules}
use Rattle.std.proofs.Common.{length-append}
use Rattle.text_base.specs.Lines.{lines_of}
use Rattle.trace_reader.specs.declared.opportunity.Opportunity.{Opportunity}
use Rattle.trace_reader.specs.TraceText.{stated, said_of, said}
use Rattle.trace_reader.specs.Reading.{first_fault}
use Rattle.trace_reader.proofs.TextFaults.{said_short, read_more, said_more}
use Rattle.trace_reader.proofs.reading.read_text.Goals as goal

pub new-requires : goal.new-requires
new-requires c =
    let first = c.read_first-says.ensures.said in
    said_short c.open-form.result.0 first.0 c.in_ok-o.o (first.2 ∙ c.in_ok-o.ensures.said)

pub lines-preserved : goal.lines-preserved
lines-preserved c =
    let form = c.open-form.result.0 in
    let list = c.lines.list.items in
    let first = c.read_first-says.ensures.said in
    let line = first.0 in
    let rest = lines_of c.read_first-says.result.1.now in
    let says : said_of form line ≡ Some (said c.in_ok-o.o) = first.2 ∙ c.in_ok-o.ensures.said in
    let more : c.push.new.self.items ≡ list ++ c.in_ok-o.o ∷ [] = c.in_ok-push.ensures.items
    ∙ ap (λ (p : Opportunity). list ++ p ∷ []) c.new.ensures in
    let len : c.len.result ≡ length list = search rules in
    let count : length c.push.new.self.items ≡ c.len.result + 1 =
    let long = length-append list (c.in_ok-o.o ∷ []) in let same = ap length more in omega arith in
    record {
      few = omega (arith, c.in_ok-o.ensures.few);
      read = read_more form list c.push.new.self.items c.lines.low line c.in_ok-o.o c.lines.invariant.read says
          c.in_ok-o.ensures.order more;
      lines = said_more form (stated (lines_of c.args.text.now)) rest line list c.push.new.self.items c.in_ok-o.o
          (c.lines.invariant.lines ∙ ap (λ (ls : List (List ℕ)). map (λ (p : Opportunity). Some (said p)) list
          ++ map (said_of form) ls) first.1) says more;
      exact =
          ap (λ (n : ℕ). first_fault form n c.in_ok-o.o.moment rest) count
          ∙ sym (c.in_ok-o.ensures.fault line rest first.2)
          ∙ ap (λ (n : ℕ). first_fault form n c.lines.low (line ∷ rest)) len
          ∙ ap (first_fault form (length list) c.lines.low) (sym first.1)
          ∙ c.lines.invariant.exact;
    }
