use Rattle.std.proofs.Common.{◌≡◌, ◌∙◌, ◌+◌, ◌++◌, ◌∷◌, [], List, ℕ, ap, length, length-append, map, sym, arith, rules}
use Rattle.text_base.specs.LinesLeft.{lines_left}
use Rattle.command_merge.specs.List.{line_fault}
use Rattle.command_merge.proofs.ListLemmas.{names_more}
use Rattle.command_merge.proofs.list.read_list.Goals as goal

pub loop-line-preserved : goal.loop-line-preserved
loop-line-preserved c =
    let names = c.loop-line.names.items in
    let line = c.in-Some.line.now in
    let rest = lines_left c.next.new.self in
    let step : lines_left c.loop-line.line-iterator ≡ line ∷ rest = search rules in
    let len : c.len.result ≡ length c.loop-line.names.items = search rules in
    let more = c.in_ok-push.ensures.items in
    let count : length c.push.new.self.items ≡ c.len.result + 1 =
    let long = length-append c.loop-line.names.items (c.in_ok-name.name ∷ []) in
    let same = ap length more in omega arith in
    let next : c.len.result + 1 + 1 ≡ c.len.result + 2 = omega arith in record {
      can = search rules;
      ends = search rules;
      few = omega (arith, c.in_ok-name.ensures.few);
      lines = c.loop-line.invariant.lines
          ∙ ap (λ (l : List (List ℕ)). map (λ name. name.now) names ++ l) step
          ∙ sym (names_more (λ name. name.now) names c.in_ok-name.name line rest c.in_ok-name.ensures.name)
          ∙ ap (λ l. map (λ name. name.now) l ++ rest) (sym more);
      exact = ap (λ n. line_fault (n + 1) rest) count
          ∙ ap (λ n. line_fault n rest) next
          ∙ sym (c.in_ok-name.ensures.fault rest)
          ∙ ap (λ n. line_fault (n + 1) (line ∷ rest)) len
          ∙ ap (line_fault (length names + 1)) (sym step)
          ∙ c.loop-line.invariant.exact;
    }

pub returns-then-is_empty-clause-some : goal.returns-then-is_empty-clause-some
returns-then-is_empty-clause-some c = search rules

pub returns-then-is_empty-clause-exact : goal.returns-then-is_empty-clause-exact
returns-then-is_empty-clause-exact c = search rules
