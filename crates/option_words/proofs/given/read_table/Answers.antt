use Rattle.std.proofs.Common.{◌≡◌, ◌+◌, ℕ, List, Some, length, map, take}
use Rattle.std.proofs.Common.{string_bytes, sym, ap, subst, ◌∙◌, arith}
use Rattle.std.specs.Option.{option_map}
use Rattle.std.proofs.Math.Seq.{take-length}
use Rattle.std.proofs.lemmas.List.{length-map}
use Rattle.option_words.specs.Options.{Opt}
use Rattle.option_words.specs.Givens.{given}
use Rattle.option_words.specs.inside.Found.{IsMatchOf}
use Rattle.option_words.specs.Values.{opt}
use Rattle.option_words.proofs.Reading.{unfit}
use Rattle.option_words.proofs.GivenLemmas.{holds_at, holds_of, one_more, texts_more}
use Rattle.option_words.proofs.given.read_table.Goals as goal

pub returns-then-not-all_fit : goal.returns-then-not-all_fit
returns-then-not-all_fit c =
    let t = map opt c.args.table.now in
    sym (ap (option_map (λ us. map (given us) t))
    (unfit t (map string_bytes c.args.words.now) (sym c.all_fit.ensures ∙ c.if-not-all_fit.true)))

pub loop-option-preserved : goal.loop-option-preserved
loop-option-preserved c = record {
  count = c.in_ok-push.ensures.len ∙ ap (λ (n : ℕ). n + 1) c.loop-option.invariant.count;
  texts = λ us holds.
      let i = c.loop-option.option-index in
      let table = c.args.table.now in
      texts_more _ (given us) c.loop-option.texts.items c.push.new.self.items c.given_of.result (map opt table) i _
      c.in_ok-push.ensures.items
      (c.loop-option.invariant.texts us holds)
      (c.given_of.ensures us (holds_of opt table i _ c.loop-option-test.true holds))
      (one_more opt table i _ c.loop-option-test.true);
}

pub returns : goal.returns
returns c =
    let t = map opt c.args.table.now in
    let ws = map string_bytes c.args.words.now in
    let found = subst (IsMatchOf t ws) c.in-Some.is c.in_ok-matches.ensures in
    let us = found.0 in
    let texts = c.loop-option.invariant.texts us (holds_at t ws us c.in-Some.matches found.1 found.2 c.requires) in
    let long : c.loop-option.option-index ≡ length t = let a = c.loop-option-test.false
    in let b = c.loop-option.auto.option-index-end in rw length-map (omega arith) in
    let all : take c.loop-option.option-index t ≡ t = ap (λ (n : ℕ). take n t) long ∙ take-length t in
    ap Some (texts ∙ ap (λ (l : List Opt). map (given us) l) all)
    ∙ sym (ap (option_map (λ us. map (given us) t)) found.1)
