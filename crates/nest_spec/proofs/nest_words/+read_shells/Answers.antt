use Rattle.std.proofs.Common.{◌≡◌, ◌+◌, ◌-◌, ◌<◌, ◌∷◌, Ok, Err, map, string_bytes, ap, sym, subst, ◌∙◌, arith}
use Rattle.std.proofs.Common.{rules}
use Rattle.std.specs.Result.{MatchResult}
use Rattle.std.proofs.lemmas.Result.{err_from_is_err_and}
use Rattle.nest_spec.specs.Words.{next_shell, followed, shells_from}
use Rattle.nest_spec.specs.inside.Draft.{draft_plan}
use Rattle.nest_spec.specs.inside.ShellWords.{shell_given}
use Rattle.nest_spec.specs.declared.error.NestError.TheVariants as errors
use Rattle.nest_spec.proofs.PlanLemmas.{goes_on, stops}
use Rattle.nest_spec.proofs.nest_words.+read_shells.Goals as goal

pub returns-in_err-read : goal.returns-in_err-read
returns-in_err-read t c =
    let words : map string_bytes c.args.words.now ≡ c.as_str-word.result.now ∷ map string_bytes c.in-Some.rest.now =
    ap (map string_bytes) c.in-Some.ensures.cases.0
    ∙ ap (λ w. w ∷ map string_bytes c.in-Some.rest.now) (sym c.as_str-word.ensures.value) in
    let shell : c.len.result + 1 ≡ next_shell (draft_plan c.args.draft.now) = search rules in
    let some : 0 < c.args.left = omega arith in
    let p = err_from_is_err_and c.from_residual.result c.from_residual.ensures.1 in
    rw (p.1, p.2) (λ no. stops c.args.left (draft_plan c.args.draft.now) c.args.place (c.len.result + 1)
    c.args.missing (map string_bytes c.args.words.now) c.as_str-word.result.now
    (map string_bytes c.in-Some.rest.now) _ some words shell c.in_err-read.ensures)

pub returns-in_default-pass_over : goal.returns-in_default-pass_over
returns-in_default-pass_over t c =
    let words : map string_bytes c.args.words.now ≡ c.as_str-word.result.now ∷ map string_bytes c.in-Some.rest.now =
    ap (map string_bytes) c.in-Some.ensures.cases.0
    ∙ ap (λ w. w ∷ map string_bytes c.in-Some.rest.now) (sym c.as_str-word.ensures.value) in
    let shell : c.len.result + 1 ≡ next_shell (draft_plan c.args.draft.now) = search rules in
    let some : 0 < c.args.left = omega arith in
    let added = c.in_ok-add_shell.ensures in
    let went = goes_on c.args.left (draft_plan c.args.draft.now) (draft_plan c.add_shell.new.draft) c.args.place
    (c.len.result + 1) c.args.missing (map string_bytes c.args.words.now) c.as_str-word.result.now
    (map string_bytes c.in-Some.rest.now) (shell_given c.in_ok-read.read) some words shell c.in_ok-read.ensures added in
    went
    ∙ ap (λ r. followed (draft_plan c.add_shell.new.draft) r
    (λ p ws. shells_from (c.args.left - 1) (draft_plan c.add_shell.new.draft) p
    (errors.MissingWord (c.len.result + 1)) ws)) (sym c.in_default-pass_over.ensures)

pub returns : goal.returns
returns t c =
    let words : map string_bytes c.args.words.now ≡ c.as_str-word.result.now ∷ map string_bytes c.in-Some.rest.now =
    ap (map string_bytes) c.in-Some.ensures.cases.0
    ∙ ap (λ w. w ∷ map string_bytes c.in-Some.rest.now) (sym c.as_str-word.ensures.value) in
    let shell : c.len.result + 1 ≡ next_shell (draft_plan c.args.draft.now) = search rules in
    let some : 0 < c.args.left = omega arith in
    let went = goes_on c.args.left (draft_plan c.args.draft.now) (draft_plan c.add_shell.new.draft) c.args.place
    (c.len.result + 1) c.args.missing (map string_bytes c.args.words.now) c.as_str-word.result.now
    (map string_bytes c.in-Some.rest.now) (shell_given c.in_ok-read.read) some words shell c.in_ok-read.ensures
    c.in_ok-add_shell.ensures in
    let whole = went
    ∙ ap (λ r. followed (draft_plan c.add_shell.new.draft) r
    (λ p ws. shells_from (c.args.left - 1) (draft_plan c.add_shell.new.draft) p
    (errors.MissingWord (c.len.result + 1)) ws)) (sym c.in-Some-pass_over.ensures) in
    subst (λ s. MatchResult c.read_shells.result (λ x. s ≡ Ok (draft_plan c.read_shells.new.draft))
    (λ e. (e ≡ errors.OutOfMemory → ⊥) → s ≡ Err e)) (sym whole) c.read_shells.ensures
