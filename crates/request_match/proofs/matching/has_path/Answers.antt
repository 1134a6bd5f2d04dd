use Rattle.std.proofs.Common.{◌≤◌, ◌<◌, inl, inr, length, refl, arith}
use Rattle.request_match.specs.Match.{common}
use Rattle.request_match.proofs.LineLemmas.{common_fits, path_needed, path_there}
use Rattle.request_match.proofs.MatchLemmas.{refuse}
use Rattle.std.proofs.lemmas.Bool.Decides.{Decides-eqb}
use Rattle.request_match.proofs.matching.has_path.Goals as goal

pub bounds-line-bare : goal.bounds-line-bare
bounds-line-bare c =
    omega (
      arith,
      c.requires.shared,
      c.if-shared-bare.false,
      c.if-line-bare.false,
      (common_fits c.args.line.now c.args.asked.now).0,
    )

pub returns-then-shared-bare : goal.returns-then-shared-bare
returns-then-shared-bare c = refuse (λ e.
    let few = (path_needed c.args.line.now c.args.asked.now c.args.bare c.requires.bare e).0 in
    omega (arith, few, c.requires.shared, c.if-shared-bare.true))

pub returns-then-line-bare : goal.returns-then-line-bare
returns-then-line-bare c =
    let few : c.args.bare ≤ common c.args.line.now c.args.asked.now =
    omega (arith, c.requires.shared, c.if-shared-bare.false) in (
      λ e. path_there c.args.line.now c.args.asked.now c.args.bare c.requires.bare few (inl c.if-line-bare.true),
      λ e. refl,
    )

pub returns : goal.returns
returns c =
    let line = c.args.line.now in
    let few : c.args.bare ≤ common line c.args.asked.now =
    omega (arith, c.requires.shared, c.if-shared-bare.false) in
    let inside : c.args.bare < length line =
    omega (arith, few, c.if-line-bare.false, (common_fits line c.args.asked.now).0) in (
      λ e. path_there line c.args.asked.now c.args.bare c.requires.bare few (inr (inside, (Decides-eqb _ _).0 e)),
      λ e. (Decides-eqb _ _).1 ((path_needed line c.args.asked.now c.args.bare c.requires.bare e).1 inside),
    )
