use Rattle.std.proofs.Common.{◌≤◌, get_or, ap, arith}
use Rattle.std.proofs.lemmas.List.{get_or_default}
use Rattle.request_match.specs.inside.Index.{Entry}
use Rattle.request_match.proofs.starts.is_before_rest.Goals as goal

pub returns-then-place-entries-2 : goal.returns-then-place-entries-2
returns-then-place-entries-2 c = λ e. (
  (let here = c.if-place-entries-2.true in omega (arith, here)),
  λ k d past small.
      let es = c.args.entries.now in
      let least : c.args.key ≤ (get_or es c.args.place (0, 0)).0 = grind (arith, e) in
      let up = c.requires c.args.place k d past small in
      let same = ap (λ (e : Entry). e.0) (get_or_default es c.args.place d (0, 0) c.if-place-entries-2.true) in
      omega (arith, up, same, least),
)
