use Rattle.std.proofs.Common.{◌-◌, ◌<◌, length, get_or, ap, arith}
use Rattle.std.proofs.lemmas.List.{get_or_default}
use Rattle.request_match.specs.inside.Index.{Entry}
use Rattle.request_match.proofs.IndexLemmas.{lt_true}
use Rattle.request_match.proofs.starts.is_past_lesser.Goals as goal

pub returns-then-place-entries : goal.returns-then-place-entries
returns-then-place-entries c = λ e. (
  c.if-place-entries.true,
  λ k d small.
      let es = c.args.entries.now in
      let here : c.args.place - 1 < length es = omega (arith, small, c.if-place-entries.true) in
      let less : (get_or es (c.args.place - 1) (0, 0)).0 < c.args.key = lt_true _ _ e in
      let up = c.requires k (c.args.place - 1) d (omega (arith, small)) here in
      let same = ap (λ (e : Entry). e.0) (get_or_default es (c.args.place - 1) d (0, 0) here) in
      omega (arith, up, same, less),
)
