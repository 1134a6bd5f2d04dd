use Rattle.std.proofs.Common.{◌≡◌, ◌∙◌, ◌+◌, [], ◌∷◌, ◌++◌, sym, ap, subst}
use Rattle.std.proofs.Math.Bool.{true≢false}
use Rattle.std.specs.Prelude.{All}
use Rattle.request_match.specs.inside.Index.{IsEntry, HasAllTo, key_of}
use Rattle.request_match.proofs.IndexLemmas.{entry_more, whole_more, whole_other}
use Rattle.request_match.proofs.index_entries.entries_of.Goals.{then-fits_port+in_ok-push, else-fits_port}
use Rattle.request_match.proofs.index_entries.entries_of.Goals as goal

pub loop-place-preserved : goal.loop-place-preserved
loop-place-preserved c =
    let rs = c.args.records.now in
    let es = c.loop-place.entries.items in
    let place = c.loop-place.place in
    let r = c.index-records-place.result in
    let is = c.index-records-place.is in
    elim c.if-fits_port.branch [
      | then-fits_port+in_ok-push w ↦
          let added : c.if-fits_port.entries.items ≡ es ++ (key_of r.request.head, place) ∷ [] =
          ap (λ v. v.items) w.entries-is ∙ w.in_ok-push.ensures.items ∙ ap (λ n. es ++ (n, place) ∷ []) w.key.ensures in
          record {
            entries = subst (All (IsEntry rs c.args.port)) (sym added)
                (entry_more rs c.args.port es place r c.loop-place-test.true is
                (c.fits_port.ensures.0 w.if-fits_port.true) c.loop-place.invariant.entries);
            whole = subst (HasAllTo rs c.args.port (place + 1)) (sym added)
                (whole_more rs c.args.port es place r c.loop-place-test.true is c.loop-place.invariant.whole);
          }
      | else-fits_port w ↦
          let kept = ap (λ v. v.items) w.entries-is in
          record {
            entries = subst (All (IsEntry rs c.args.port)) (sym kept) c.loop-place.invariant.entries;
            whole = subst (HasAllTo rs c.args.port (place + 1)) (sym kept)
                (whole_other rs c.args.port es place r c.loop-place-test.true is c.loop-place.invariant.whole
                (λ fits. true≢false (sym (c.fits_port.ensures.1 fits) ∙ w.if-fits_port.false)));
          }
    ]
