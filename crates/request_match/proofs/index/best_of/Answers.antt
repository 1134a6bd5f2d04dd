use Rattle.std.proofs.Common.{◌≡◌, ◌∙◌, ◌<◌, Some, None, true, get_or, refl, sym, subst, rules}
use Rattle.std.proofs.Math.Bool.{true≢false}
use Rattle.request_match.specs.Match.{score}
use Rattle.request_match.specs.inside.Index.{entry_at, head_copy}
use Rattle.request_match.proofs.AloneLemmas.{copy_agrees, agrees_copy, alone_end, best_alone}
use Rattle.request_match.proofs.IndexLemmas.{record_at}
use Rattle.request_match.proofs.index.best_of.Goals as goal

pub returns-then-agrees : goal.returns-then-agrees
returns-then-agrees c =
    let q = c.args.asked.now.request.now in
    let port = c.args.asked.now.port in
    let rs = c.args.records.now in
    let es = c.args.entries.now in
    let start = c.first_from-start.result in
    let is : c.is_alone.result ≡ true = search rules in
    let alone = c.is_alone.ensures is in
    let entry = c.requires.index.entries start (0, 0) alone.0 in
    let r = record_at rs (entry_at es start).1 entry.place in
    let copy : c.index-copies-start.result ≡ head_copy r.0.request.head = c.index-copies-start.is
    ∙ c.requires.copies.each start c.index-copies-start.result alone.0 r.0 r.1 in
    let good = copy_agrees q port r.0 (entry.fits r.0 r.1) (sym copy ∙ c.agrees.ensures.0 c.if-agrees.true) in
    best_alone q port rs es c.args.fronts.now c.requires.index start r.0 c.first_from-start.ensures.bound
    (λ k d small. subst (λ n. (get_or es k d).0 < n) c.key_of_front-key.ensures
    (c.first_from-start.ensures.below k d small))
    (alone_end q es start c.key_of_front-key.result c.requires.index.ordered c.key_of_front-key.ensures
    c.first_from-start.ensures.from alone.1) r.1 (Some (score q r.0)) (good, refl)

pub returns-else-agrees : goal.returns-else-agrees
returns-else-agrees c =
    let q = c.args.asked.now.request.now in
    let port = c.args.asked.now.port in
    let rs = c.args.records.now in
    let es = c.args.entries.now in
    let start = c.first_from-start.result in
    let is : c.is_alone.result ≡ true = search rules in
    let alone = c.is_alone.ensures is in
    let entry = c.requires.index.entries start (0, 0) alone.0 in
    let r = record_at rs (entry_at es start).1 entry.place in
    let copy : c.index-copies-start.result ≡ head_copy r.0.request.head = c.index-copies-start.is
    ∙ c.requires.copies.each start c.index-copies-start.result alone.0 r.0 r.1 in
    best_alone q port rs es c.args.fronts.now c.requires.index start r.0 c.first_from-start.ensures.bound
    (λ k d small. subst (λ n. (get_or es k d).0 < n) c.key_of_front-key.ensures
    (c.first_from-start.ensures.below k d small))
    (alone_end q es start c.key_of_front-key.result c.requires.index.ordered c.key_of_front-key.ensures
    c.first_from-start.ensures.from alone.1) r.1 None
    (λ a. true≢false (sym (c.agrees.ensures.1 (copy ∙ agrees_copy q port r.0 a)) ∙ c.if-agrees.false))
