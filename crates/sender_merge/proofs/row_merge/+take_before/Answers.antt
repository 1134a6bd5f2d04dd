use Rattle.std.proofs.Common.{◌≡◌, ◌∙◌, ◌∷◌, ◌+◌, List, Option, Some, ap, arith, length, rules, subst, sym}
use Rattle.packet_record.specs.declared.packet.Row.{Row}
use Rattle.packet_record.proofs.RowsLemmas.{rises-in_order}
use Rattle.sender_merge.specs.Merges.{by_moment, merged_row, row_moment}
use Rattle.sender_merge.specs.inside.RowMerges.{AllNumbered, IsLate, IsSoon, Sorted, left_from, limit_before}
use Rattle.sender_merge.proofs.Rowing.{late_left, next_first, next_other, numbered_at, rises_sorted, row_within}
use Rattle.sender_merge.proofs.Sending.{schedule_numbered}
use Rattle.sender_merge.proofs.row_merge.+take_before.Goals as goal

pub row_before-head-requires : goal.row_before-head-requires
row_before-head-requires t c = subst (Sorted row_moment) (sym c.rows.ensures.rows)
    (rises_sorted 0 _ (rises-in_order 1 0 _ c.rows.ensures.schedule.order))

pub returns-in-Some-take_before-clause-some : goal.returns-in-Some-take_before-clause-some
returns-in-Some-take_before-clause-some t c =
    let sender = c.args.sender in
    let rows = c.rows.result.now in
    let others = c.in-Some-split_first.others.now in
    let place = c.in-Some.place.now in
    let left = c.in-Some.other_places.now in
    let o = c.in-Some-take_before.row in
    let split : c.args.schedules.now ≡ c.in-Some-split_first.schedule.now ∷ others = search rules in
    let parts : c.args.schedules.now ≡ rows ∷ others = split ∙ ap (λ (l : List Row). l ∷ others)
    (sym c.rows.ensures.rows) in
    let places : c.args.places.now ≡ place ∷ left = search rules in
    let sorted = subst (Sorted row_moment) (sym c.rows.ensures.rows)
    (rises_sorted 0 _ (rises-in_order 1 0 _ c.rows.ensures.schedule.order)) in
    ap (λ p. by_moment row_moment (left_from sender c.args.schedules.now p)) places
    ∙ ap (λ (s : List (List Row)). by_moment row_moment (left_from sender s (place ∷ left))) parts
    ∙ next_other sender c.args.limit c.row_before-head.result place rows others left c.take_before.new.places o sorted
    c.row_before-head.ensures.some c.row_before-head.ensures.none
    (subst (λ l. IsSoon l o) c.limit_before-other_limit.ensures c.in-Some-take_before.ensures.soon)
    c.in-Some-take_before.ensures.some
    ∙ ap (λ (s : List (List Row)). o ∷ by_moment row_moment (left_from sender s (place ∷ c.take_before.new.places)))
    (sym parts)

pub returns-in_default-head-clause-none : goal.returns-in_default-head-clause-none
returns-in_default-head-clause-none t c =
    let sender = c.args.sender in
    let limit = c.args.limit in
    let rows = c.rows.result.now in
    let others = c.in-Some-split_first.others.now in
    let place = c.in-Some.place.now in
    let left = c.in-Some.other_places.now in
    let split : c.args.schedules.now ≡ c.in-Some-split_first.schedule.now ∷ others = search rules in
    let parts : c.args.schedules.now ≡ rows ∷ others = split ∙ ap (λ (l : List Row). l ∷ others)
    (sym c.rows.ensures.rows) in
    let places : c.args.places.now ≡ place ∷ left = search rules in
    let is : c.limit_before-other_limit.result ≡ limit = c.limit_before-other_limit.ensures
    ∙ ap (λ (h : Option Row). limit_before h limit) c.in_default-head.is in
    subst (λ p. IsLate limit (left_from sender c.args.schedules.now p)) (sym places)
    (subst (λ (s : List (List Row)). IsLate limit (left_from sender s (place ∷ left))) (sym parts)
    (late_left sender limit place rows others left c.in_default-head.ensures.none
    (subst (λ l. IsLate l (left_from (sender + 1) others left)) is c.in_default-take_before.ensures.none)))

pub overflow_add-place : goal.overflow_add-place
overflow_add-place t c =
    let at = row_within c.rows.result.now c.in-Some.place.now c.in-Some-head.row c.in-Some-head.ensures.some in
    let few = c.rows.ensures.schedule.few in
    let long = ap (length {A = Row}) c.rows.ensures.rows in
    omega arith

pub merged_row-requires-clause-some : goal.merged_row-requires-clause-some
merged_row-requires-clause-some t c = (numbered_at c.rows.result.now c.in-Some.place.now c.in-Some-head.row
    c.in-Some-head.ensures.some (subst AllNumbered (sym c.rows.ensures.rows)
    (schedule_numbered _ c.rows.ensures.schedule))).0

pub merged_row-requires-clause-most : goal.merged_row-requires-clause-most
merged_row-requires-clause-most t c = (numbered_at c.rows.result.now c.in-Some.place.now c.in-Some-head.row
    c.in-Some-head.ensures.some (subst AllNumbered (sym c.rows.ensures.rows)
    (schedule_numbered _ c.rows.ensures.schedule))).1

pub returns-clause-some : goal.returns-clause-some
returns-clause-some t c =
    let sender = c.args.sender in
    let limit = c.args.limit in
    let rows = c.rows.result.now in
    let others = c.in-Some-split_first.others.now in
    let place = c.in-Some.place.now in
    let left = c.in-Some.other_places.now in
    let r = c.in-Some-head.row in
    let split : c.args.schedules.now ≡ c.in-Some-split_first.schedule.now ∷ others = search rules in
    let parts : c.args.schedules.now ≡ rows ∷ others = split ∙ ap (λ (l : List Row). l ∷ others)
    (sym c.rows.ensures.rows) in
    let places : c.args.places.now ≡ place ∷ left = search rules in
    let sorted = subst (Sorted row_moment) (sym c.rows.ensures.rows)
    (rises_sorted 0 _ (rises-in_order 1 0 _ c.rows.ensures.schedule.order)) in
    let is : c.limit_before-other_limit.result ≡ Some r.timed.moment = c.limit_before-other_limit.ensures
    ∙ ap (λ (h : Option Row). limit_before h limit) c.in-Some-head.is in
    ap (λ p. by_moment row_moment (left_from sender c.args.schedules.now p)) places
    ∙ ap (λ (s : List (List Row)). by_moment row_moment (left_from sender s (place ∷ left))) parts
    ∙ next_first sender place rows others left r sorted c.in-Some-head.ensures.some
    (subst (λ l. IsLate l (left_from (sender + 1) others left)) is c.in_default-take_before.ensures.none)
    ∙ ap (λ (s : List (List Row)). merged_row sender r ∷ by_moment row_moment (left_from sender s
    ((place + 1) ∷ left))) (sym parts)
    ∙ ap (λ p. merged_row sender r ∷ by_moment row_moment (left_from sender c.args.schedules.now ((place + 1) ∷ p)))
    (sym c.in_default-take_before.ensures.kept)
    ∙ ap (λ (x : Row). x ∷ by_moment row_moment (left_from sender c.args.schedules.now
    ((place + 1) ∷ c.take_before.new.places))) (sym c.merged_row.ensures)
