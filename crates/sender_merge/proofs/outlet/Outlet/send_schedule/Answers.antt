use Rattle.std.proofs.Common.{◌≡◌, ◌+◌, ◌∙◌, ◌++◌, ◌∷◌, ◌<◌, ℕ, [], get_or, length, List}
use Rattle.std.proofs.Common.{drop, take, subst, sym, ap, refl, arith}
use Rattle.std.proofs.Common.{◌≤◌, map}
use Rattle.std.proofs.lemmas.List.{drop_more, take_more}
use Rattle.packet_record.specs.Streams.{Stream}
use Rattle.packet_record.specs.declared.packet.Row.{Row}
use Rattle.packet_record.specs.declared.packet.Direction.TheVariants.{Up, Down}
use Rattle.packet_record.specs.Rows.{Rises}
use Rattle.packet_record.proofs.RowsLemmas.{rises-in_order}
use Rattle.shell_workers.specs.Sending.{SendsRow}
use Rattle.sender_merge.specs.Merges.{merged_row}
use Rattle.sender_merge.proofs.Sending.{all_on, items_on, none_yet, packets_on, rises_lower, schedule_numbered}
use Rattle.sender_merge.proofs.Sending.{take_whole}
use Rattle.sender_merge.specs.inside.RowMerges.{AllNumbered}
use Rattle.sender_merge.proofs.outlet.Outlet.send_schedule.Goals as goal

pub loop-row-init : goal.loop-row-init
loop-row-init g c =
    let rows = c.args.schedule.now in
    let is = c.rows-row-items.ensures.schedule in
    let up = c.requires.empty.0 in
    let down = c.requires.empty.1 in
    let none = c.new-sent.ensures in
    let rises : Rises 0 rows = rises-in_order 1 0 rows is.order in
    record {
      is_at = (
        (ap (λ (f : Stream). f.end) up.0, ap (λ (f : Stream). f.bound) up.0 ∙ sym none.0, up.2),
        (ap (λ (f : Stream). f.end) down.0, ap (λ (f : Stream). f.bound) down.0 ∙ sym none.1, down.2),
      );
      rises = (
        subst (λ (n : ℕ). Rises n rows) (sym none.0) rises,
        subst (λ (n : ℕ). Rises n rows) (sym none.1) rises,
      );
      numbered = schedule_numbered rows is;
      packets = (ap (λ (f : Stream). f.packets) up.0, ap (λ (f : Stream). f.packets) down.0);
      same = ((refl, refl), (refl, refl));
      up = none_yet Up c.args.horizon _ _ up.1 none.0;
      down = none_yet Down c.args.horizon _ _ down.1 none.1;
    }

pub loop-row-preserved : goal.loop-row-preserved
loop-row-preserved g c =
    let i = c.loop-row.invariant in
    let rows = c.args.schedule.now in
    let n = c.loop-row.row-index in
    let h = c.args.horizon in
    let row = c.row-item.result in
    let rest = drop (n + 1) rows in
    let old = c.loop-row in
    let new = c.source_row-sent.new in
    let now = c.source_row-sent.result in
    let sent = c.source_row-sent.ensures in
    let mine = c.merged_row-merged.ensures ∙ ap (merged_row c.args.sender) c.row.ensures in
    let same_rows = c.rows-row-items.ensures.rows in
    let lt : n < length rows = subst (λ (l : List Row). n < length l) same_rows c.loop-row-test.true in
    let at : row ≡ get_or rows n row = subst (λ (l : List Row). row ≡ get_or l n row) same_rows c.row-item.is in
    let split : drop n rows ≡ row ∷ rest = drop_more rows n row lt
    ∙ ap (λ (r : Row). r ∷ rest) (sym at) in
    let front : take (n + 1) rows ≡ take n rows ++ row ∷ [] = take_more rows n row lt
    ∙ ap (λ (r : Row). take n rows ++ r ∷ []) (sym at) in
    let up : Rises old.sent.up (row ∷ rest) = subst (Rises old.sent.up) split i.rises.0 in
    let down : Rises old.sent.down (row ∷ rest) = subst (Rises old.sent.down) split i.rises.1 in
    let numbered : AllNumbered (row ∷ rest) = subst AllNumbered split i.numbered in
    let moment = ap (λ (r : Row). r.timed.moment) mine in
    let went_up = subst (λ (r : Row). SendsRow Up h old.sent.up now.up r old.heads.up new.heads.up) mine sent.up in
    let went_down =
    subst (λ (r : Row). SendsRow Down h old.sent.down now.down r old.heads.down new.heads.down) mine sent.down in
    record {
      is_at = sent.at;
      rises = (
        rises_lower _ row.timed.moment rest (let le = went_up.1 in omega arith) up.1,
        rises_lower _ row.timed.moment rest (let le = went_down.1 in omega arith) down.1,
      );
      numbered = numbered.1;
      packets = (
        packets_on Up h c.args.sender (take n rows) row old.heads.up.flow.packets _ _ went_up.3 i.packets.0 front,
        packets_on Down h c.args.sender (take n rows) row old.heads.down.flow.packets _ _ went_down.3 i.packets.1
            front,
      );
      same = (
        (sent.same.0.0 ∙ i.same.0.0, sent.same.0.1 ∙ i.same.0.1),
        (sent.same.1.0 ∙ i.same.1.0, sent.same.1.1 ∙ i.same.1.1),
      );
      up = items_on Up h c.args.sender old.sent.up _ (take n rows) row old.heads.up.items _ _ went_up.2 went_up.0 i.up
          front;
      down = items_on Down h c.args.sender old.sent.down _ (take n rows) row old.heads.down.items _ _ went_down.2
          went_down.0 i.down front;
    }

pub returns-clause-items : goal.returns-clause-items
returns-clause-items g c =
    let rows = c.args.schedule.now in
    let n = c.loop-row.row-index in
    let i = c.loop-row.invariant in
    let past : length rows ≤ n = subst (λ (l : List Row). length l ≤ n) c.rows-row-items.ensures.rows
    c.loop-row-test.false in
    let whole = ap (map (merged_row c.args.sender)) (take_whole n rows past) in (
      all_on Up c.args.horizon _ _ _ _ _ i.up whole c.end_both.ensures.items.0,
      all_on Down c.args.horizon _ _ _ _ _ i.down whole c.end_both.ensures.items.1,
    )
