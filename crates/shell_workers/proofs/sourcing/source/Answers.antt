use Rattle.std.proofs.Common.{◌≡◌, ◌+◌, ◌∙◌, ◌++◌, ◌∷◌, ℕ, [], drop, take, subst, sym, ap, refl, arith}
use Rattle.std.proofs.lemmas.List.{drop_more, take_all, take_more}
use Rattle.packet_record.specs.Streams.{Stream}
use Rattle.packet_record.specs.declared.packet.Direction.TheVariants.{Up, Down}
use Rattle.packet_record.specs.declared.packet.Row.{Row}
use Rattle.packet_record.specs.Rows.{Rises}
use Rattle.shell_workers.specs.inside.Sent.{HasSent}
use Rattle.shell_workers.proofs.Sending.{Rises-from, all_sent, none_sent, row_on, same_sent}
use Rattle.shell_workers.proofs.sourcing.source.Goals as goal

pub loop-row-init : goal.loop-row-init
loop-row-init g c =
    let h = c.args.horizon in
    let up = c.requires.empty.0 in
    let down = c.requires.empty.1 in
    let rows = c.args.rows.now in
    let no_up = sym c.new-sent.ensures.0 in
    let no_down = sym c.new-sent.ensures.1 in
    record {
      is_at = (
        (ap (λ (f : Stream). f.end) up, ap (λ (f : Stream). f.bound) up ∙ no_up, c.requires.horizon.0),
        (ap (λ (f : Stream). f.end) down, ap (λ (f : Stream). f.bound) down ∙ no_down, c.requires.horizon.1),
      );
      rises = (
        subst (λ (n : ℕ). Rises n rows) no_up c.requires.rises,
        subst (λ (n : ℕ). Rises n rows) no_down c.requires.rises,
      );
      up_on = λ first before has. subst (λ (n : ℕ). HasSent Up h first (before ++ []) n c.args.up.now) no_up
          (same_sent Up h 0 first before _ has);
      down_on = λ first before has. subst (λ (n : ℕ). HasSent Down h first (before ++ []) n c.args.down.now) no_down
          (same_sent Down h 0 first before _ has);
      same = ((refl, refl), (refl, refl));
    }

pub loop-row-preserved : goal.loop-row-preserved
loop-row-preserved g c =
    let i = c.loop-row.invariant in
    let rows = c.args.rows.now in
    let n = c.loop-row.row-index in
    let h = c.args.horizon in
    let row = c.row-item.result in
    let rest = drop (n + 1) rows in
    let sent = c.send_both-sent.ensures in
    let split : drop n rows ≡ row ∷ rest = drop_more rows n row c.loop-row-test.true
    ∙ ap (λ (r : Row). r ∷ rest) (sym c.row-item.is) in
    let front : take (n + 1) rows ≡ take n rows ++ row ∷ [] = take_more rows n row c.loop-row-test.true
    ∙ ap (λ (r : Row). take n rows ++ r ∷ []) (sym c.row-item.is) in
    let up : Rises c.loop-row.sent.up (row ∷ rest) = subst (Rises c.loop-row.sent.up) split i.rises.0 in
    let down : Rises c.loop-row.sent.down (row ∷ rest) = subst (Rises c.loop-row.sent.down) split i.rises.1 in
    record {
      is_at = sent.at;
      rises = (Rises-from _ _ rest sent.up.1 up.1, Rises-from _ _ rest sent.down.1 down.1);
      up_on = row_on Up h _ _ _ (take n rows) (take (n + 1) rows) row _ _ _ front i.up_on sent.up;
      down_on = row_on Down h _ _ _ (take n rows) (take (n + 1) rows) row _ _ _ front i.down_on sent.down;
      same = (
        (sent.same.0.0 ∙ i.same.0.0, sent.same.0.1 ∙ i.same.0.1),
        (sent.same.1.0 ∙ i.same.1.0, sent.same.1.1 ∙ i.same.1.1),
      );
    }

pub returns-clause-up : goal.returns-clause-up
returns-clause-up g c =
    let rows = c.args.rows.now in
    let h = c.args.horizon in
    let to = c.args.up.now in
    let whole = take_all c.loop-row.row-index rows (omega (arith, c.loop-row-test.false)) in
    let has = subst (λ l. HasSent Up h to.items l c.loop-row.sent.up c.loop-row.up) whole
    (c.loop-row.invariant.up_on _ [] (none_sent Up h to c.requires.empty.0)) in
    all_sent Up h _ _ rows _ _ has c.send.ensures.items

pub returns-clause-down : goal.returns-clause-down
returns-clause-down g c =
    let rows = c.args.rows.now in
    let h = c.args.horizon in
    let to = c.args.down.now in
    let whole = take_all c.loop-row.row-index rows (omega (arith, c.loop-row-test.false)) in
    let has = subst (λ l. HasSent Down h to.items l c.loop-row.sent.down c.loop-row.down) whole
    (c.loop-row.invariant.down_on _ [] (none_sent Down h to c.requires.empty.1)) in
    all_sent Down h _ _ rows _ _ has c.send-2.ensures.items

pub returns-clause-up_flow : goal.returns-clause-up_flow
returns-clause-up_flow g c =
    let rows = c.args.rows.now in
    let h = c.args.horizon in
    let to = c.args.up.now in
    let whole = take_all c.loop-row.row-index rows (omega (arith, c.loop-row-test.false)) in
    let has = subst (λ l. HasSent Up h to.items l c.loop-row.sent.up c.loop-row.up) whole
    (c.loop-row.invariant.up_on _ [] (none_sent Up h to c.requires.empty.0)) in
    (ap (λ (f : Stream). f.packets) c.send.ensures.flow ∙ has.packets, ap (λ (f : Stream). f.end) c.send.ensures.flow)

pub returns-clause-down_flow : goal.returns-clause-down_flow
returns-clause-down_flow g c =
    let rows = c.args.rows.now in
    let h = c.args.horizon in
    let to = c.args.down.now in
    let whole = take_all c.loop-row.row-index rows (omega (arith, c.loop-row-test.false)) in
    let has = subst (λ l. HasSent Down h to.items l c.loop-row.sent.down c.loop-row.down) whole
    (c.loop-row.invariant.down_on _ [] (none_sent Down h to c.requires.empty.1)) in (
      ap (λ (f : Stream). f.packets) c.send-2.ensures.flow ∙ has.packets,
      ap (λ (f : Stream). f.end) c.send-2.ensures.flow,
    )
