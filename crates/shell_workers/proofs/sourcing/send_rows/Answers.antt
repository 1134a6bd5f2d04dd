use Rattle.std.proofs.Common.{◌≡◌, ◌+◌, ◌∙◌, ◌++◌, ◌∷◌, [], drop, get_or, take, subst, sym, ap, arith}
use Rattle.std.proofs.lemmas.List.{drop_more, take_all, take_more}
use Rattle.packet_record.specs.declared.packet.Direction.TheVariants.{Up, Down}
use Rattle.packet_record.specs.declared.packet.Row.{Row}
use Rattle.packet_record.specs.Rows.{Rises}
use Rattle.shell_workers.specs.inside.Sent.{HasSent}
use Rattle.shell_workers.proofs.Sending.{Rises-from, row_on}
use Rattle.shell_workers.proofs.sourcing.send_rows.Goals as goal

pub loop-row-preserved : goal.loop-row-preserved
loop-row-preserved g c =
    let i = c.loop-row.invariant in
    let rows = c.args.rows.now in
    let n = c.loop-row.row-index in
    let h = c.args.horizon in
    let item = c.row-item.result in
    let row = c.row.result in
    let is : get_or rows n item ≡ row = sym c.row-item.is ∙ sym c.row.ensures in
    let rest = drop (n + 1) rows in
    let sent = c.source_row-sent.ensures in
    let split : drop n rows ≡ row ∷ rest = drop_more rows n item c.loop-row-test.true
    ∙ ap (λ (r : Row). r ∷ rest) is in
    let front : take (n + 1) rows ≡ take n rows ++ row ∷ [] = take_more rows n item c.loop-row-test.true
    ∙ ap (λ (r : Row). take n rows ++ r ∷ []) is in
    let up : Rises c.loop-row.sent.up (row ∷ rest) = subst (Rises c.loop-row.sent.up) split i.rises.0 in
    let down : Rises c.loop-row.sent.down (row ∷ rest) = subst (Rises c.loop-row.sent.down) split i.rises.1 in
    record {
      is_at = sent.at;
      rises = (Rises-from _ _ rest sent.up.1 up.1, Rises-from _ _ rest sent.down.1 down.1);
      up = row_on Up h _ _ _ (take n rows) (take (n + 1) rows) row _ _ _ front i.up sent.up;
      down = row_on Down h _ _ _ (take n rows) (take (n + 1) rows) row _ _ _ front i.down sent.down;
      same = (
        (sent.same.0.0 ∙ i.same.0.0, sent.same.0.1 ∙ i.same.0.1),
        (sent.same.1.0 ∙ i.same.1.0, sent.same.1.1 ∙ i.same.1.1),
      );
    }

pub returns-clause-sent : goal.returns-clause-sent
returns-clause-sent g c =
    let rows = c.args.rows.now in
    let n = c.loop-row.row-index in
    let h = c.args.horizon in
    let whole = take_all n rows (omega (arith, c.loop-row-test.false)) in (
      (λ first before has. subst (λ l. HasSent Up h first (before ++ l) c.loop-row.sent.up c.loop-row.heads.up) whole
          (c.loop-row.invariant.up first before has)),
      (λ first before has. subst (λ l. HasSent Down h first (before ++ l) c.loop-row.sent.down c.loop-row.heads.down)
          whole (c.loop-row.invariant.down first before has)),
    )
