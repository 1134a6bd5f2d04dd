use Rattle.std.proofs.Common.{◌≡◌, ◌<◌, ◌+◌, ◌-◌, ◌++◌, ◌∙◌, ap, arith, drop, length, sym}
use Rattle.std.proofs.lemmas.List.{drop_all}
use Rattle.packet_record.specs.declared.packet.Row.{Row}
use Rattle.nest_spec.specs.TableText.{table_line, table_lines}
use Rattle.nest_spec.specs.declared.table_text.TableEntry.{TableEntry}
use Rattle.nest_spec.proofs.TableLemmas.{lines_from}
use Rattle.nest_spec.proofs.table_text.put_table.Goals as goal

pub lines-init : goal.lines-init
lines-init g c = record {
  so_far = c.clear.ensures
      ∙ ap (λ l. table_lines g.P.TableRow.row_of g.F.TableFate.entry_of l (drop (length c.args.rows.now) c.args.fates.now))
      (sym (drop_all (length c.args.rows.now) c.args.rows.now (omega arith)));
  rows = omega arith;
  fates = omega (arith, c.requires.same);
  room = omega (arith, c.requires.few, ap length c.clear.ensures);
}

pub lines-preserved : goal.lines-preserved
lines-preserved g c =
    let row = g.P.TableRow.row_of in
    let entry = g.F.TableFate.entry_of in
    let left = c.lines.left - 1 in
    let in_rows : left < length c.args.rows.now = omega arith in
    let in_fates : left < length c.args.fates.now = omega arith in
    let back : c.lines.left ≡ left + 1 = omega arith in
    record {
      so_far = c.put_line.ensures.bytes
          ∙ ap (λ (r : Row). table_line r c.table_entry-entry.result ++ c.lines.lines) c.table_row-row.ensures
          ∙ ap (λ (e : TableEntry). table_line (row c.index-rows-left.result) e ++ c.lines.lines)
          c.table_entry-entry.ensures
          ∙ ap (λ l. table_line (row c.index-rows-left.result) (entry c.index-fates-left.result) ++ l)
          (c.lines.invariant.so_far
          ∙ ap (λ n. table_lines row entry (drop n c.args.rows.now) (drop n c.args.fates.now)) back)
          ∙ sym (lines_from row entry left c.args.rows.now c.args.fates.now c.index-rows-left.result
          c.index-fates-left.result in_rows in_fates c.index-rows-left.is c.index-fates-left.is);
      rows = omega arith;
      fates = omega arith;
      room = omega (arith, c.put_line.ensures.length, c.lines.invariant.room);
    }
