use Rattle.std.proofs.Common.{◌≡◌, map, length}
use Rattle.std.specs.List.{All, list_any}
use Rattle.std.specs.Prelude.{codes}
use Rattle.httparse.specs.Spans.{span_bytes, IsWithin}
use Rattle.http_header.specs.HeaderMap.{get_all}
use Rattle.http_frame.specs.Fields.{names_close}
use Rattle.http_frame.proofs.fields.asks_close.Given as goal

abbrev pub invariant-loop-span : goal.invariant-loop-span
invariant-loop-span l = record {
  within : All (IsWithin (length l.front)) l.span-iterator;
  same : list_any names_close (map (span_bytes l.front) l.span-iterator)
      ≡ list_any names_close (map (span_bytes l.front) (get_all l.fields (codes "connection")));
}
