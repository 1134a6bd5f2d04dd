use Rattle.std.proofs.Common.{◌≤◌, take, length}
use Rattle.http_header.specs.HeaderMap.{value_count}
use Rattle.http_frame.specs.inside.Fields.{AreWithin, HasFields}
use Rattle.http_frame.proofs.fields.read_fields.Given as goal

abbrev pub invariant-loop-header : goal.invariant-loop-header
invariant-loop-header l = record {
  names : length l.fields ≤ l.header-index;
  count : value_count l.fields ≤ l.header-index;
  within : AreWithin l.front l.fields;
  values : HasFields l.front (take l.header-index l.headers) l.fields;
}
