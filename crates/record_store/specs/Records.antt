-- What a record is.
use Rattle.std.specs.Prelude.{◌≤◌}
use Rattle.http_frame.specs.Runs.{IsRequestOf, IsResponseOf}
use Rattle.record_store.specs.declared.record.Record.{Record}

-- A whole request and a whole response to it, with what their heads say, and a port. The response's status is 200 or
-- more.
pub record IsRecord (r : Record) : Type 0 where
  pub port : r.port ≤ 65535
  pub request : IsRequestOf r.request
  pub response : IsResponseOf r.request.head.head_only r.response
  pub final : 200 ≤ r.response.head.status
