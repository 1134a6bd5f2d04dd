use Rattle.std.proofs.Common.{rules}
use Rattle.record_proxy.proofs.serving.serve_client.Goals as goal

pub returns-clause-one : goal.returns-clause-one
returns-clause-one g c = search rules
