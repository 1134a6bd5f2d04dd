use Rattle.std.proofs.Common.{◌+◌, ◌*◌}
use Rattle.replay_server.proofs.serving.+serve.Given as goal

abbrev pub decreases-serve_beside-join_mut+arg2 : goal.decreases-serve_beside-join_mut+arg2
decreases-serve_beside-join_mut+arg2 g l = 2 * l.most

abbrev pub decreases-serve_beside : goal.decreases-serve_beside
decreases-serve_beside g l = 2 * l.most + 1

abbrev pub decreases-serve_from : goal.decreases-serve_from
decreases-serve_from g l = 2 * l.most
