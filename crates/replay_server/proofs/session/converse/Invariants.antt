use Rattle.std.proofs.Common.{◌<◌, length}
use Rattle.mm_base.specs.Link.{CountsLinkFaults}
use Rattle.replay_server.specs.inside.Progress.{Progress, to_do}
use Rattle.replay_server.proofs.session.converse.Given as goal

abbrev pub invariant-steps : goal.invariant-steps
invariant-steps g l = record {
  progress : Progress l.server.source.store.now l.server.source.index.port (g.L.Link.view l.fn.link).told
      (g.L.Link.view l.link).told l.state;
  counts : CountsLinkFaults (g.L.Link.view l.fn.link) (g.L.Link.view l.link);
  room : 0 < length l.buf;
}

abbrev pub decreases-steps : goal.decreases-steps
decreases-steps g l = to_do l.state
