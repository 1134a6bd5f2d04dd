use Rattle.std.proofs.Common.{subst}
use Rattle.sender_merge.specs.Laws.{IsMergeFront}
use Rattle.sender_merge.proofs.Adding.{front}
use Rattle.sender_merge.proofs.merge_core.MergeCore.given.Goals as goal

pub returns-clause-front : goal.returns-clause-front
returns-clause-front c = subst IsMergeFront c.self.view_is (front _ c.self.invariant.stands)
