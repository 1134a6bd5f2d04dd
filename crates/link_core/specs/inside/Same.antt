-- What stays of a link, whatever is done with its parts.
use Rattle.std.specs.Prelude.{◌≡◌}
use Rattle.link_core.specs.declared.parts.Parts.{Parts}

-- the same opportunities, a queue of the same kind, and a log or none as before
pub record IsSameLink (old new : Parts) : Type 0 where
  pub opportunities : new.opportunities ≡ old.opportunities
  pub spec : new.buffer.queue.spec ≡ old.buffer.queue.spec
  pub logged : new.log.kept ≡ old.log.kept
