-- How a feeding ends, as a worker.
use Rattle.mark_channel.specs.declared.feeds.FeedEnd.{FeedEnd}
use Rattle.mark_channel.specs.declared.feeds.FeedEnd.TheVariants as feed_ends
use Rattle.shell_workers.specs.declared.ends.WorkEnd.{WorkEnd}
use Rattle.shell_workers.specs.declared.ends.WorkEnd.TheVariants.{Ended, OutOfMemory}

-- the end of a feeding as that of a worker
abbrev pub end_of_feed : FeedEnd → WorkEnd
end_of_feed feed_ends.Ended = Ended
end_of_feed feed_ends.OutOfMemory = OutOfMemory
