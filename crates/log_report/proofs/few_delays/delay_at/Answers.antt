use Rattle.std.proofs.Common.{sym}
use Rattle.log_report.proofs.RankLaws.{ranked_sorted}
use Rattle.log_report.proofs.few_delays.delay_at.Goals as goal

pub returns : goal.returns
returns c = λ delays perm is. sym
    (ranked_sorted delays c.args.sorted.now c.args.rank perm is c.requires.some c.requires.within)
