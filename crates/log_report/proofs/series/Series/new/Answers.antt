use Rattle.std.proofs.Common.{sym, subst, arith}
use Rattle.shell_log.specs.Entries.{IsLog}
use Rattle.log_report.proofs.BinLaws.{from_first}
use Rattle.log_report.proofs.series.Series.new.Goals as goal

pub invariant_of-result : goal.invariant_of-result
invariant_of-result c =
    let most = c.if-rest-gt-MOST_ENTRIES.false in
    record {
      some = c.requires.some;
      most = c.requires.most;
      begins = omega arith;
      near = omega arith;
      log = subst IsLog (sym c.entries-rest.ensures.entries) c.entries-rest.ensures.order;
      few = omega arith;
      later = from_first c.args.every c.entries-rest.result.now;
    }
