use Rattle.std.proofs.Common.{ap, sym}
use Rattle.nest_spec.specs.Words.{loss_rate}
use Rattle.nest_spec.proofs.Rates.{read_value, refused_value}
use Rattle.nest_spec.proofs.shell_reading.read_shell_rate.Goals as goal

pub returns-in-Ok : goal.returns-in-Ok
returns-in-Ok c = ap (loss_rate c.args.shell) (sym (read_value c.args.word.now c.in-Ok.rate c.in-Ok.ensures))

pub returns-in-Err : goal.returns-in-Err
returns-in-Err c = ap (loss_rate c.args.shell) (sym (refused_value c.args.word.now c.in-Err.fault c.in-Err.ensures))
