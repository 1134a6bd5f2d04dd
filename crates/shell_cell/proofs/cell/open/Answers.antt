use Rattle.std.proofs.Common.{rules}
use Rattle.shell_cell.proofs.Calls.{parts_of}
use Rattle.shell_cell.proofs.cell.open.Goals as goal

pub split_seat-drain-requires : goal.split_seat-drain-requires
split_seat-drain-requires c = (search rules, search rules, parts_of _ _ _ _ c.in-Ok.ensures.ok.4)
