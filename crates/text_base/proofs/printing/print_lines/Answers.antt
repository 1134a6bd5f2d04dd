use Rattle.std.proofs.Common.{rules}
use Rattle.text_base.proofs.printing.print_lines.Goals as goal

pub pieces-init : goal.pieces-init
pieces-init g c = search rules
