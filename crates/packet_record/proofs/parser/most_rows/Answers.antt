use Rattle.std.proofs.Common.{rules}
use Rattle.packet_record.proofs.parser.most_rows.Goals as goal

pub overflow_add-bytes : goal.overflow_add-bytes
overflow_add-bytes c = search rules

pub returns-clause-most : goal.returns-clause-most
returns-clause-most c = search rules
