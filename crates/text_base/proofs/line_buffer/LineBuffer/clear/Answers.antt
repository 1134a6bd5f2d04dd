use Rattle.std.proofs.Common.{arith}
use Rattle.std.proofs.lemmas.List.{drop_all}
use Rattle.text_base.proofs.line_buffer.LineBuffer.clear.Goals as goal

pub returns : goal.returns
returns c = drop_all 147456 c.self.inside.bytes.items (omega arith)
