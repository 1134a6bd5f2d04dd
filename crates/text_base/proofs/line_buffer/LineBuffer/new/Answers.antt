use Rattle.std.proofs.Common.{arith}
use Rattle.std.proofs.lemmas.List.{drop_all}
use Rattle.text_base.specs.declared.limits.TheConstants.{BUFFER_BYTES}
use Rattle.text_base.proofs.line_buffer.LineBuffer.new.Goals as goal

pub returns : goal.returns
returns c = drop_all BUFFER_BYTES c.in_ok-vec.field-0.items (omega (arith, c.in_ok-vec.ensures.len))
