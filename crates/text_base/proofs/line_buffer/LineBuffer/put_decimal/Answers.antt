use Rattle.std.proofs.Common.{◌≡◌, ◌≤◌, ◌++◌, ℕ, List, length, take, drop, decimal, arith, ap, ◌∙◌, length-append}
use Rattle.std.proofs.Common.{length-drop}
use Rattle.std.proofs.Math.Seq.{take-append_seam}
use Rattle.std.proofs.lemmas.Fmt.{length-decimal-le}
use Rattle.text_base.proofs.line_buffer.LineBuffer.put_decimal.Goals as goal

-- the bytes of a list that were all written anew
anew : (n : ℕ) (buf rest : List ℕ) → n ≡ length buf → take n (buf ++ rest) ≡ buf
anew n buf rest e = ap (λ k. take k (buf ++ rest)) e ∙ take-append_seam buf rest

pub write_digits-self-inside-requires : goal.write_digits-self-inside-requires
write_digits-self-inside-requires c =
    let short : length (decimal c.args.n) ≤ 20 = length-decimal-le 20 c.args.n (omega arith) (omega arith)
    (omega arith) in
    (omega (arith, ap length c.self.view_is, length-drop c.self.inside.start c.self.inside.bytes.items), omega arith)

pub returns-clause-length : goal.returns-clause-length
returns-clause-length c =
    let short : length (decimal c.args.n) ≤ 20 = length-decimal-le 20 c.args.n (omega arith) (omega arith)
    (omega arith) in
    let buf = c.write_digits-self-inside.new.buf in
    let all = anew c.self.inside.bytes.len buf (drop (length buf) c.self.inside.bytes.items) (omega arith) in
    omega (
      arith,
      ap length c.self.view_is,
      ap length c.write_digits-self-inside.ensures.written,
      length-append {A = ℕ},
      ap (λ l. length (drop c.write_digits-self-inside.result l)) all,
      ap (λ l. length (drop c.self.inside.start l)) c.as_mut_slice.ensures.value,
    )

pub returns-clause-short : goal.returns-clause-short
returns-clause-short c = λ few.
    let short : length (decimal c.args.n) ≤ 10 = length-decimal-le 10 c.args.n (omega arith) few (omega arith) in
    let buf = c.write_digits-self-inside.new.buf in
    let all = anew c.self.inside.bytes.len buf (drop (length buf) c.self.inside.bytes.items) (omega arith) in
    omega (
      arith,
      ap length c.self.view_is,
      ap length c.write_digits-self-inside.ensures.written,
      length-append {A = ℕ},
      ap (λ l. length (drop c.write_digits-self-inside.result l)) all,
      ap (λ l. length (drop c.self.inside.start l)) c.as_mut_slice.ensures.value,
    )
