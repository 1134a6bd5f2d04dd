-- What a link in memory holds after a read.
use Rattle.std.proofs.Common.{◌≡◌, ℕ, ◌+◌, ◌++◌, List, take, drop, ap, sym, ◌∙◌}
use Rattle.std.proofs.lemmas.List.{drop-drop}
use Rattle.mm_base.specs.declared.read_start.ReadStart.{ReadStart}
use Rattle.mm_base.specs.Link.{LinkBytes, moved}
use Rattle.mm_base.proofs.ListPieces.{take-append-take}

abbrev pub bytes_at : List ℕ → ℕ → List ℕ → List ReadStart → LinkBytes
bytes_at input at given reads = record { taken = take at input; rest = drop at input; given = given; reads = reads }

-- `n` bytes further on, the bytes are those after the move.
pub moved-bytes_at : (input : List ℕ) (at n : ℕ) (given : List ℕ) (reads : List ReadStart) (before : LinkBytes)
    → bytes_at input at given reads ≡ before → bytes_at input (at + n) given reads ≡ moved n before
moved-bytes_at input at n given reads before is =
    let with_parts : List ℕ → List ℕ → LinkBytes
    = λ taken rest. record { taken = taken; rest = rest; given = given; reads = reads } in
    ap (λ taken. with_parts taken (drop (at + n) input)) (sym (take-append-take input at n))
    ∙ ap (λ rest. with_parts (take at input ++ take n (drop at input)) rest) (sym (drop-drop n at input))
    ∙ ap (moved n) is
