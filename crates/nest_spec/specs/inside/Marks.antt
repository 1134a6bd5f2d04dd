-- For proofs alone: fates that are marked through a whole walk.
use Rattle.std.specs.Prelude.{ℕ, ◌==◌, List, [], ◌∷◌, map, if◌then◌else◌}
use Rattle.packet_record.specs.declared.packet.Timed.{Timed}
use Rattle.packet_record.specs.declared.packet.Row.{Row}
use Rattle.nest_spec.specs.declared.fate.Fate.{Fate}
use Rattle.nest_spec.specs.declared.mark.Mark.TheVariants.{Leaves}
use Rattle.nest_spec.specs.declared.shell.ShellDirection.{ShellDirection}
use Rattle.nest_spec.specs.Walk.{Step, walk, last_list}
use Rattle.nest_spec.specs.Marks.{marked, passed}

-- The fates `f`, where the rows of the number `id` have `fate`.
abbrev pub put : ℕ → Fate → (Row → Fate) → Row → Fate
put id fate f row = if id == row.timed.packet.id then fate else f row

-- The numbers of packets.
abbrev pub ids_of : List Timed → List ℕ
ids_of packets = map (λ (t : Timed). t.packet.id) packets

-- The fates `f` once packets have passed the shells of a walk, and `departed` have departed from the last.
abbrev pub walked : List Step → List Timed → (Row → Fate) → Row → Fate
walked [] departed f = marked departed Leaves f
walked (s ∷ steps) departed f = walked steps departed (passed s.number s.lost (ids_of s.inside) f)

-- The fates `f` once `arrived` have passed `shells`.
abbrev pub marked_through : ℕ → List ShellDirection → List Timed → (Row → Fate) → Row → Fate
marked_through h shells arrived f = walked (walk h shells arrived) (last_list arrived (walk h shells arrived)) f
