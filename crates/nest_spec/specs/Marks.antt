-- A marking: the rows of a run, and their fates so far. Fates are marked shell by shell as the packets pass. Fates that
-- are marked so through a whole walk are those of the walk, which is proved.
use Rattle.std.specs.Prelude.{ℕ, ◌==◌, List, if◌then◌else◌}
use Rattle.std.specs.List.{list_any}
use Rattle.std.specs.Option.{option_map_or}
use Rattle.packet_record.specs.declared.packet.Timed.{Timed}
use Rattle.packet_record.specs.declared.packet.Row.{Row}
use Rattle.nest_spec.specs.declared.fate.Fate.{Fate}
use Rattle.nest_spec.specs.declared.fate.Fate.TheVariants as fates
use Rattle.nest_spec.specs.declared.fate.FateRow.{FateRow}
use Rattle.nest_spec.specs.declared.mark.Mark.{Mark}
use Rattle.nest_spec.specs.declared.mark.Mark.TheVariants.{Drops, Leaves}
use Rattle.nest_spec.specs.Fates.{find_id}

-- The rows, and a fate for each.
pub record Marks : Type 0 where
  pub rows : List Row
  pub fates : List FateRow

-- The marking of `rows` and `fates`.
abbrev pub marks : List Row → List FateRow → Marks
marks rows fates = record { rows = rows; fates = fates }

-- The fate of a packet that is marked: dropped by a shell, or departed from the last shell.
abbrev pub mark_fate : Mark → Timed → Fate
mark_fate (Drops shell) t = fates.Dropped shell t.moment
mark_fate Leaves t = fates.Departed t.moment

-- The fates `f`, where the rows of `packets` have the fate of `mark`.
abbrev pub marked : List Timed → Mark → (Row → Fate) → Row → Fate
marked packets mark f row = option_map_or (mark_fate mark) (find_id row.timed.packet.id packets) (f row)

-- The fates `f`, where the rows whose numbers are in `ids` are inside `shell`.
abbrev pub held_in : List ℕ → ℕ → (Row → Fate) → Row → Fate
held_in ids shell f row = if list_any (λ id. id == row.timed.packet.id) ids then fates.Inside shell else f row

-- The fates `f` once packets have passed the shell `number`: it dropped `lost`, and the packets numbered in `held` are
-- still inside it.
abbrev pub passed : ℕ → List Timed → List ℕ → (Row → Fate) → Row → Fate
passed number lost held f = marked lost (Drops number) (held_in held number f)
