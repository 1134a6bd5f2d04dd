-- The two worlds of a run, and the steps that an order of bytes names in them.
use Rattle.std.specs.Prelude.{◌≡◌, ℕ, zero, suc, ◌+◌, ◌-◌, ◌%◌, List, [], ◌∷◌, map, nat_lt, if◌then◌else◌}
use Rattle.std.specs.List.{range_with_len}
use Rattle.packet_record.specs.declared.packet.Row.{Row}
use Rattle.packet_record.specs.declared.packet.Direction.{Direction}
use Rattle.packet_record.specs.declared.packet.Direction.TheVariants.{Up, Down}
use Rattle.packet_record.specs.Sources.{source_items}
use Rattle.nest_spec.specs.Nests.{NestParts, directions_of}
use Rattle.nest_core.specs.Worlds.{WorldParts, new_world}
use Rattle.nest_core.specs.WorldSteps.{actors_of, step_of}
use Rattle.nest_core.specs.Promises.{IsRunOf, IsFinished, IsQuiet, KeepsFirst}
use Rattle.nest_core.specs.Left.{left_of}

-- The worlds of both directions.
pub record WorldPair : Type 0 where
  pub up : WorldParts
  pub down : WorldParts

-- The pair of `up` and `down`.
abbrev pub pair : WorldParts → WorldParts → WorldPair
pair up down = record { up = up; down = down }

-- The world of a direction before its first step. Its channels hold 2 items.
abbrev pub first_world : Direction → NestParts → List Row → WorldParts
first_world d nest rows = new_world (directions_of d nest) nest.horizon 2 (source_items d nest.horizon rows)

-- Both worlds before the first step.
abbrev pub first_worlds : NestParts → List Row → WorldPair
first_worlds nest rows = pair (first_world Up nest rows) (first_world Down nest rows)

-- How many numbers name an actor of either world: `8 k + 4` for `k` shells.
abbrev pub numbers_of : WorldPair → ℕ
numbers_of w = actors_of w.up + actors_of w.down

-- The worlds after the step `number`. The first numbers are the actors of the up world; from the others the count of
-- the first is taken, and they are the actors of the down world.
unfoldable pub numbered_step : WorldPair → ℕ → WorldPair
numbered_step w number =
    if nat_lt number (actors_of w.up) then pair (step_of w.up number) w.down
    else pair w.up (step_of w.down (number - actors_of w.up))

-- The worlds after the steps of `numbers`, one after the other.
abbrev pub after_steps : WorldPair → List ℕ → WorldPair
after_steps w [] = w
after_steps w (number ∷ numbers) = after_steps (numbered_step w number) numbers

-- The worlds after the steps that the bytes of an order name. A byte names the step of its value modulo `numbers_of`.
abbrev pub after_order : WorldPair → List ℕ → WorldPair
after_order w order = after_steps w (map (λ b. b % numbers_of w) order)

-- The worlds after one step of each number, from 0 on.
abbrev pub after_round : WorldPair → WorldPair
after_round w = after_steps w (range_with_len 0 (numbers_of w))

-- The worlds after some rounds, each of one step of each number.
abbrev pub after_rounds : ℕ → WorldPair → WorldPair
after_rounds zero w = w
after_rounds (suc n) w = after_rounds n (after_round w)

-- Both worlds are finished.
abbrev pub AreFinished : WorldPair → Type 0
AreFinished w = IsFinished w.up × IsFinished w.down

-- Some number of rounds leads from the worlds `first` to the worlds `last`, which are finished.
pub record EndsRounds (first last : WorldPair) : Type 0 where
  pub rounds : ℕ
  pub is : last ≡ after_rounds rounds first
  pub finished : AreFinished last

-- The worlds are those of a nest at which `rows` enter.
pub record AreRunsOf (nest : NestParts) (rows : List Row) (w : WorldPair) : Type 0 where
  pub up : IsRunOf nest Up rows w.up
  pub down : IsRunOf nest Down rows w.down

-- In both directions the packets that enter and what the shells do stay as they were, and so does the count of numbers.
pub record BothKeep (old new : WorldPair) : Type 0 where
  pub up : KeepsFirst old.up new.up
  pub down : KeepsFirst old.down new.down
  pub numbers : numbers_of new ≡ numbers_of old

-- How much is left to do in both worlds.
abbrev pub both_left : WorldPair → ℕ
both_left w = left_of w.up + left_of w.down

-- No step would change either world.
abbrev pub AreQuiet : WorldPair → Type 0
AreQuiet w = IsQuiet w.up × IsQuiet w.down
