-- The actors of a world by number, in a world of `k` shells. The source is 0 and the collector `4 k + 1`. Shell `j`,
-- counted from 0 in passing order, has four: its feeder receives (`4 j + 1`) and feeds (`4 j + 2`), and its drain takes
-- (`4 j + 3`) and sends (`4 j + 4`).
use Rattle.std.specs.Prelude.{ℕ, zero, suc, ◌/◌, ◌%◌}
use Rattle.nest_core.specs.declared.actor.Actor.{Actor}
use Rattle.nest_core.specs.declared.actor.Actor.TheVariants.{Source, Receiver, Feeder, Taker, Sender}

-- The actor of `shell` by its kind: 0 receives, 1 feeds, 2 takes, 3 sends.
abbrev pub actor_at : ℕ → ℕ → Actor
actor_at zero shell = Receiver shell
actor_at (suc zero) shell = Feeder shell
actor_at (suc (suc zero)) shell = Taker shell
actor_at (suc (suc (suc n))) shell = Sender shell

-- The actor of a number. `Receiver` of the place past the last shell is the collector.
abbrev pub actor_of : ℕ → Actor
actor_of zero = Source
actor_of (suc n) = actor_at (n % 4) (n / 4)
