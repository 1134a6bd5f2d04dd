-- Beside Stamped, for proofs alone: what a relay makes of the datagrams that it received, by its turns: the rows, and
-- how many were refused.
use Rattle.std.specs.Prelude.{ℕ, Option}
use Rattle.live_relay.specs.Wires.{Datagram}
use Rattle.live_relay.specs.Stamped.{Turn}

abbrev pub turn : ℕ → Option Datagram → Turn
turn moment answer = record { moment = moment; answer = answer }
