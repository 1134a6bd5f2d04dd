-- For proofs alone: what a take may give.
use Rattle.std.specs.Prelude.{ℕ}
use Rattle.packet_record.specs.Streams.{Stream, MayFollow, IsUpTo}
use Rattle.shell_state.specs.declared.taken.Taken.{Taken}
use Rattle.shell_state.specs.declared.taken.Taken.TheVariants.{Item as Gives, Again, NotYet}

-- An item that is given may follow the stream, and is within the horizon.
abbrev pub MayGive : Stream → ℕ → Taken → Type 0
MayGive flow horizon (Gives item) = MayFollow flow item × IsUpTo horizon item
MayGive flow horizon (Again burnt) = Unit {0}
MayGive flow horizon (NotYet bound) = Unit {0}
