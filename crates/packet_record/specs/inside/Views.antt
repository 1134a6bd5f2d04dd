-- For proofs alone: a flow by its parts.
use Rattle.std.specs.Prelude.{◌≤◌, ◌+◌, vec_len, vec_capacity}
use Rattle.packet_record.specs.declared.flow.Flow.TheInside.{Inside}

abbrev pub HasRoom : Inside → Type 0
HasRoom f = vec_len f.packets + f.spare ≤ vec_capacity f.packets
