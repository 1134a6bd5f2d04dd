-- When each kept packet departs, packet by packet.
use Rattle.std.specs.Prelude.{ℕ, ◌+◌, List, [], ◌∷◌, Option, Some, None, nat_le, if◌then◌else◌}
use Rattle.packet_record.specs.declared.packet.Timed.{Timed}
use Rattle.packet_record.specs.Packets.{moved_to}
use Rattle.trace_reader.specs.declared.opportunity.Opportunity.{Opportunity}
use Rattle.link_core.specs.inside.Back.{sent}

abbrev pub or_then : Option ℕ → Option ℕ → Option ℕ
or_then None o = o
or_then (Some m) o = Some m

-- the moment of the first of these opportunities, the latest of which stands first, with which at least `n` bytes
-- are sent
abbrev pub moment_sent : List Timed → List Opportunity → ℕ → Option ℕ
moment_sent kept [] n = None
moment_sent kept (o ∷ earlier) n = or_then (moment_sent kept earlier n) (if nat_le n (sent kept (o ∷ earlier))
    then Some o.moment else None)

abbrev pub onto_some : Option ℕ → Timed → List Timed → List Timed
onto_some None t ts = ts
onto_some (Some m) t ts = moved_to m t ∷ ts

-- each packet at the first moment with which it and all before it are sent; those without one are departed out
abbrev pub departing : List Timed → List Opportunity → ℕ → List Timed → List Timed
departing kept opps before [] = []
departing kept opps before (t ∷ ts) = onto_some (moment_sent kept opps (before + t.packet.size)) t
    (departing kept opps (before + t.packet.size) ts)
