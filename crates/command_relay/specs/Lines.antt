-- The line that a relay prints.
use Rattle.std.specs.Prelude.{ℕ, List, ◌++◌, codes, decimal, length}
use Rattle.live_relay.specs.declared.outcome.RelayEnd.{RelayEnd}
use Rattle.live_relay.specs.declared.outcome.RelayEnd.TheVariants.{Horizon, Turns, User}
use Rattle.live_relay.specs.declared.outcome.RelayResult.{RelayResult}

abbrev pub end_words : RelayEnd → List ℕ
end_words Horizon = codes " end horizon\n"
end_words Turns = codes " end turns\n"
end_words User = codes " end horizon\n"

-- `packets N refused R end horizon`, or `end turns`. A user's end moves the horizon to its moment.
abbrev pub relay_line : RelayResult → List ℕ
relay_line r =
    (((codes "packets " ++ decimal (length r.rows)) ++ codes " refused ") ++ decimal r.refused) ++ end_words r.end
