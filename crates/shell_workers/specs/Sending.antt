-- How far a source has come in each direction, and what a row makes it send.
use Rattle.std.specs.Prelude.{◌≡◌, ◌≤◌, ◌++◌, ◌∷◌, ℕ, [], option_to_list}
use Rattle.packet_record.specs.declared.both.Both.{Both}
use Rattle.packet_record.specs.declared.item.FlowEnd.TheVariants.{Open}
use Rattle.packet_record.specs.declared.packet.Direction.{Direction}
use Rattle.packet_record.specs.declared.packet.Row.{Row}
use Rattle.packet_record.specs.Rows.{entering}
use Rattle.packet_record.specs.Sources.{sent_after, source_item}
use Rattle.packet_record.specs.Streams.{no_items}
use Rattle.mark_channel.specs.Ends.{End}
use Rattle.shell_workers.specs.declared.sourcing.Progress.{Progress}

-- A source that sends up to `horizon` may go on here, where `sent` is the greatest moment sent.
abbrev pub IsAt : ℕ → ℕ → End → Type 0
IsAt horizon sent to = (to.flow.end ≡ Open) × (to.flow.bound ≡ sent) × (to.horizon ≡ horizon)

-- The source has come this far in both directions.
abbrev pub AreAt : ℕ → Progress → Both End → Type 0
AreAt horizon sent heads = IsAt horizon sent.up heads.up × IsAt horizon sent.down heads.down

-- Nothing was sent yet, and what is sent is up to `horizon`.
abbrev pub IsUnsent : ℕ → End → Type 0
IsUnsent horizon to = (to.flow ≡ no_items) × (to.items ≡ []) × (to.horizon ≡ horizon)

-- From `old` to `new` what `row` gives in direction `d` was sent. The greatest moment sent is `sent` before, and `next`
-- after it.
abbrev pub SendsRow : Direction → ℕ → ℕ → ℕ → Row → End → End → Type 0
SendsRow d horizon sent next row old new = (next ≡ sent_after sent row (source_item d horizon sent row))
    × (next ≤ row.timed.moment)
    × (new.items ≡ old.items ++ option_to_list (source_item d horizon sent row))
    × (new.flow.packets ≡ old.flow.packets ++ entering d horizon (row ∷ []))
