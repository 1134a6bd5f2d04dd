-- What a source has sent before the end.
use Rattle.std.specs.Prelude.{◌≡◌, ◌++◌, ℕ, List, []}
use Rattle.packet_record.specs.declared.both.Both.{Both}
use Rattle.packet_record.specs.declared.item.Item.{Item}
use Rattle.packet_record.specs.declared.packet.Direction.{Direction}
use Rattle.packet_record.specs.declared.packet.Direction.TheVariants.{Up, Down}
use Rattle.packet_record.specs.declared.packet.Row.{Row}
use Rattle.packet_record.specs.Rows.{Rises, entering}
use Rattle.packet_record.specs.Sources.{items_from, source_items}
use Rattle.mark_channel.specs.Ends.{End}
use Rattle.shell_workers.specs.declared.sourcing.Progress.{Progress}

-- Behind the items `first`, `to` has sent what `rows` give up to the horizon; `sent` is the greatest moment of it.
-- Whatever rows follow, they give what is still to be sent, and no moment of theirs is below `sent`.
pub record HasSent (d : Direction) (horizon : ℕ) (first : List Item) (rows : List Row) (sent : ℕ) (to : End)
    : Type 0 where
  pub packets : to.flow.packets ≡ entering d horizon rows
  pub items : (more : List Row)
      → to.items ++ items_from d horizon sent more ≡ first ++ source_items d horizon (rows ++ more)
  pub rises : (more : List Row) → Rises 0 (rows ++ more) → Rises sent more

-- What `rows` give was sent in both directions, and nothing before it.
abbrev pub HaveSent : ℕ → List Row → Progress → Both End → Type 0
HaveSent horizon rows sent heads = HasSent Up horizon [] rows sent.up heads.up
    × HasSent Down horizon [] rows sent.down heads.down

-- Where the rows `before` had been sent at `old`, `rows` were sent behind them at `new`.
abbrev pub SendsOn : Direction → ℕ → List Row → ℕ → ℕ → End → End → Type 0
SendsOn d horizon rows sent next old new = (first : List Item) (before : List Row)
    → HasSent d horizon first before sent old → HasSent d horizon first (before ++ rows) next new
