-- What is given to a link, and what is gathered before it is given.
use Rattle.std.specs.Prelude.{◌≡◌, ℕ, List, ◌++◌, Option}
use Rattle.std.specs.Option.{option_map}
use Rattle.mm_base.specs.Link.{LinkBytes, giving}
use Rattle.replay_server.specs.Sessions.{IsFront}

-- Bytes were given, and with those that are gathered now they are those that were gathered and the piece.
pub record Pours (old new : Option LinkBytes) (gathered gathered' piece : List ℕ) : Type 0 where
  pub poured : List ℕ
  pub told : new ≡ option_map (giving poured) old
  pub all : gathered ++ piece ≡ poured ++ gathered'

-- A front of these bytes was given, and nothing else.
pub record Spills (old new : Option LinkBytes) (whole : List ℕ) : Type 0 where
  pub poured : List ℕ
  pub told : new ≡ option_map (giving poured) old
  pub front : IsFront poured whole
