-- What a link is given where giving stops.
use Rattle.std.specs.Prelude.{◌≡◌, ◌<◌, ℕ, List, ◌++◌, length, Option}
use Rattle.std.specs.Option.{option_map}
use Rattle.mm_base.specs.Link.{LinkBytes, giving}

-- A front of these bytes was given, and not all of them.
pub record Breaks (old new : Option LinkBytes) (whole : List ℕ) : Type 0 where
  pub given : List ℕ
  pub more : List ℕ
  pub told : new ≡ option_map (giving given) old
  pub split : whole ≡ given ++ more
  pub some : 0 < length more
