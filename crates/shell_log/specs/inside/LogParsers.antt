-- For proofs alone: what contracts see of a log that is read piece by piece.
use Rattle.std.specs.Prelude.{◌≡◌, ◌≤◌, ◌^◌, true, length}
use Rattle.text_base.specs.Lines.{is_one_line}
use Rattle.shell_log.specs.declared.parser.LogParser.TheInside.{Inside}

-- what is kept is of one line, and at most the longest that says something; lines can be counted
pub record CanRead (t : Inside) : Type 0 where
  pub one_line : is_one_line t.kept ≡ true
  pub short : length t.kept ≤ 34
  pub few : t.entries ≤ 2 ^ 63
