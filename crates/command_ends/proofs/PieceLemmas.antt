-- An input that was read in pieces.
use Rattle.std.proofs.Common.{ℕ, List, Option, Some, ap, sym, ◌∙◌}
use Rattle.mm_base.specs.Files.{Files, file}
use Rattle.mm_base.proofs.FilesLemmas.{is_held}
use Rattle.mm_base.specs.inside.Pieces.{WholeIsRead}
use Rattle.command_ends.specs.Causes.{Text}
use Rattle.command_ends.specs.Stops.{InputIsRead}

-- a file of these bytes is an input
pub whole_input : {R : Type 0} (has_read : List ℕ → R → Type 0) (told : Option Files) (name : Text) (old new : R)
    → WholeIsRead has_read told name old new → InputIsRead has_read told name old new
whole_input has_read told name old new whole = record {
  bytes = whole.bytes;
  input = record {
    held = λ m t.
        let there = is_held (file m name) (whole.there m t) in
        there.1 ∙ ap Some (sym (whole.held m there.0 t there.1));
    few = whole.few;
  };
  goes_on = whole.goes_on;
}
