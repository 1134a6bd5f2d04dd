-- Files that are written one after another.
use Rattle.std.proofs.Common.{◌≡◌, inl, inr, ◌++◌, List, [], ◌∷◌, Option, subst, refl, ap, sym, ◌∙◌}
use Rattle.std.proofs.lemmas.List.{append_assoc}
use Rattle.mm_base.specs.Disk.{DiskView, OnlyWrites}
use Rattle.mm_base.specs.Files.{Files, holding}
use Rattle.mm_base.proofs.Then.{Rose-later}
use Rattle.command_ends.specs.Causes.{Text}
use Rattle.command_ends.specs.Outputs.{NamedText, HoldsSome, holding_all}
use Rattle.command_ends.specs.Stops.{StopsAtOutput, StopsWriting}
use Rattle.command_ends.specs.declared.cause.Cause.{Cause}

pub holding_all-append : (xs ys : List NamedText) (told : Option Files)
    → holding_all (xs ++ ys) told ≡ holding_all ys (holding_all xs told)
holding_all-append [] ys told = refl
holding_all-append (x ∷ xs) ys told = holding_all-append xs ys (holding x.name x.text told)

-- one file more is written
pub one_written : (xs : List NamedText) (next : NamedText) (told now after : Option Files) → now ≡ holding_all xs told
    → after ≡ holding next.name next.text now
    → after ≡ holding_all (xs ++ next ∷ []) told
one_written xs next told now after so_far step =
    step ∙ ap (holding next.name next.text) so_far ∙ sym (holding_all-append xs (next ∷ []) told)

-- a refusal is one since an earlier count
pub stops_since : (name : Text) (old mid new : DiskView) (cause : Cause) → OnlyWrites old mid
    → StopsAtOutput name mid new cause → StopsAtOutput name old new cause
stops_since name old mid new cause writes (inl e) = inl e
stops_since name old mid new cause writes (inr p) = inr (p.0, Rose-later _ _ _ writes.writes p.1)

-- writing stops at this file
pub stops_at_file : (all before rest : List NamedText) (next : NamedText) (old mid new : DiskView) (cause : Cause)
    → all ≡ before ++ next ∷ rest
    → mid.files ≡ holding_all before old.files → HoldsSome next mid.files new.files → OnlyWrites old mid
    → StopsAtOutput next.name mid new cause
    → StopsWriting all old new cause
stops_at_file all before rest next old mid new cause is so_far some writes refused = record {
  name = next.name;
  holds = record {
    whole = before;
    next = next;
    rest = rest;
    split = is;
    named = refl;
    written = subst (λ (whole : Option Files). HoldsSome next whole new.files) so_far some;
  };
  refused = stops_since next.name old mid new cause writes refused;
}

-- writing stops within the first of the files
pub stops_before : (xs ys : List NamedText) (old new : DiskView) (cause : Cause) → StopsWriting xs old new cause
    → StopsWriting (xs ++ ys) old new cause
stops_before xs ys old new cause s = record {
  name = s.name;
  holds = record {
    whole = s.holds.whole;
    next = s.holds.next;
    rest = s.holds.rest ++ ys;
    split = ap (λ l. l ++ ys) s.holds.split ∙ append_assoc s.holds.whole (s.holds.next ∷ s.holds.rest) ys;
    named = s.holds.named;
    written = s.holds.written;
  };
  refused = s.refused;
}
