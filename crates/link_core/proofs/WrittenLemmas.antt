-- What a link keeps of entries.
use Rattle.std.proofs.Common.{◌≡◌, ℕ, ◌++◌, Bool, true, false, List, refl}
use Rattle.shell_log.specs.declared.entry.Entry.{Entry}
use Rattle.shell_log.specs.Entries.{AreUpTo}
use Rattle.link_core.specs.inside.Written.{written}

pub written_append : (kept : Bool) (xs ys : List Entry) → written kept (xs ++ ys) ≡ written kept xs ++ written kept ys
written_append true xs ys = refl
written_append false xs ys = refl

pub written_up_to : (m : ℕ) (kept : Bool) (es : List Entry) → AreUpTo m es → AreUpTo m (written kept es)
written_up_to m true es a = a
written_up_to m false es a = tt
