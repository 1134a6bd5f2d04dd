-- One more entry.
use Rattle.std.proofs.Common.{ℕ, ◌≤◌, ◌++◌, List, [], ◌∷◌, arith}
use Rattle.shell_log.specs.declared.entry.Entry.{Entry}
use Rattle.shell_log.specs.Entries.{moment_of, IsEntry, AreUpTo, AreFrom, IsLog}

pub from_push : (m : ℕ) (es : List Entry) (e : Entry) → AreFrom m es → m ≤ moment_of e → AreFrom m (es ++ e ∷ [])
from_push m [] e a le = (le, tt)
from_push m (d ∷ es) e a le = (a.0, from_push m es e a.1 le)

pub log_push : (es : List Entry) (e : Entry) → IsLog es → IsEntry e → AreUpTo (moment_of e) es → IsLog (es ++ e ∷ [])
log_push [] e l i a = (i, tt, tt)
log_push (d ∷ es) e l i a = (l.0, from_push (moment_of d) es e l.1 a.0, log_push es e l.2 i a.1)

pub up_to_append : (m : ℕ) (xs ys : List Entry) → AreUpTo m xs → AreUpTo m ys → AreUpTo m (xs ++ ys)
up_to_append m [] ys a b = b
up_to_append m (x ∷ xs) ys a b = (a.0, up_to_append m xs ys a.1 b)

pub up_to_push : (m : ℕ) (es : List Entry) (e : Entry) → AreUpTo m es → moment_of e ≤ m → AreUpTo m (es ++ e ∷ [])
up_to_push m es e a le = up_to_append m es (e ∷ []) a (le, tt)

pub latest_push : (es : List Entry) (e : Entry) → AreUpTo (moment_of e) es → AreUpTo (moment_of e) (es ++ e ∷ [])
latest_push es e a = up_to_append (moment_of e) es (e ∷ []) a (omega arith, tt)
