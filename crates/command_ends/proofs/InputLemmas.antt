-- Why a file isn't read.
use Rattle.std.proofs.Common.{◌≡◌, ℕ, ◌<◌, true, cond, nat_lt, List, Option, Some, None, Ok, Err, length, replicate}
use Rattle.std.proofs.Common.{refl, ap, ◌∙◌, rules, tests, arith}
use Rattle.std.proofs.lemmas.List.{length-replicate}
use Rattle.mm_base.specs.Counts.{Rose}
use Rattle.mm_base.specs.Disk.{DiskView, FailsReading}
use Rattle.mm_base.specs.Files.{Files, file, IsAbsent, IsThere, IfHeld}
use Rattle.mm_base.specs.declared.errors.DiskError.{DiskError}
use Rattle.mm_base.specs.declared.errors.DiskError.TheVariants as disk_errors
use Rattle.mm_base.specs.declared.errors.LoadError.{LoadError}
use Rattle.mm_base.specs.declared.errors.LoadError.TheVariants as load_errors
use Rattle.mm_base.proofs.FilesLemmas.{is_held}
use Rattle.command_ends.specs.Causes.{Text}
use Rattle.command_ends.specs.inside.Loads.{cause_of_disk, cause_of_load}
use Rattle.command_ends.specs.Readings.{Holds, input_of}
use Rattle.command_ends.specs.Stops.{StopsAtFile, FileRefused, FileFault, FileWants}
use Rattle.command_ends.specs.declared.cause.Limit.TheVariants.{File}
use Rattle.command_ends.specs.declared.cause.Refusal.TheVariants.{Absent, Limit}
use Rattle.command_ends.specs.declared.cause.Cause.TheVariants.{Refused}

absent_is : (name : Text) → input_of name None ≡ Err (Absent name)
unfolding input_of
absent_is name = refl

large_is : (name : Text) (bytes : List ℕ) → 67108864 < length bytes
    → input_of name (Some bytes) ≡ Err (Limit (File name))
unfolding input_of
large_is name bytes lt =
    let large : nat_lt 67108864 (length bytes) ≡ true = search (rules, tests) in
    ap (λ b. cond b (Err (Limit (File name))) (Ok bytes)) large

absent_stops : (name : Text) (old new : DiskView) → IsAbsent old.files name → Rose old.absences new.absences
    → StopsAtFile name old new (Refused (Absent name))
absent_stops name old new absent rose = FileRefused (Absent name) refl None absent (absent_is name) (λ missing e. rose)

none_some : (m : Files) → None ≡ Some m → ⊥
none_some m e = cc e

large_given : (told : Option Files) (name : Text) (size : ℕ) → 67108864 < size → IsThere told name
    → IfHeld told name (λ bytes. size ≡ length bytes)
    → (given : Option (List ℕ)) × Holds told name given × (input_of name given ≡ Err (Limit (File name)))
large_given None name size lt there held = (
  Some (replicate size 0),
  (λ m e. absurd (none_some m e)),
  large_is name (replicate size 0) (omega (arith, length-replicate {A = ℕ} size 0)),
)
large_given (Some m) name size lt there held =
    let h = is_held (file m name) (there m refl) in
    let long : size ≡ length h.0 = held m h.0 refl h.1 in
    (Some h.0, (λ n e. ap (λ k. file k name) (let same : n ≡ m = cc e in same) ∙ h.1), large_is name h.0 (omega arith))

large_stops : (name : Text) (old new : DiskView) (size : ℕ) → (67108864 < size) × IsThere old.files name
    × IfHeld old.files name (λ bytes. size ≡ length bytes)
    → StopsAtFile name old new (Refused (Limit (File name)))
large_stops name old new size long =
    let given = large_given old.files name size long.0 long.1 long.2 in
    FileRefused (Limit (File name)) refl given.0 given.1 given.2 (λ missing e. absurd (cc e))

pub disk_stops : (name : Text) (old new : DiskView) (error : DiskError)
    → (error ≡ disk_errors.Absent → IsAbsent old.files name)
    → (error ≡ disk_errors.Absent → Rose old.absences new.absences)
    → (error ≡ disk_errors.Failed → FailsReading name old new)
    → StopsAtFile name old new (cause_of_disk name error)
disk_stops name old new disk_errors.Absent absent lacks faults = absent_stops name old new (absent refl) (lacks refl)
disk_stops name old new disk_errors.Failed absent lacks faults = FileFault refl (faults refl)
disk_stops name old new disk_errors.OutOfMemory absent lacks faults = FileWants refl

pub load_stops : (name : Text) (old new : DiskView) (error : LoadError)
    → (error ≡ load_errors.Absent → IsAbsent old.files name)
    → (error ≡ load_errors.Absent → Rose old.absences new.absences)
    → (error ≡ load_errors.Failed → FailsReading name old new)
    → ((size : ℕ) → error ≡ load_errors.TooLong size → (67108864 < size) × IsThere old.files name
    × IfHeld old.files name (λ bytes. size ≡ length bytes))
    → StopsAtFile name old new (cause_of_load name error)
load_stops name old new load_errors.Absent absent lacks faults long = absent_stops name old new (absent refl)
    (lacks refl)
load_stops name old new load_errors.Failed absent lacks faults long = FileFault refl (faults refl)
load_stops name old new load_errors.OutOfMemory absent lacks faults long = FileWants refl
load_stops name old new (load_errors.TooLong size) absent lacks faults long =
    large_stops name old new size (long size refl)
