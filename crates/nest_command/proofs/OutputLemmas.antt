-- The files of a run, written one after another.
use Rattle.std.proofs.Common.{◌≡◌, false, true, ℕ, ◌++◌, List, [], ◌∷◌, Option, Result, Ok, Err, ◌↔◌, IsOk, OnOk, OnErr}
use Rattle.std.specs.List.{flat_map}
use Rattle.std.proofs.Common.{Some, None, inl, ◌+◌, ◌<◌, IfErr, map, length, take, drop, get_or, subst, refl, ap, sym, ◌∙◌}
use Rattle.std.proofs.lemmas.List.{append_assoc, take_more, drop_more, take-append-drop}
use Rattle.mm_base.specs.Disk.{DiskView, OnlyWrites}
use Rattle.mm_base.specs.Files.{Files, holding}
use Rattle.mm_base.specs.declared.errors.DiskError.{DiskError}
use Rattle.shell_log.specs.LogText.{log_text}
use Rattle.packet_record.specs.declared.packet.Row.{Row}
use Rattle.nest_spec.specs.Nests.{RunLists}
use Rattle.nest_spec.specs.TableText.{table_text}
use Rattle.nest_spec.specs.declared.fate.FateRow.{FateRow}
use Rattle.nest_spec.specs.declared.table_text.TableEntry.{TableEntry}
use Rattle.nest_spec.specs.Walk.{NamedEntries}
use Rattle.command_ends.specs.Causes.{Text}
use Rattle.command_ends.specs.Outputs.{NamedText, holding_all, named_text, HoldsSome}
use Rattle.command_ends.specs.Stops.{StopsAtOutput, StopsWriting}
use Rattle.command_ends.specs.declared.cause.Cause.{Cause}
use Rattle.command_ends.specs.declared.cause.Cause.TheVariants.{OutOfMemory}
use Rattle.command_ends.proofs.OutputLemmas.{holding_all-append, one_written, stops_at_file, stops_since}
use Rattle.nest_command.specs.RunFiles.{log_file, packet_files}

-- the files of logs; `f` gives the name and the entries of each
abbrev pub files_by : {A : Type 0} → (A → NamedEntries) → List A → List NamedText
files_by f logs = map log_file (map f logs)

files_by-append : {A : Type 0} (f : A → NamedEntries) (logs more : List A)
    → files_by f (logs ++ more) ≡ files_by f logs ++ files_by f more
files_by-append f [] more = refl
files_by-append f (log ∷ logs) more = ap (λ l. log_file (f log) ∷ l) (files_by-append f logs more)

-- one log more is written
pub log_written : {A : Type 0} (f : A → NamedEntries) (logs : List A) (log : A) (told now after : Option Files)
    → now ≡ holding_all (files_by f logs) told
    → after ≡ holding (f log).name (log_text (f log).entries) now
    → after ≡ holding_all (files_by f (logs ++ log ∷ [])) told
log_written f logs log told now after so_far step =
    one_written (files_by f logs) (log_file (f log)) told now after so_far step
    ∙ ap (λ l. holding_all l told) (sym (files_by-append f logs (log ∷ [])))

-- writing stops at a log
pub stops_at_log : {A : Type 0} (f : A → NamedEntries) (all logs rest : List A) (log : A) (old mid new : DiskView)
    (cause : Cause) → all ≡ logs ++ log ∷ rest
    → mid.files ≡ holding_all (files_by f logs) old.files → HoldsSome (log_file (f log)) mid.files new.files
    → OnlyWrites old mid → StopsAtOutput (f log).name mid new cause
    → StopsWriting (files_by f all) old new cause
stops_at_log f all logs rest log old mid new cause is so_far some writes refused =
    stops_at_file (files_by f all) (files_by f logs) (files_by f rest) (log_file (f log)) old mid new cause
    (ap (files_by f) is ∙ files_by-append f logs (log ∷ rest)) so_far some writes refused

-- the log at index `i` is written
pub next_written : {A : Type 0} (f : A → NamedEntries) (logs : List A) (i : ℕ) (log : A)
    (told now after : Option Files) → i < length logs → log ≡ get_or logs i log
    → now ≡ holding_all (files_by f (take i logs)) told
    → after ≡ holding (f log).name (log_text (f log).entries) now
    → after ≡ holding_all (files_by f (take (i + 1) logs)) told
next_written f logs i log told now after lt read so_far step =
    log_written f (take i logs) log told now after so_far step
    ∙ ap (λ l. holding_all (files_by f l) told)
    (ap (λ x. take i logs ++ x ∷ []) read ∙ sym (take_more logs i log lt))

pub stops_at_next : {A : Type 0} (f : A → NamedEntries) (logs : List A) (i : ℕ) (log : A) (old mid new : DiskView)
    (cause : Cause) → i < length logs → log ≡ get_or logs i log
    → mid.files ≡ holding_all (files_by f (take i logs)) old.files → HoldsSome (log_file (f log)) mid.files new.files
    → OnlyWrites old mid → StopsAtOutput (f log).name mid new cause
    → StopsWriting (files_by f logs) old new cause
stops_at_next f logs i log old mid new cause lt read so_far some writes refused =
    let split : logs ≡ take i logs ++ log ∷ drop (i + 1) logs =
    sym (take-append-drop i logs)
    ∙ ap (λ l. take i logs ++ l) (drop_more logs i log lt ∙ ap (λ x. x ∷ drop (i + 1) logs) (sym read)) in
    stops_at_log f logs (take i logs) (drop (i + 1) logs) log old mid new cause split so_far some writes refused

-- further files are written, after the first
pub rest_written : (result : Result (Unit {0}) Cause) (first rest : List NamedText) (told now after : Option Files)
    → now ≡ holding_all first told → OnOk result (after ≡ holding_all rest now)
    → OnOk result (after ≡ holding_all (first ++ rest) told)
rest_written (Ok done) first rest told now after so_far ok =
    ok ∙ ap (holding_all rest) so_far ∙ sym (holding_all-append first rest told)
rest_written (Err r) first rest told now after so_far ok = tt

-- writing stops at a further file
stops_at_rest : (first rest : List NamedText) (old mid new : DiskView) (cause : Cause)
    → mid.files ≡ holding_all first old.files → OnlyWrites old mid → StopsWriting rest mid new cause
    → StopsWriting (first ++ rest) old new cause
stops_at_rest first rest old mid new cause so_far writes s =
    let held = s.holds in
    record {
      name = s.name;
      holds = record {
        whole = first ++ held.whole;
        next = held.next;
        rest = held.rest;
        split = ap (λ l. first ++ l) held.split ∙ sym (append_assoc first held.whole (held.next ∷ held.rest));
        named = held.named;
        written = subst (λ (whole : Option Files). HoldsSome held.next whole new.files)
            (ap (holding_all held.whole) so_far ∙ sym (holding_all-append first held.whole old.files)) held.written;
      };
      refused = stops_since s.name old mid new cause writes s.refused;
    }

pub rest_stops : (result : Result (Unit {0}) Cause) (first rest : List NamedText) (old mid new : DiskView)
    → mid.files ≡ holding_all first old.files → OnlyWrites old mid
    → IfErr result (λ cause. StopsWriting rest mid new cause)
    → IfErr result (λ cause. StopsWriting (first ++ rest) old new cause)
rest_stops (Ok done) first rest old mid new so_far writes stopped = tt
rest_stops (Err cause) first rest old mid new so_far writes stopped =
    stops_at_rest first rest old mid new cause so_far writes stopped

-- one file is written, or writing stops at it
pub file_written : (result : Result (Unit {0}) Cause) (entry : NamedText) (told after : Option Files)
    → OnOk result (after ≡ holding entry.name entry.text told) → OnOk result (after ≡ holding_all (entry ∷ []) told)
file_written (Ok done) entry told after ok = ok
file_written (Err r) entry told after ok = tt

pub file_stops : (result : Result (Unit {0}) Cause) (entry : NamedText) (old new : DiskView)
    → OnErr result (HoldsSome entry old.files new.files)
    → IfErr result (λ cause. StopsAtOutput entry.name old new cause)
    → IfErr result (λ cause. StopsWriting (entry ∷ []) old new cause)
file_stops (Ok done) entry old new some stopped = tt
file_stops (Err cause) entry old new some stopped = record {
  name = entry.name;
  holds = record { whole = []; next = entry; rest = []; split = refl; named = refl; written = some };
  refused = stopped;
}

-- the files of a run
abbrev files_with : (FateRow → TableEntry) → (FateRow → List ℕ) → Option Text → Text → List Row → RunLists → List NamedText
files_with entry line table out rows run = map log_file run.logs ++ packet_files entry line table out rows run.fates

-- the files of a run are written, where those of its logs are; `entry` and `line` tell a packet in its table and in its
-- fates
pub run_written : (entry : FateRow → TableEntry) (line : FateRow → List ℕ)
    (result : Result (Unit {0}) Cause) (run : RunLists) (logs : List NamedEntries)
    (fates : List FateRow) (table : Option Text) (out : Text) (rows : List Row) (told now after : Option Files)
    → logs ≡ run.logs → fates ≡ run.fates → now ≡ holding_all (map log_file logs) told
    → OnOk result (after ≡ holding_all (packet_files entry line table out rows fates) now)
    → OnOk result (after ≡ holding_all (files_with entry line table out rows run) told)
run_written entry line result run logs fates table out rows told now after logs_are fates_are so_far ok =
    let last = packet_files entry line table out rows fates in
    let same : map log_file logs ++ last ≡ files_with entry line table out rows run = λ j. map log_file (logs_are j)
    ++ packet_files entry line table out rows (fates_are j) in
    subst (λ (l : List NamedText). OnOk result (after ≡ holding_all l told)) same
    (rest_written result (map log_file logs) last told now after so_far ok)

pub run_stops : (entry : FateRow → TableEntry) (line : FateRow → List ℕ)
    (result : Result (Unit {0}) Cause) (run : RunLists) (logs : List NamedEntries)
    (fates : List FateRow) (table : Option Text) (out : Text) (rows : List Row) (old mid new : DiskView)
    → logs ≡ run.logs → fates ≡ run.fates → mid.files ≡ holding_all (map log_file logs) old.files
    → OnlyWrites old mid
    → IfErr result (λ cause. StopsWriting (packet_files entry line table out rows fates) mid new cause)
    → IfErr result (λ cause. StopsWriting (files_with entry line table out rows run) old new cause)
run_stops entry line result run logs fates table out rows old mid new logs_are fates_are so_far writes stopped =
    let last = packet_files entry line table out rows fates in
    let same : map log_file logs ++ last ≡ files_with entry line table out rows run = λ j. map log_file (logs_are j)
    ++ packet_files entry line table out rows (fates_are j) in
    subst (λ (l : List NamedText). IfErr result (λ cause. StopsWriting l old new cause)) same
    (rest_stops result (map log_file logs) last old mid new so_far writes stopped)

-- no file of packets is written, for lack of memory
pub packets_unwritten : (entry : FateRow → TableEntry) (line : FateRow → List ℕ) (table : Option Text) (out : Text)
    (rows : List Row) (fates : List FateRow) (disk : DiskView) (cause : Cause) → cause ≡ OutOfMemory
    → StopsWriting (packet_files entry line table out rows fates) disk disk cause
packets_unwritten entry line None out rows fates disk cause is = record {
  name = out;
  holds = record {
    whole = [];
    next = named_text out (flat_map line fates);
    rest = [];
    split = refl;
    named = refl;
    written = inl refl;
  };
  refused = inl is;
}
packets_unwritten entry line (Some name) out rows fates disk cause is = record {
  name = name;
  holds = record {
    whole = [];
    next = named_text name (table_text entry rows fates);
    rest = named_text out (flat_map line fates) ∷ [];
    split = refl;
    named = refl;
    written = inl refl;
  };
  refused = inl is;
}

-- what an error of the disk leaves, the cause that is returned for it leaves too
pub same_answer : (P : Type 0) (answer : Result (Unit {0}) DiskError) (result : Result (Unit {0}) Cause) → IsOk result
    ↔ IsOk answer → OnErr answer P → OnErr result P
same_answer P (Ok a) (Ok b) same holds = tt
same_answer P (Ok a) (Err r) same holds = let ok : IsOk {T = Unit {0}} {E = DiskError} (Ok a) = refl
    in let no : false ≡ true = same.1 ok in absurd (cc no)
same_answer P (Err e) (Ok b) same holds = tt
same_answer P (Err e) (Err r) same holds = holds
