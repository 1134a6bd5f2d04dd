-- The files of a merge, written one after another.
use Rattle.std.proofs.Common.{◌≡◌, ◌∙◌, List, [], ◌∷◌, ◌++◌, Option, Some, None, Result, Err, IfErr, OnOk, map, refl}
use Rattle.std.proofs.Common.{ap, subst}
use Rattle.std.specs.List.{flat_map}
use Rattle.mm_base.specs.Disk.{DiskView, OnlyWrites}
use Rattle.mm_base.specs.Files.{Files}
use Rattle.packet_record.specs.declared.packet.Row.{Row}
use Rattle.nest_spec.specs.Nests.{RunLists}
use Rattle.nest_spec.specs.TableText.{table_header, table_text}
use Rattle.nest_spec.specs.Walk.{NamedEntries}
use Rattle.nest_spec.specs.declared.fate.FateRow.{FateRow}
use Rattle.nest_spec.proofs.TableLemmas.{lines_through}
use Rattle.command_ends.specs.Causes.{Text}
use Rattle.command_ends.specs.Outputs.{NamedText, holding_all, named_text}
use Rattle.command_ends.specs.Stops.{StopsWriting}
use Rattle.command_ends.specs.declared.cause.Cause.{Cause}
use Rattle.command_ends.specs.declared.cause.Cause.TheVariants.{OutOfMemory}
use Rattle.nest_command.specs.RunFiles.{packet_files_by, log_file, packet_files}
use Rattle.nest_command.proofs.OutputLemmas.{packets_unwritten, run_stops, run_written}
use Rattle.command_merge.specs.FateLines.{merged_entry, merged_fate_line}
use Rattle.command_merge.specs.Merge.{merge_files}
use Rattle.command_merge.specs.declared.fate.SenderFate.{SenderFate}

-- the rows of fates with their senders
abbrev pub rows_of : List SenderFate → List FateRow
rows_of fates = map (λ (fate : SenderFate). fate.0) fates

-- the lines of the fates of senders
fate_lines : (fates : List SenderFate)
    → flat_map (λ (fate : SenderFate). merged_fate_line fate.0) fates ≡ flat_map merged_fate_line (rows_of fates)
fate_lines [] = refl
fate_lines (fate ∷ fates) = ap (λ l. merged_fate_line fate.0 ++ l) (fate_lines fates)

-- the files of packets, by the fates of senders
abbrev sender_files : Option Text → Text → List Row → List SenderFate → List NamedText
sender_files table out rows fates =
    packet_files_by (λ (row : Row). row) (λ (fate : SenderFate). merged_entry fate.0)
    (λ (fate : SenderFate). merged_fate_line fate.0) table out rows fates

same_files : (table : Option Text) (out : Text) (rows : List Row) (fates : List SenderFate)
    → sender_files table out rows fates ≡ packet_files merged_entry merged_fate_line table out rows (rows_of fates)
same_files None out rows fates = ap (λ l. named_text out l ∷ []) (fate_lines fates)
same_files (Some name) out rows fates =
    ap (λ l. named_text name (table_header ++ l)
    ∷ named_text out (flat_map (λ (fate : SenderFate). merged_fate_line fate.0) fates) ∷ [])
    (lines_through (λ (row : Row). row) merged_entry (λ (fate : SenderFate). fate.0) rows fates)
    ∙ ap (λ l. named_text name (table_text merged_entry rows (rows_of fates)) ∷ named_text out l ∷ [])
    (fate_lines fates)

pub merge_written : (result : Result (Unit {0}) Cause) (run : RunLists) (logs : List NamedEntries)
    (fates : List SenderFate) (table : Option Text) (out : Text) (rows : List Row) (told now after : Option Files)
    → logs ≡ run.logs → rows_of fates ≡ run.fates → now ≡ holding_all (map log_file logs) told
    → OnOk result (after ≡ holding_all (sender_files table out rows fates) now)
    → OnOk result (after ≡ holding_all (merge_files table out rows run) told)
merge_written result run logs fates table out rows told now after logs_are fates_are so_far ok =
    run_written merged_entry merged_fate_line result run logs (rows_of fates) table out rows told now after logs_are
    fates_are so_far
    (subst (λ (l : List NamedText). OnOk result (after ≡ holding_all l now)) (same_files table out rows fates) ok)

pub merge_stops : (result : Result (Unit {0}) Cause) (run : RunLists) (logs : List NamedEntries)
    (fates : List SenderFate) (table : Option Text) (out : Text) (rows : List Row) (old mid new : DiskView)
    → logs ≡ run.logs → rows_of fates ≡ run.fates → mid.files ≡ holding_all (map log_file logs) old.files
    → OnlyWrites old mid
    → IfErr result (λ cause. StopsWriting (sender_files table out rows fates) mid new cause)
    → IfErr result (λ cause. StopsWriting (merge_files table out rows run) old new cause)
merge_stops result run logs fates table out rows old mid new logs_are fates_are so_far writes stopped =
    run_stops merged_entry merged_fate_line result run logs (rows_of fates) table out rows old mid new logs_are
    fates_are so_far writes
    (subst (λ (l : List NamedText). IfErr result (λ cause. StopsWriting l mid new cause))
    (same_files table out rows fates) stopped)

-- out of memory for the fates
pub unwritten_stop : (run : RunLists) (logs : List NamedEntries) (fates : List FateRow) (table : Option Text)
    (out : Text) (rows : List Row) (old mid : DiskView) (cause : Cause) → logs ≡ run.logs → fates ≡ run.fates
    → mid.files ≡ holding_all (map log_file logs) old.files → OnlyWrites old mid → cause ≡ OutOfMemory
    → StopsWriting (merge_files table out rows run) old mid cause
unwritten_stop run logs fates table out rows old mid cause logs_are fates_are so_far writes is =
    run_stops merged_entry merged_fate_line (Err cause) run logs fates table out rows old mid mid logs_are fates_are
    so_far writes (packets_unwritten merged_entry merged_fate_line table out rows fates mid cause is)
