-- The files of a relay, written one after another.
use Rattle.std.proofs.Common.{◌≡◌, ◌∙◌, List, [], ◌∷◌, ◌++◌, Option, Result, Ok, Err, IsErrAnd, IfErr, OnErr, OnOk}
use Rattle.std.proofs.Common.{ap, map, subst, sym}
use Rattle.std.specs.List.{flat_map}
use Rattle.mm_base.specs.Disk.{DiskView, OnlyWrites}
use Rattle.mm_base.specs.Files.{Files, holding}
use Rattle.packet_record.specs.Printing.{schedule_text}
use Rattle.packet_record.specs.declared.packet.Row.{Row}
use Rattle.nest_spec.specs.FateTexts.{fate_line}
use Rattle.nest_spec.specs.TableText.{run_entry, table_text}
use Rattle.nest_spec.specs.Walk.{NamedEntries}
use Rattle.nest_spec.specs.declared.fate.FateRow.{FateRow}
use Rattle.live_relay.specs.declared.outcome.RelayResult.{RelayResult}
use Rattle.command_ends.specs.Outputs.{HoldsSome, NamedText, holding_all, named_text}
use Rattle.command_ends.specs.Stops.{StopsAtOutput, StopsWriting}
use Rattle.command_ends.specs.declared.cause.Cause.{Cause}
use Rattle.command_ends.proofs.OutputLemmas.{holding_all-append, stops_before}
use Rattle.nest_command.specs.RunFiles.{file_if, log_file}
use Rattle.nest_command.proofs.OutputLemmas.{file_stops, file_written, rest_stops, rest_written}
use Rattle.command_relay.specs.Jobs.{RelayJob}
use Rattle.command_relay.specs.Relaying.{relay_files}

-- what holds of a cause holds of the error that `?` hands on
pub handed : {T : Type 0} (P : Cause → Type 0) (cause : Cause) (result : Result T Cause)
    → IsErrAnd result (λ error. error ≡ cause) → P cause → IfErr result P
handed P cause (Ok value) none holds = absurd none
handed P cause (Err error) same holds = subst P (sym same) holds

-- further files are written
more_written : (first next : List NamedText) (told now after : Option Files) → now ≡ holding_all first told
    → after ≡ holding_all next now → after ≡ holding_all (first ++ next) told
more_written first next told now after so_far step =
    step ∙ ap (holding_all next) so_far ∙ sym (holding_all-append first next told)

-- writing stops at further files, before `rest`
stops_among : (first next rest : List NamedText) (old mid new : DiskView) (cause : Cause)
    → mid.files ≡ holding_all first old.files → OnlyWrites old mid → StopsWriting next mid new cause
    → StopsWriting ((first ++ next) ++ rest) old new cause
stops_among first next rest old mid new cause so_far writes stopped =
    stops_before (first ++ next) rest old new cause
    (rest_stops (Err cause) first next old mid new so_far writes stopped)

module _ (job : RelayJob) (r : RelayResult) (logs : List NamedEntries) (rows : List Row) (fates : List FateRow)
    (logs_are : logs ≡ r.run.logs) (rows_are : rows ≡ r.rows) (fates_are : fates ≡ r.run.fates) where
  abbrev log_files : List NamedText
  log_files = map log_file logs

  abbrev table_file : List NamedText
  table_file = file_if job.table (table_text run_entry rows fates)

  abbrev schedule_file : List NamedText
  schedule_file = file_if job.schedule_out (schedule_text rows)

  abbrev fates_file : NamedText
  fates_file = named_text job.out (flat_map fate_line fates)

  same : ((log_files ++ table_file) ++ schedule_file) ++ fates_file ∷ [] ≡ relay_files job r
  same = λ j. map log_file (logs_are j) ++ file_if job.table (table_text run_entry (rows_are j) (fates_are j))
      ++ file_if job.schedule_out (schedule_text (rows_are j))
      ++ named_text job.out (flat_map fate_line (fates_are j)) ∷ []

  -- all files are written
  pub relay_written : (result : Result (Unit {0}) Cause) (told one two three after : Option Files)
      → one ≡ holding_all log_files told → two ≡ holding_all table_file one → three ≡ holding_all schedule_file two
      → OnOk result (after ≡ holding fates_file.name fates_file.text three)
      → OnOk result (after ≡ holding_all (relay_files job r) told)
  relay_written result told one two three after wrote_logs wrote_table wrote_schedule ok =
      subst (λ (l : List NamedText). OnOk result (after ≡ holding_all l told)) same
      (rest_written result ((log_files ++ table_file) ++ schedule_file) (fates_file ∷ []) told three after
      (more_written (log_files ++ table_file) schedule_file told two three
      (more_written log_files table_file told one two wrote_logs wrote_table) wrote_schedule)
      (file_written result fates_file three after ok))

  -- writing stops at a log
  pub stops_at_logs : (old new : DiskView) (cause : Cause) → StopsWriting log_files old new cause
      → StopsWriting (relay_files job r) old new cause
  stops_at_logs old new cause stopped =
      subst (λ (l : List NamedText). StopsWriting l old new cause) same
      (stops_before ((log_files ++ table_file) ++ schedule_file) (fates_file ∷ []) old new cause
      (stops_before (log_files ++ table_file) schedule_file old new cause
      (stops_before log_files table_file old new cause stopped)))

  -- at the table
  pub stops_at_table : (old one new : DiskView) (cause : Cause) → one.files ≡ holding_all log_files old.files
      → OnlyWrites old one → StopsWriting table_file one new cause → StopsWriting (relay_files job r) old new cause
  stops_at_table old one new cause wrote_logs writes stopped =
      subst (λ (l : List NamedText). StopsWriting l old new cause) same
      (stops_before ((log_files ++ table_file) ++ schedule_file) (fates_file ∷ []) old new cause
      (stops_among log_files table_file schedule_file old one new cause wrote_logs writes stopped))

  -- at the schedule
  pub stops_at_schedule : (old one two new : DiskView) (cause : Cause) → one.files ≡ holding_all log_files old.files
      → two.files ≡ holding_all table_file one.files → OnlyWrites old two → StopsWriting schedule_file two new cause
      → StopsWriting (relay_files job r) old new cause
  stops_at_schedule old one two new cause wrote_logs wrote_table writes stopped =
      subst (λ (l : List NamedText). StopsWriting l old new cause) same
      (stops_among (log_files ++ table_file) schedule_file (fates_file ∷ []) old two new cause
      (more_written log_files table_file old.files one.files two.files wrote_logs wrote_table) writes stopped)

  -- at the fates
  pub stops_at_fates : (result : Result (Unit {0}) Cause) (old one two three new : DiskView)
      → one.files ≡ holding_all log_files old.files → two.files ≡ holding_all table_file one.files
      → three.files ≡ holding_all schedule_file two.files → OnlyWrites old three
      → OnErr result (HoldsSome fates_file three.files new.files)
      → IfErr result (λ cause. StopsAtOutput fates_file.name three new cause)
      → IfErr result (λ cause. StopsWriting (relay_files job r) old new cause)
  stops_at_fates result old one two three new wrote_logs wrote_table wrote_schedule writes some stopped =
      subst (λ (l : List NamedText). IfErr result (λ cause. StopsWriting l old new cause)) same
      (rest_stops result ((log_files ++ table_file) ++ schedule_file) (fates_file ∷ []) old three new
      (more_written (log_files ++ table_file) schedule_file old.files two.files three.files
      (more_written log_files table_file old.files one.files two.files wrote_logs wrote_table) wrote_schedule)
      writes (file_stops result fates_file three new some stopped))
