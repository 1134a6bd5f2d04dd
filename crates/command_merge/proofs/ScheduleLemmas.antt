-- Schedules that are read one after another, and what stops them.
use Rattle.std.proofs.Common.{◌≡◌, ◌∙◌, inr, ℕ, suc, ◌+◌, ◌<◌, ◌≤◌, Bool, true, false, cond, nat_lt, List, [], ◌∷◌}
use Rattle.std.proofs.Common.{◌++◌, Option, Some, None, Result, Ok, Err, IfErr, length, ap, subst, sym, refl, rules}
use Rattle.std.proofs.Common.{tests, arith}
use Rattle.std.proofs.lemmas.List.{append-nil, append_assoc}
use Rattle.mm_base.specs.Disk.{DiskView, OnlyReads}
use Rattle.mm_base.specs.Files.{Files}
use Rattle.text_base.specs.Lines.{lines_of}
use Rattle.packet_record.specs.Schedules.{AreRows, IsScheduleText}
use Rattle.packet_record.specs.declared.packet.Row.{Row}
use Rattle.sender_merge.specs.RowLists.{rows_in}
use Rattle.command_ends.specs.Causes.{Text, status_of_refusal}
use Rattle.command_ends.specs.Readings.{Reading, Done, unless}
use Rattle.command_ends.specs.inside.Readings.{Leads}
use Rattle.command_ends.specs.Stops.{RefusesText, StopsReading}
use Rattle.command_ends.specs.declared.cause.Cause.{Cause}
use Rattle.command_ends.specs.declared.cause.Cause.TheVariants.{Refused}
use Rattle.command_ends.specs.declared.cause.Limit.TheVariants.{Packets}
use Rattle.command_ends.specs.declared.cause.Refusal.{Refusal}
use Rattle.command_ends.specs.declared.cause.Refusal.TheVariants.{Limit}
use Rattle.command_ends.proofs.ReadingLemmas.{StopsAlike, alike_done, alike_text, alike_unless, found_stop, leads_text}
use Rattle.command_ends.proofs.ReadingLemmas.{leads_then, leads_unless, stays, stops_alike, stops_later}
use Rattle.nest_command.specs.Inputs.{reading_schedule, schedule_refusal}
use Rattle.nest_command.specs.Loaded.{HasSchedule}
use Rattle.command_merge.specs.inside.Loaded.{AddsSchedules, HasNext, HaveSchedules, NoSchedules, MoreSchedules}
use Rattle.command_merge.specs.Merge.{AreScheduleTexts}
use Rattle.command_merge.specs.MergeReading.{reading_next, reading_schedules, refused_total}

-- a schedule has a row for each line
are_long : (place low : ℕ) (lines : List (List ℕ)) (rows : List Row) → AreRows place low lines rows
    → length rows ≡ length lines
are_long place low [] [] are = refl
are_long place low [] (row ∷ rows) are = absurd are
are_long place low (line ∷ lines) [] are = absurd are
are_long place low (line ∷ lines) (row ∷ rows) are =
    ap (λ k. suc k) (are_long (place + 1) row.timed.moment lines rows are.4)

pub schedule_long : (text : List ℕ) (rows : List Row) → IsScheduleText text rows → length rows ≡ length (lines_of text)
schedule_long text rows are = are_long 1 0 (lines_of text) rows are

pub total_over : (name : Text) (lines : ℕ) (cause : Cause) → 1000000 < lines → cause ≡ Refused (Limit (Packets name))
    → RefusesText (refused_total name lines) cause
unfolding refused_total
total_over name lines cause lt is =
    let over : nat_lt 1000000 lines ≡ true = search (rules, tests) in
    inr (Limit (Packets name), is, ap (λ b. cond b (Some (Limit (Packets name))) None) over)

pub total_within : (name : Text) (lines : ℕ) → lines ≤ 1000000 → refused_total name lines ≡ None
unfolding refused_total
total_within name lines le =
    let within : nat_lt 1000000 lines ≡ false = search (rules, tests) in
    ap (λ b. cond b (Some (Limit (Packets name))) None) within

few_by : (name : Text) (lines : ℕ) (b : Bool) → nat_lt 1000000 lines ≡ b
    → cond b (Some (Limit (Packets name))) None ≡ None → lines ≤ 1000000
few_by name lines true e none = absurd (cc none)
few_by name lines false e none = search (rules, tests)

pub total_few : (name : Text) (lines : ℕ) → refused_total name lines ≡ None → lines ≤ 1000000
unfolding refused_total
total_few name lines none = few_by name lines (nat_lt 1000000 lines) refl none

total_status : (name : Text) (b : Bool) (refusal : Refusal) → cond b (Some (Limit (Packets name))) None ≡ Some refusal
    → status_of_refusal refusal ≡ 5
total_status name true refusal e =
    let same : Limit (Packets name) ≡ refusal = cc e in ap status_of_refusal (sym same)
total_status name false refusal e = absurd (cc e)

pub total_text : (name : Text) (lines : ℕ) (refusal : Refusal) → refused_total name lines ≡ Some refusal
    → status_of_refusal refusal ≡ 5
unfolding refused_total
total_text name lines refusal e = total_status name (nat_lt 1000000 lines) refusal e

-- what is refused and read once a schedule was read, after schedules with `before` lines in all
abbrev rest_of : {A : Type 0} → ℕ → Text → (List ℕ → Reading A) → List ℕ → Reading A
rest_of before name next text = unless (refused_total name (before + length (lines_of text))) (next text)

pub leads_next : {A : Type 0} {told : Option Files} {before : ℕ} {name : Text} {text : List ℕ} {rows : List Row}
    (next : List ℕ → Reading A) → HasNext told before name text rows
    → Leads told (reading_next before name next) (next text)
leads_next {told = told} {before = before} {name = name} {text = text} next has =
    leads_then (leads_text told (schedule_refusal name) name (rest_of before name next) text has.has.input
    has.has.accepted)
    (leads_unless told (refused_total name (before + length (lines_of text))) (next text) has.accepted)

-- with this schedule there are too many lines
pub total_stop : (before lines : ℕ) (name : Text) (text : List ℕ) (rows : List Row) (old mid : DiskView) (cause : Cause)
    → HasSchedule old.files name text rows → lines ≡ before + length rows → OnlyReads old mid
    → RefusesText (refused_total name lines) cause
    → StopsReading (reading_next before name Done) old mid cause
total_stop before lines name text rows old mid cause has same reads refused =
    let long : lines ≡ before + length (lines_of text) = same
    ∙ ap (λ n. before + n) (schedule_long text rows has.rows_are) in
    stops_later (reading_next before name Done) (rest_of before name Done text) old mid mid cause
    (leads_text old.files (schedule_refusal name) name (rest_of before name Done) text has.input has.accepted) reads
    (found_stop (refused_total name (before + length (lines_of text))) (Done text) mid mid cause
    (λ refusal e three. let five = total_text name (before + length (lines_of text)) refusal e in omega arith)
    (subst (λ (n : ℕ). RefusesText (refused_total name n) cause) long refused))

-- this schedule was read, and there are few enough lines
pub next_found : (told : Option Files) (before lines : ℕ) (name : Text) (rows : List Row)
    → ((text : List ℕ) × HasSchedule told name text rows) → lines ≡ before + length rows
    → refused_total name lines ≡ None → (text : List ℕ) × HasNext told before name text rows
next_found told before lines name rows has same few =
    let long : lines ≡ before + length (lines_of has.0) = same
    ∙ ap (λ n. before + n) (schedule_long has.0 rows has.1.rows_are) in
    (has.0, record { has = has.1; accepted = ap (refused_total name) (sym long) ∙ few })

-- what stops the reading of a schedule stops it, whatever would have come next
pub schedule_stop : (before : ℕ) (name : Text) (old new : DiskView) (cause : Cause)
    → StopsReading (reading_schedule name Done) old new cause
    → StopsReading (reading_next before name Done) old new cause
schedule_stop before name old new cause stopped =
    stops_alike (reading_schedule name Done) (reading_next before name Done) old new cause
    (alike_text old.files (schedule_refusal name) name Done (rest_of before name Done)
    (λ t. alike_done old.files t (rest_of before name Done t))) stopped

pub next_stop : {A : Type 0} (before : ℕ) (name : Text) (old new : DiskView) (cause : Cause) (next : List ℕ → Reading A)
    → StopsReading (reading_next before name Done) old new cause
    → StopsReading (reading_next before name next) old new cause
next_stop before name old new cause next stopped =
    stops_alike (reading_next before name Done) (reading_next before name next) old new cause
    (alike_text old.files (schedule_refusal name) name (rest_of before name Done) (rest_of before name next)
    (λ t. alike_unless old.files (refused_total name (before + length (lines_of t))) (Done t) (next t)
    (alike_done old.files t (next t)))) stopped

-- schedules that were read lead on
pub leads_schedules : {A : Type 0} {told : Option Files} {before : ℕ} {names : List Text} {texts : List (List ℕ)}
    {schedules : List (List Row)} (next : List (List ℕ) → Reading A)
    → HaveSchedules told before names texts schedules → Leads told (reading_schedules before names next) (next texts)
leads_schedules next (NoSchedules before) = stays (next [])
leads_schedules next (MoreSchedules before name names text texts rows more has rest) =
    leads_then (leads_next (λ t. reading_schedules (before + length (lines_of t)) names (λ ts. next (t ∷ ts))) has)
    (leads_schedules (λ ts. next (text ∷ ts)) rest)

pub schedule_texts : {told : Option Files} {before : ℕ} {names : List Text} {texts : List (List ℕ)}
    {schedules : List (List Row)} → HaveSchedules told before names texts schedules → AreScheduleTexts texts schedules
schedule_texts (NoSchedules before) = tt
schedule_texts (MoreSchedules before name names text texts rows more has rest) =
    (has.has.rows_are, schedule_texts rest)

pub schedule_count : {told : Option Files} {before : ℕ} {names : List Text} {texts : List (List ℕ)}
    {schedules : List (List Row)} → HaveSchedules told before names texts schedules → length schedules ≡ length names
schedule_count (NoSchedules before) = refl
schedule_count (MoreSchedules before name names text texts rows more has rest) =
    ap (λ k. suc k) (schedule_count rest)

schedules_alike : {A B : Type 0} (told : Option Files) (before : ℕ) (names : List Text) (last : List (List ℕ) → A)
    (next : List (List ℕ) → Reading B)
    → StopsAlike told (reading_schedules before names (λ texts. Done (last texts)))
    (reading_schedules before names next)
schedules_alike told before [] last next = alike_done told (last []) (next [])
schedules_alike told before (name ∷ names) last next =
    alike_text told (schedule_refusal name) name
    (rest_of before name
    (λ t. reading_schedules (before + length (lines_of t)) names (λ texts. Done (last (t ∷ texts)))))
    (rest_of before name (λ t. reading_schedules (before + length (lines_of t)) names (λ texts. next (t ∷ texts))))
    (λ t. alike_unless told (refused_total name (before + length (lines_of t)))
    (reading_schedules (before + length (lines_of t)) names (λ texts. Done (last (t ∷ texts))))
    (reading_schedules (before + length (lines_of t)) names (λ texts. next (t ∷ texts)))
    (schedules_alike told (before + length (lines_of t)) names (λ texts. last (t ∷ texts))
    (λ texts. next (t ∷ texts))))

-- what stops the reading of schedules stops it, whatever would have come next
pub schedules_stop : {A : Type 0} (before : ℕ) (names : List Text) (old new : DiskView) (cause : Cause)
    (next : List (List ℕ) → Reading A) → StopsReading (reading_schedules before names Done) old new cause
    → StopsReading (reading_schedules before names next) old new cause
schedules_stop before names old new cause next stopped =
    stops_alike (reading_schedules before names Done) (reading_schedules before names next) old new cause
    (schedules_alike old.files before names (λ texts. texts) next) stopped

-- no schedule was read
pub adds_none : (told : Option Files) (before : ℕ) (names : List Text) (items : List (List Row)) → names ≡ []
    → AddsSchedules told before names items items
adds_none told before names items none = record {
  texts = [];
  more = [];
  have = subst (λ (l : List Text). HaveSchedules told before l [] []) (sym none) (NoSchedules before);
  added = sym (append-nil items);
}

-- one schedule was read, and then the others
pub adds_more : (told now : Option Files) (before lines : ℕ) (name : Text) (all names : List Text)
    (old pushed new : List (List Row)) (rows : List Row) → all ≡ name ∷ names
    → ((text : List ℕ) × HasNext told before name text rows) → lines ≡ before + length rows
    → pushed ≡ old ++ rows ∷ [] → now ≡ told → AddsSchedules now lines names pushed new
    → AddsSchedules told before all old new
adds_more told now before lines name all names old pushed new rows is has same push stand adds =
    let text = has.0 in
    let long : lines ≡ before + length (lines_of text) = same
    ∙ ap (λ n. before + n) (schedule_long text rows has.1.has.rows_are) in
    let rest : HaveSchedules told (before + length (lines_of text)) names adds.texts adds.more =
    subst (λ (n : ℕ). HaveSchedules told n names adds.texts adds.more) long
    (subst (λ (files : Option Files). HaveSchedules files lines names adds.texts adds.more) stand adds.have) in record {
      texts = text ∷ adds.texts;
      more = rows ∷ adds.more;
      have = subst (λ (l : List Text). HaveSchedules told before l (text ∷ adds.texts) (rows ∷ adds.more)) (sym is)
          (MoreSchedules before name names text adds.texts rows adds.more has.1 rest);
      added = adds.added ∙ ap (λ l. l ++ adds.more) push ∙ append_assoc old (rows ∷ []) adds.more;
    }

-- reading stops at the first schedule
pub first_stop : (before : ℕ) (name : Text) (all names : List Text) (old new : DiskView) (cause : Cause)
    → all ≡ name ∷ names → StopsReading (reading_next before name Done) old new cause
    → StopsReading (reading_schedules before all Done) old new cause
first_stop before name all names old new cause is stopped =
    subst (λ (l : List Text). StopsReading (reading_schedules before l Done) old new cause) (sym is)
    (next_stop before name old new cause
    (λ t. reading_schedules (before + length (lines_of t)) names (λ texts. Done (t ∷ texts))) stopped)

-- reading stops at a later schedule
pub later_stop : (before lines : ℕ) (name : Text) (all names : List Text) (rows : List Row) (old mid new : DiskView)
    (cause : Cause) → all ≡ name ∷ names → ((text : List ℕ) × HasNext old.files before name text rows)
    → lines ≡ before + length rows → OnlyReads old mid
    → StopsReading (reading_schedules lines names Done) mid new cause
    → StopsReading (reading_schedules before all Done) old new cause
later_stop before lines name all names rows old mid new cause is has same reads stopped =
    let text = has.0 in
    let long : lines ≡ before + length (lines_of text) = same
    ∙ ap (λ n. before + n) (schedule_long text rows has.1.has.rows_are) in
    let rest : Reading (List (List ℕ)) =
    reading_schedules (before + length (lines_of text)) names (λ texts. Done (text ∷ texts)) in
    let here : StopsReading rest mid new cause =
    schedules_stop (before + length (lines_of text)) names mid new cause (λ texts. Done (text ∷ texts))
    (subst (λ (n : ℕ). StopsReading (reading_schedules n names Done) mid new cause) long stopped) in
    subst (λ (l : List Text). StopsReading (reading_schedules before l Done) old new cause) (sym is)
    (stops_later (reading_schedules before (name ∷ names) Done) rest old mid new cause
    (leads_next (λ t. reading_schedules (before + length (lines_of t)) names (λ texts. Done (t ∷ texts))) has.1) reads
    here)

-- the schedules have few enough rows in all
pub rows_few : (told : Option Files) (before : ℕ) (names : List Text) (texts : List (List ℕ))
    (schedules : List (List Row)) → HaveSchedules told before names texts schedules → before ≤ 1000000
    → before + rows_in schedules ≤ 1000000
rows_few told before names texts schedules (NoSchedules b) few = omega arith
rows_few told before names texts schedules (MoreSchedules b name ns text ts rows more has rest) few =
    let long = schedule_long text rows has.has.rows_are in
    let within = total_few name (before + length (lines_of text)) has.accepted in
    let rest_few = rows_few told (before + length (lines_of text)) ns ts more rest within in
    omega arith

-- a weaker claim about the cause of an error
pub if_err_weaker : {T : Type 0} {P Q : Cause → Type 0} (result : Result T Cause)
    → ((cause : Cause) → P cause → Q cause)
    → IfErr result P → IfErr result Q
if_err_weaker (Ok value) on holds = tt
if_err_weaker (Err cause) on holds = on cause holds
