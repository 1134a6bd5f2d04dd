-- A schedule whose rows are sent while its text is read.
use Rattle.std.proofs.Common.{◌≡◌, ◌≤◌, ◌∙◌, ap, sym, subst, refl, ℕ, List, [], ◌∷◌, ◌++◌, arith}
use Rattle.std.proofs.Common.{Bool, true, false, Option, Some, None, IsSome, is_some, Result, Ok, Err, OnOk, ◌-◌}
use Rattle.std.proofs.Common.{drop, take, length, length-drop, rules}
use Rattle.std.proofs.lemmas.List.{append-nil, take-append-drop, take_all}
use mathlib.Core.List.{IsPrefix}
use Rattle.mm_base.specs.Files.{Files, file}
use Rattle.text_base.specs.Lines.{lines_of}
use Rattle.mm_base.proofs.FilesLemmas.{is_held}
use Rattle.mm_base.specs.Pieces.{FrontIsRead, HasSize}
use Rattle.mm_base.proofs.PieceLemmas.{whole_read}
use Rattle.packet_record.specs.declared.item.Item.TheVariants.{End as Over}
use Rattle.packet_record.specs.declared.item.FlowEnd.TheVariants.{Ended as IsOver}
use Rattle.packet_record.specs.declared.both.Both.{Both}
use Rattle.packet_record.specs.declared.packet.Direction.{Direction}
use Rattle.packet_record.specs.declared.packet.Direction.TheVariants.{Up, Down}
use Rattle.packet_record.specs.declared.packet.Row.{Row}
use Rattle.packet_record.specs.declared.reading.ScheduleError.{ScheduleError}
use Rattle.packet_record.specs.Orders.{IsSchedule}
use Rattle.packet_record.specs.PartsRead.{HasRead, HasReadAll, IsRefused, PartRead}
use Rattle.packet_record.specs.Rows.{Rises}
use Rattle.packet_record.proofs.PartLemmas.{awaits_any}
use Rattle.packet_record.proofs.RowsLemmas.{rises-in_order}
use Rattle.mark_channel.specs.Ends.{End}
use Rattle.shell_workers.specs.inside.Sent.{HasSent, HaveSent, SendsOn}
use Rattle.shell_workers.specs.declared.sourcing.Progress.{Progress}
use Rattle.shell_workers.specs.StreamParts.{AllSent, IsStreamed}
use Rattle.shell_workers.proofs.Sending.{all_sent, rest_of}

-- the rows of `rows` behind those of `done`
abbrev pub rows_after : List Row → List Row → List Row
rows_after done rows = take (length rows - length done) (drop (length done) rows)

after_is : (old new done rows : List Row) → done ≡ old → rows ≡ new → rows_after done rows ≡ drop (length old) new
after_is old new done rows d r =
    take_all (length rows - length done) (drop (length done) rows) (omega (arith, length-drop (length done) rows))
    ∙ ap (λ (l : List Row). drop (length l) rows) d ∙ ap (λ (l : List Row). drop (length old) l) r

-- the rows of a piece rise from the moment `sent` before it
pub piece_rises : (d : Direction) (h sent : ℕ) (old new done rows : List Row) (to : End) → done ≡ old → rows ≡ new
    → HasSent d h [] old sent to → IsPrefix old new → IsSchedule new → Rises sent (rows_after done rows)
piece_rises d h sent old new done rows to is_done is_new has prefix schedule =
    subst (Rises sent) (sym (after_is old new done rows is_done is_new))
    (has.rises (drop (length old) new)
    (subst (Rises 0) (sym (rest_of old new prefix)) (rises-in_order 1 0 new schedule.order)))

-- where the rows before a piece and those of the piece were sent, all rows were
pub piece_sent : (d : Direction) (h sent : ℕ) (old new done rows : List Row) (to : End) → done ≡ old → rows ≡ new
    → IsPrefix old new → HasSent d h [] (old ++ rows_after done rows) sent to → HasSent d h [] new sent to
piece_sent d h sent old new done rows to is_done is_new prefix has =
    subst (λ l. HasSent d h [] l sent to)
    (ap (λ (l : List Row). old ++ l) (after_is old new done rows is_done is_new) ∙ rest_of old new prefix) has

-- the same of both directions
pub pieces_rise : (h : ℕ) (sent : Progress) (old new done rows : List Row) (heads : Both End) → done ≡ old
    → rows ≡ new → HaveSent h old sent heads → IsPrefix old new → IsSchedule new
    → Rises sent.up (rows_after done rows) × Rises sent.down (rows_after done rows)
pieces_rise h sent old new done rows heads is_done is_new have prefix schedule = (
  piece_rises Up h sent.up old new done rows heads.up is_done is_new have.0 prefix schedule,
  piece_rises Down h sent.down old new done rows heads.down is_done is_new have.1 prefix schedule,
)

pub pieces_sent : (h : ℕ) (sent next : Progress) (old new done rows : List Row) (before after : Both End) → done ≡ old
    → rows ≡ new → IsPrefix old new → HaveSent h old sent before
    → SendsOn Up h (rows_after done rows) sent.up next.up before.up after.up
    × SendsOn Down h (rows_after done rows) sent.down next.down before.down after.down
    → HaveSent h new next after
pieces_sent h sent next old new done rows before after is_done is_new prefix have on = (
  piece_sent Up h next.up old new done rows after.up is_done is_new prefix (on.0 [] old have.0),
  piece_sent Down h next.down old new done rows after.down is_done is_new prefix (on.1 [] old have.1),
)

-- where all rows were sent and then the end, `AllSent` holds
pub end_sent : (d : Direction) (h sent : ℕ) (rows : List Row) (old new : End) → HasSent d h [] rows sent old
    → new.items ≡ old.items ++ Over ∷ [] → new.flow.packets ≡ old.flow.packets → new.flow.end ≡ IsOver
    → AllSent d h rows new
end_sent d h sent rows old new has items packets over = record {
  items = all_sent d h sent [] rows old new.items has items;
  packets = packets ∙ has.packets;
  over = over;
}

-- a file that was read to its end
pub whole_streamed : (told : Option Files) (name : List ℕ) (size : ℕ) (old mid new : PartRead)
    → HasSize told name size → HasRead [] old → FrontIsRead HasRead told name size old mid
    → ((text : List ℕ) → HasRead text mid → HasReadAll text new) → IsStreamed told name new
whole_streamed told name size old mid new has unread front all =
    let whole = whole_read HasRead told name size old mid has front in
    record {
      bytes = whole.bytes;
      text = record { few = whole.few; there = whole.there; held = whole.held };
      all = all whole.bytes (whole.goes_on [] unread);
    }

-- after a refusal the rest of a text doesn't matter
refused_text : (front rest text : List ℕ) (read : PartRead) → HasRead front read → IsRefused read
    → front ++ rest ≡ text → HasReadAll text read
refused_text front rest text read has refused is =
    subst (λ t. HasReadAll t read) is
    (awaits_any (lines_of (front ++ rest)) (lines_of (read.kept ++ rest)) [] read.gathered refused (has rest))

-- whether a line was refused, by the test of it
pub some_refused : (refused : Option ScheduleError) (b : Bool) → b ≡ true → b ≡ is_some refused → IsSome refused
some_refused None b test is = absurd (cc (test, is))
some_refused (Some error) b test is = search rules

pub none_refused : (refused : Option ScheduleError) (b : Bool) → b ≡ false → b ≡ is_some refused → refused ≡ None
none_refused None b test is = refl
none_refused (Some error) b test is = absurd (cc (test, is))

pub on_ok : {T E : Type 0} (result : Result T E) (P : Type 0) → P → OnOk result P
on_ok (Ok value) P p = p
on_ok (Err error) P p = tt

-- a file of which a front was read, in which a line was refused
pub refused_streamed : (told : Option Files) (name : List ℕ) (size at : ℕ) (old new : PartRead)
    → HasSize told name size → at ≤ size → HasRead [] old → FrontIsRead HasRead told name at old new → IsRefused new
    → IsStreamed told name new
refused_streamed None name size at old new has le unread front refused = record {
  bytes = front.bytes;
  text = record {
    few = let few = front.few in let most = has.few in omega arith;
    there = has.there;
    held = λ m whole t h. absurd (cc t);
  };
  all = refused_text front.bytes [] front.bytes new (front.goes_on [] unread) refused (append-nil front.bytes);
}
refused_streamed (Some m) name size at old new has le unread front refused =
    let there = is_held (file m name) (has.there m refl) in
    let whole : List ℕ = there.0 in
    let is : file m name ≡ Some whole = there.1 in
    record {
      bytes = whole;
      text = record {
        few = let long = has.held m whole refl is in let most = has.few in omega arith;
        there = has.there;
        held = λ n other t h. cc (is, t, h);
      };
      all = refused_text front.bytes (drop at whole) whole new (front.goes_on [] unread) refused
          (ap (λ l. l ++ drop at whole) (front.held m whole refl is) ∙ take-append-drop at whole);
    }
