-- A text that is printed in pieces, while more of it is made.
use Rattle.std.proofs.Common.{◌≡◌, inl, inr, ℕ, ◌+◌, ◌<◌, ◌≤◌, ◌++◌, ◌⊎◌, List, [], ◌∷◌, Option, Some, None, length, take}
use Rattle.std.proofs.Common.{refl, ap, sym, ◌∙◌, arith, length-append, append-nil}
use Rattle.std.proofs.Math.Seq.{take-append_seam}
use Rattle.std.specs.List.{flat_map}
use Rattle.std.proofs.Common.{decimal, subst, MatchOption, OnOk, IfErr, Result, Ok, Err}
use Rattle.std.proofs.lemmas.List.{append_assoc}
use Rattle.log_report.specs.declared.bins.Bin.{Bin}
use Rattle.log_report.specs.SeriesText.{bin_line, cell, delay_cells, moment_cells, rate_cell, sum_cells}
use Rattle.mm_base.specs.Counts.{Rose}
use Rattle.mm_base.specs.Sink.{SinkView, CountsSinkFaults, sending}
use Rattle.mm_base.proofs.SinkLemmas.{sent_more}
use Rattle.mm_base.proofs.Then.{Rose-later}
use Rattle.command_ends.specs.Stops.{StopsPrinting}
use Rattle.command_ends.specs.declared.cause.Cause.{Cause}
use Rattle.command_ends.specs.declared.cause.Cause.TheVariants.{OutFault, OutOfMemory}
use Rattle.command_ends.proofs.SendLemmas.{front_of}

pub sending_none : (told : Option (List ℕ)) → told ≡ sending [] told
sending_none None = refl
sending_none (Some bytes) = ap Some (sym (append-nil bytes))

-- memory runs out while some of the text is still to be made
pub stops_making : (whole sent more : List ℕ) (old mid : SinkView) (cause : Cause) → whole ≡ sent ++ more
    → 0 < length more → mid.written ≡ sending sent old.written → cause ≡ OutOfMemory
    → StopsPrinting whole old mid cause
stops_making whole sent more old mid cause is some sends out_of =
    let long : length whole ≡ length sent + length more = ap length is ∙ length-append sent more in
    record {
      count = length sent;
      short = omega arith;
      front = sends ∙ ap (λ (l : List ℕ). sending l old.written) (sym (ap (take (length sent)) is
          ∙ take-append_seam sent more));
      refused = inl out_of;
    }

-- a piece of the text isn't printed whole
pub stops_piece : (whole sent piece more : List ℕ) (old mid new : SinkView) (cause : Cause)
    → whole ≡ sent ++ (piece ++ more) → mid.written ≡ sending sent old.written → CountsSinkFaults old mid
    → StopsPrinting piece mid new cause → StopsPrinting whole old new cause
stops_piece whole sent piece more old mid new cause is sends counts stops =
    let long : length whole ≡ length sent + (length piece + length more) =
    ap length is ∙ length-append sent (piece ++ more) ∙ ap (λ (n : ℕ). length sent + n) (length-append piece more) in
    let short = stops.short in
    record {
      count = length sent + stops.count;
      short = omega arith;
      front = sent_more old.written mid.written new.written sent (take stops.count piece) sends stops.front
          ∙ ap (λ (l : List ℕ). sending l old.written) (sym (ap (take (length sent + stops.count)) is
          ∙ front_of sent piece more stops.count short));
      refused = since stops.refused;
    }
  where
    since : (cause ≡ OutOfMemory) ⊎ ((cause ≡ OutFault) × Rose mid.faults new.faults)
        → (cause ≡ OutOfMemory) ⊎ ((cause ≡ OutFault) × Rose old.faults new.faults)
    since (inl e) = inl e
    since (inr p) = inr (p.0, Rose-later old.faults mid.faults new.faults counts.grows p.1)

-- some lines are still to come
pub some_lines : (bins : List Bin) (text : List ℕ) → 0 < length bins
    → 0 < length (text ++ flat_map bin_line bins)
some_lines [] text some = absurd (let h : 0 < 0 = some in omega arith)
some_lines (b ∷ bins) text some =
    let a = length-append text (flat_map bin_line (b ∷ bins)) in
    let l = length-append (bin_line b) (flat_map bin_line bins) in
    let one = some_line b in
    let e : length (flat_map bin_line (b ∷ bins)) ≡ length (bin_line b ++ flat_map bin_line bins) = refl in
    omega arith
  where
    some_line : (b : Bin) → 0 < length (bin_line b)
    some_line b =
        let rest = sum_cells b ++ (rate_cell b ++ delay_cells b.delays) in
        let a = length-append (moment_cells b) rest in
        let m = length-append (cell b.from) (cell b.to) in
        let c = length-append (decimal b.from) (44 ∷ []) in
        omega arith

-- one line more, of which some may have been sent
pub more_lines : (whole sent text text' : List ℕ) (b : Bin) (bins : List Bin)
    → whole ≡ sent ++ (text ++ flat_map bin_line (b ∷ bins)) → text' ≡ text ++ bin_line b
    → whole ≡ sent ++ (text' ++ flat_map bin_line bins)
more_lines whole sent text text' b bins is line =
    is ∙ ap (λ (l : List ℕ). sent ++ l) (sym (append_assoc text (bin_line b) (flat_map bin_line bins))
    ∙ ap (λ (l : List ℕ). l ++ flat_map bin_line bins) (sym line))

-- what the next call says
pub next_of : (o : Option Bin) (b : Bin) (before after : List Bin) → o ≡ Some b
    → MatchOption o (before ≡ []) (λ x. before ≡ x ∷ after) → before ≡ b ∷ after
next_of o b before after e said =
    subst (λ (p : Option Bin). MatchOption p (before ≡ []) (λ x. before ≡ x ∷ after)) e said

pub none_of : (o : Option Bin) (before after : List Bin) → o ≡ None
    → MatchOption o (before ≡ []) (λ x. before ≡ x ∷ after) → before ≡ []
none_of o before after e said =
    subst (λ (p : Option Bin). MatchOption p (before ≡ []) (λ x. before ≡ x ∷ after)) e said

pub some_next : (b : Bin) (before after : List Bin) → before ≡ b ∷ after → 0 < length before
some_next b before after e = subst (λ (l : List Bin). 0 < length l) (sym e) (omega arith)

-- the text with a line more
pub one_line : (whole sent text text' : List ℕ) (b : Bin) (before after : List Bin)
    → whole ≡ sent ++ (text ++ flat_map bin_line before) → before ≡ b ∷ after → text' ≡ text ++ bin_line b
    → whole ≡ sent ++ (text' ++ flat_map bin_line after)
one_line whole sent text text' b before after is next line =
    more_lines whole sent text text' b after (is ∙ ap (λ (l : List Bin). sent ++ (text ++ flat_map bin_line l)) next)
    line

-- and of which a part was sent
pub part_sent : (whole sent piece part text more : List ℕ) → whole ≡ sent ++ (piece ++ more) → piece ≡ part ++ text
    → whole ≡ (sent ++ part) ++ (text ++ more)
part_sent whole sent piece part text more is split =
    is ∙ ap (λ (l : List ℕ). sent ++ (l ++ more)) split
    ∙ ap (λ (l : List ℕ). sent ++ l) (append_assoc part text more)
    ∙ sym (append_assoc sent part (text ++ more))

-- the last piece
pub last_piece : (whole sent text : List ℕ) (bins : List Bin) → whole ≡ sent ++ (text ++ flat_map bin_line bins)
    → bins ≡ [] → whole ≡ sent ++ (text ++ [])
last_piece whole sent text bins is none = is ∙ ap (λ (l : List Bin). sent ++ (text ++ flat_map bin_line l)) none

pub all_sent : (r : Result (Unit {0}) Cause) (whole sent piece text : List ℕ) (old mid new : SinkView)
    → whole ≡ sent ++ (text ++ []) → piece ≡ text → mid.written ≡ sending sent old.written
    → OnOk r (new.written ≡ sending piece mid.written) → OnOk r (new.written ≡ sending whole old.written)
all_sent (Ok u) whole sent piece text old mid new is same sends ok =
    sent_more old.written mid.written new.written sent piece sends ok
    ∙ ap (λ (l : List ℕ). sending l old.written) (ap (λ (l : List ℕ). sent ++ l) (same ∙ sym (append-nil text)) ∙ sym is)
all_sent (Err cause) whole sent piece text old mid new is same sends ok = tt

pub piece_stops : (r : Result (Unit {0}) Cause) (whole sent piece text : List ℕ) (old mid new : SinkView)
    → whole ≡ sent ++ (text ++ []) → piece ≡ text → mid.written ≡ sending sent old.written → CountsSinkFaults old mid
    → IfErr r (λ cause. StopsPrinting piece mid new cause) → IfErr r (λ cause. StopsPrinting whole old new cause)
piece_stops (Ok u) whole sent piece text old mid new is same sends counts stops = tt
piece_stops (Err cause) whole sent piece text old mid new is same sends counts stops =
    stops_piece whole sent piece [] old mid new cause (is ∙ ap (λ (l : List ℕ). sent ++ (l ++ [])) (sym same)) sends
    counts stops
