-- How many opportunities a text of a given length can state.
use Rattle.std.proofs.Common.{◌≡◌, ℕ, zero, suc, ◌+◌, ◌*◌, ◌/◌, ◌≤◌, List, [], ◌∷◌, length, map, min, drop, Some, None}
use Rattle.std.proofs.Common.{arith}
use Rattle.text_base.specs.Lines.{lines_of}
use Rattle.packet_record.proofs.RoomLemmas.{room_of, lines_fit}
use Rattle.trace_reader.specs.declared.opportunity.TraceForm.{TraceForm}
use Rattle.trace_reader.specs.declared.opportunity.TraceForm.TheVariants.{Moments, MomentsAndBytes}
use Rattle.trace_reader.specs.declared.opportunity.Opportunity.{Opportunity}
use Rattle.trace_reader.specs.TraceText.{form_of, lines_before, stated, said_of, said, IsTraceText}
use Rattle.trace_reader.specs.Traces.{TraceView}

-- a line that says something has a byte
some_bytes : (form : TraceForm) (line : List ℕ) (s : ℕ × ℕ) → said_of form line ≡ Some s → 1 ≤ length line
some_bytes Moments [] s e = let none : None ≡ Some s = e in absurd cc
some_bytes MomentsAndBytes [] s e = let none : None ≡ Some s = e in absurd cc
some_bytes form (byte ∷ bytes) s e = omega arith

lines_room : (form : TraceForm) (lines : List (List ℕ)) (opps : List Opportunity)
    → map (said_of form) lines ≡ map (λ o. Some (said o)) opps
    → 2 * length opps ≤ room_of lines
unfolding room_of
lines_room form [] [] e = omega arith
lines_room form [] (o ∷ opps) e = absurd cc
lines_room form (line ∷ lines) [] e = absurd cc
lines_room form (line ∷ lines) (o ∷ opps) e =
    let first : said_of form line ≡ Some (said o) = cc in
    let others : map (said_of form) lines ≡ map (λ o. Some (said o)) opps = cc in
    let some = some_bytes form line (said o) first in
    let rest = lines_room form lines opps others in
    omega (arith, some, rest)

less_room : (n : ℕ) (lines : List (List ℕ)) → room_of (drop n lines) ≤ room_of lines
unfolding room_of
less_room zero lines = omega arith
less_room (suc n) [] = omega arith
less_room (suc n) (line ∷ lines) = let rest = less_room n lines in omega (arith, rest)

pub opportunities_fit : (text : List ℕ) (t : TraceView) (bytes : ℕ) → length text ≤ bytes → IsTraceText text t
    → length t.opportunities ≤ min (bytes / 2 + 1) 1000000
opportunities_fit text t bytes le is =
    let room = lines_room t.form (stated (lines_of text)) t.opportunities is.said in
    let less = less_room (lines_before (form_of (lines_of text))) (lines_of text) in
    let fits = lines_fit text in
    let few = is.trace.few in
    omega (arith, room, less, fits, few)
