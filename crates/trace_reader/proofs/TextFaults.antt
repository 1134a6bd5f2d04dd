-- The refusals of a text, and a text of a trace, which has none.
use Rattle.std.proofs.Common.{◌≡◌, ◌≢◌, ℕ, suc, ◌+◌, ◌<◌, ◌≤◌, ◌++◌, ◌==◌, false, cond, List, [], ◌∷◌, length, map}
use Rattle.std.proofs.Common.{Option, Some, None, MatchResult, IfOk, Result, Ok, Err, nat_le, refl, ap, sym, subst, ◌∙◌}
use Rattle.std.proofs.Common.{arith, append_assoc}
use Rattle.std.specs.Option.{option_and_then}
use Rattle.std.proofs.lemmas.Bool.{lt-leb}
use Rattle.std.proofs.lemmas.Bool.Decides.{nat_tests}
use Rattle.std.proofs.lemmas.List.{map-append}
use Rattle.text_base.specs.Lines.{lines_of}
use Rattle.text_base.specs.Numbers.{decimal_of}
use Rattle.text_base.proofs.NumbersLemmas.{decimal_of-Some}
use Rattle.trace_reader.specs.declared.opportunity.Opportunity.{Opportunity}
use Rattle.trace_reader.specs.declared.opportunity.TraceForm.{TraceForm}
use Rattle.trace_reader.specs.declared.opportunity.TraceForm.TheVariants.{Moments, MomentsAndBytes}
use Rattle.trace_reader.specs.declared.reading.TraceError.{TraceError}
use Rattle.trace_reader.specs.declared.reading.TraceError.TheVariants as errors
use Rattle.trace_reader.specs.Orders.{Each, AreRising}
use Rattle.trace_reader.specs.Opps.{last_moment}
use Rattle.trace_reader.specs.Traces.{TraceView, IsTrace, AreOfForm}
use Rattle.text_base.specs.Words.{first_word, other_words}
use Rattle.trace_reader.specs.TraceText.{form_of, lines_before, stated, said_of, said, IsTraceText, trace_text}
use Rattle.text_base.specs.Refusals.{or_later}
use Rattle.trace_reader.specs.Reading.{fault_of, end_fault, moment_after, first_fault, trace_fault}
use Rattle.trace_reader.proofs.OrderLemmas.{each_map, each_append, rising-append, last_latest}
use Rattle.trace_reader.proofs.TextLaws.{printed_text, same_trace}

-- the last moment, from one before
abbrev last_from : ℕ → List Opportunity → ℕ
last_from low [] = low
last_from low (o ∷ opps) = last_from o.moment opps

last_from-is : (low : ℕ) (o : Opportunity) (opps : List Opportunity) → last_from low (o ∷ opps) ≡ last_moment (o ∷ opps)
last_from-is low o [] = refl
last_from-is low o (p ∷ ps) = last_from-is o.moment p ps

-- each moment is at least the one before it, the first at least this one
abbrev Climb : ℕ → List Opportunity → Type 0
Climb low [] = Unit {0}
Climb low (o ∷ opps) = (low ≤ o.moment) × Climb o.moment opps

climb : (low : ℕ) (opps : List Opportunity) → Each (λ o. low ≤ o.moment) opps → AreRising opps → Climb low opps
climb low [] from r = tt
climb low (o ∷ opps) from r = (from.0, climb o.moment opps r.0 r.1)

no_fault : (line low : ℕ) (o : Opportunity) → low ≤ o.moment → fault_of line low (Some (said o)) ≡ None
no_fault line low o le = let some = o.some in let most = o.most in grind (arith, nat_tests)

lines_no_fault : (form : TraceForm) (count low : ℕ) (lines : List (List ℕ)) (opps : List Opportunity)
    → map (said_of form) lines ≡ map (λ o. Some (said o)) opps
    → count + length opps ≤ 1000000 → Climb low opps
    → first_fault form count low lines ≡ end_fault (count + length opps) (last_from low opps)
lines_no_fault form count low [] [] e few c = let same : count ≡ count + 0 = omega arith
    in ap (λ (n : ℕ). end_fault n low) same
lines_no_fault form count low [] (o ∷ opps) e few c = absurd cc
lines_no_fault form count low (line ∷ lines) [] e few c = absurd cc
lines_no_fault form count low (line ∷ lines) (o ∷ opps) e few c =
    let first : said_of form line ≡ Some (said o) = cc in
    let rest : map (said_of form) lines ≡ map (λ o. Some (said o)) opps = cc in
    let room : nat_le 1000000 count ≡ false = lt-leb 1000000 count (omega arith) in
    let number = lines_before form + count + 1 in
    let sum : count + 1 + length opps ≡ count + suc (length opps) = omega arith in
    ap (λ b. cond b (Some errors.TooManyLines)
    (or_later (fault_of number low (said_of form line))
    (first_fault form (count + 1) (moment_after (said_of form line)) lines))) room
    ∙ ap (λ s. or_later (fault_of number low s) (first_fault form (count + 1) (moment_after s) lines)) first
    ∙ ap (λ f. or_later f (first_fault form (count + 1) o.moment lines)) (no_fault number low o c.0)
    ∙ lines_no_fault form (count + 1) o.moment lines opps rest (omega arith) c.1
    ∙ ap (λ (n : ℕ). end_fault n (last_from o.moment opps)) sum

-- a text of a trace has no refusal
pub text_no_fault : (text : List ℕ) (t : TraceView) → IsTraceText text t → trace_fault text ≡ None
text_no_fault text t is =
    let trace = is.trace in
    let few = trace.few in
    let lines : map (said_of (form_of (lines_of text))) (stated (lines_of text)) ≡ map (λ o. Some (said o))
    t.opportunities =
    ap (λ (f : TraceForm). map (said_of f) (stated (lines_of text))) is.form ∙ is.said in
    lines_no_fault (form_of (lines_of text)) 0 0 (stated (lines_of text)) t.opportunities lines (omega arith)
    (climb 0 t.opportunities (from_zero t.opportunities) trace.rising)
    ∙ no_end_fault t.opportunities trace.some trace.last_some
  where
    from_zero : (opps : List Opportunity) → Each (λ o. 0 ≤ o.moment) opps
    from_zero [] = tt
    from_zero (o ∷ opps) = (omega arith, from_zero opps)

    no_end_fault : (opps : List Opportunity) → 0 < length opps → 0 < last_moment opps
        → end_fault (0 + length opps) (last_from 0 opps) ≡ None
    no_end_fault [] some last = absurd (omega arith)
    no_end_fault (o ∷ opps) some last =
        let same : last_from 0 (o ∷ opps) ≡ last_moment (o ∷ opps) = last_from-is 0 o opps in
        let positive : 0 < last_from 0 (o ∷ opps) = omega arith in
        let counted : (0 + length (o ∷ opps) == 0) ≡ false = grind (arith, nat_tests) in
        let late : (last_from 0 (o ∷ opps) == 0) ≡ false = grind (arith, nat_tests) in
        ap (λ b. cond b (Some errors.Empty) (cond (last_from 0 (o ∷ opps) == 0) (Some errors.ZeroLength) None))
        counted ∙ ap (λ b. cond b (Some errors.ZeroLength) None) late

only_memory : (text : List ℕ) (t : TraceView) (fault : TraceError) → IsTraceText text t
    → (fault ≢ errors.OutOfMemory → trace_fault text ≡ Some fault) → fault ≡ errors.OutOfMemory
only_memory text t errors.Empty is h = let none = text_no_fault text t is in let some = h (λ q. cc) in cc
only_memory text t (errors.BadLine line) is h = let none = text_no_fault text t is in let some = h (λ q. cc) in cc
only_memory text t (errors.Decreasing line) is h = let none = text_no_fault text t is in let some = h (λ q. cc) in cc
only_memory text t errors.ZeroLength is h = let none = text_no_fault text t is in let some = h (λ q. cc) in cc
only_memory text t errors.TooManyLines is h = let none = text_no_fault text t is in let some = h (λ q. cc) in cc
only_memory text t (errors.BadBytes line) is h = let none = text_no_fault text t is in let some = h (λ q. cc) in cc
only_memory text t errors.OutOfMemory is h = refl

-- what the call answers
pub every_text : (text : List ℕ) (result : Result TraceView TraceError)
    → IfOk result (λ trace. IsTraceText text trace)
    → MatchResult result (λ _. trace_fault text ≡ None) (λ e. e ≢ errors.OutOfMemory → trace_fault text ≡ Some e)
    → (t : TraceView) → IsTraceText text t → MatchResult result (λ trace. trace ≡ t) (λ e. e ≡ errors.OutOfMemory)
every_text text (Ok trace) found exact t is = same_trace text trace t found is
every_text text (Err fault) found exact t is = only_memory text t fault is exact

pub every_printed : (text : List ℕ) (result : Result TraceView TraceError)
    → IfOk result (λ trace. IsTraceText text trace)
    → MatchResult result (λ _. trace_fault text ≡ None) (λ e. e ≢ errors.OutOfMemory → trace_fault text ≡ Some e)
    → (t : TraceView) → IsTrace t → text ≡ trace_text t
    → MatchResult result (λ trace. trace ≡ t) (λ e. e ≡ errors.OutOfMemory)
every_printed text result found exact t is e = every_text text result found exact t (printed_text text t is e)

-- What was read so far: these opportunities, the last at this moment.
pub record IsRead (form : TraceForm) (opps : List Opportunity) (low : ℕ) : Type 0 where
  pub rising : AreRising opps
  pub last : low ≡ last_moment opps
  pub short : low ≤ 9999999999
  pub bytes : AreOfForm form opps

pub none_read : (form : TraceForm) (opps : List Opportunity) → opps ≡ [] → IsRead form opps 0
none_read form opps e = subst (λ (l : List Opportunity). IsRead form l 0) (sym e)
    (record { rising = tt; last = refl; short = omega arith; bytes = no_bytes form })
  where
    no_bytes : (form : TraceForm) → AreOfForm form []
    no_bytes Moments = tt
    no_bytes MomentsAndBytes = tt

and_then : {X Y : Type 0} (o : Option X) (f : X → Option Y) (y : Y) → option_and_then f o ≡ Some y → (x : X)
    × (o ≡ Some x) × (f x ≡ Some y)
and_then None f y e = cc
and_then (Some x) f y e = (x, refl, e)

pub said_short : (form : TraceForm) (line : List ℕ) (o : Opportunity) → said_of form line ≡ Some (said o)
    → o.moment ≤ 9999999999
said_short Moments line o e =
    let m = and_then (decimal_of line) (λ (m : ℕ). Some (m, 1504)) (said o) e in
    let pair : (m.0, 1504) ≡ said o = cc in
    let small = (decimal_of-Some line m.0 m.1).small in
    let same : m.0 ≡ o.moment = ap (λ p. p.0) pair in
    omega arith
said_short MomentsAndBytes line o e =
    let m = and_then (decimal_of (first_word line))
    (λ (m : ℕ). option_and_then (λ (b : ℕ). Some (m, b)) (decimal_of (other_words line))) (said o) e in
    let b = and_then (decimal_of (other_words line)) (λ (b : ℕ). Some (m.0, b)) (said o) m.2 in
    let pair : (m.0, b.0) ≡ said o = cc in
    let small = (decimal_of-Some (first_word line) m.0 m.1).small in
    let same : m.0 ≡ o.moment = ap (λ p. p.0) pair in
    omega arith

said_bytes : (form : TraceForm) (line : List ℕ) (o : Opportunity) → said_of form line ≡ Some (said o)
    → AreOfForm form (o ∷ [])
said_bytes Moments line o e =
    let m = and_then (decimal_of line) (λ (m : ℕ). Some (m, 1504)) (said o) e in
    let pair : (m.0, 1504) ≡ said o = cc in
    (sym (ap (λ p. p.1) pair), tt)
said_bytes MomentsAndBytes line o e = tt

of_form-append : (form : TraceForm) (xs ys : List Opportunity) → AreOfForm form xs → AreOfForm form ys
    → AreOfForm form (xs ++ ys)
of_form-append Moments xs ys a b = each_append (λ o. o.bytes ≡ 1504) xs ys a b
of_form-append MomentsAndBytes xs ys a b = tt

last_moment-push : (opps : List Opportunity) (o : Opportunity) → last_moment (opps ++ o ∷ []) ≡ o.moment
last_moment-push [] o = refl
last_moment-push (p ∷ []) o = refl
last_moment-push (p ∷ q ∷ qs) o = last_moment-push (q ∷ qs) o

-- and one opportunity more
pub add_one : (form : TraceForm) (opps opps' : List Opportunity) (low : ℕ) (o : Opportunity) → IsRead form opps low
    → low ≤ o.moment → o.moment ≤ 9999999999 → AreOfForm form (o ∷ [])
    → opps' ≡ opps ++ o ∷ [] → IsRead form opps' o.moment
add_one form opps opps' low o is le short plain more =
    let last = is.last in
    let below : Each (λ p. p.moment ≤ low) opps = each_map (λ (p : Opportunity). p.moment ≤ last_moment opps)
    (λ p. p.moment ≤ low) opps (λ p h. omega arith) (last_latest opps is.rising) in
    subst (λ (l : List Opportunity). IsRead form l o.moment) (sym more) (record {
      rising = rising-append low opps (o ∷ []) is.rising (tt, tt) below (le, tt);
      last = sym (last_moment-push opps o);
      short = short;
      bytes = of_form-append form opps (o ∷ []) is.bytes plain;
    })

pub read_more : (form : TraceForm) (opps opps' : List Opportunity) (low : ℕ) (line : List ℕ) (o : Opportunity)
    → IsRead form opps low → said_of form line ≡ Some (said o)
    → low ≤ o.moment → opps' ≡ opps ++ o ∷ [] → IsRead form opps' o.moment
read_more form opps opps' low line o is e le more = add_one form opps opps' low o is le (said_short form line o e)
    (said_bytes form line o e) more

pub said_more : (form : TraceForm) (lines rest : List (List ℕ)) (line : List ℕ) (opps opps' : List Opportunity)
    (o : Opportunity)
    → map (said_of form) lines ≡ map (λ p. Some (said p)) opps ++ map (said_of form) (line ∷ rest)
    → said_of form line ≡ Some (said o) → opps' ≡ opps ++ o ∷ []
    → map (said_of form) lines ≡ map (λ p. Some (said p)) opps' ++ map (said_of form) rest
said_more form lines rest line opps opps' o all e more =
    all
    ∙ ap (λ s. map (λ (p : Opportunity). Some (said p)) opps ++ s ∷ map (said_of form) rest) e
    ∙ sym (append_assoc (map (λ (p : Opportunity). Some (said p)) opps) (Some (said o) ∷ []) (map (said_of form) rest))
    ∙ ap (λ l. l ++ map (said_of form) rest) (sym (map-append (λ (p : Opportunity). Some (said p)) opps (o ∷ [])))
    ∙ ap (λ (l : List Opportunity). map (λ (p : Opportunity). Some (said p)) l ++ map (said_of form) rest) (sym more)

pub all_read : (form : TraceForm) (opps : List Opportunity) (low : ℕ) → IsRead form opps low → 0 < length opps
    → length opps ≤ 1000000 → low ≢ 0
    → IsTrace (record { form = form; opportunities = opps })
all_read form opps low is some few other =
    let last = is.last in
    let short = is.short in
    record {
      some = some;
      few = few;
      rising = is.rising;
      last_some = omega arith;
      last_most = omega arith;
      bytes = is.bytes;
    }
