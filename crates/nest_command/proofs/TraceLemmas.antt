-- The trace of a text is the one that its lines state.
use Rattle.std.proofs.Common.{◌≡◌, ℕ, Bool, true, false, List, [], ◌∷◌, ◌++◌, Some, map, nat_le, refl, ap, ◌∙◌, rules}
use Rattle.std.proofs.Common.{tests}
use Rattle.std.proofs.lemmas.Bool.{leb-true}
use Rattle.text_base.specs.Lines.{lines_of}
use Rattle.trace_reader.specs.declared.opportunity.Opportunity.{Opportunity}
use Rattle.trace_reader.specs.declared.opportunity.TraceForm.{TraceForm}
use Rattle.trace_reader.specs.TraceText.{IsTraceText, said, said_of, stated}
use Rattle.trace_reader.specs.Traces.{TraceView}
use Rattle.trace_reader.proofs.Fields.{same_opportunity}
use Rattle.trace_reader.specs.TraceIn.{opportunity_within, opportunity_said, opportunities_said, trace_in}

within : (m n : ℕ) (some most : Bool) (e : nat_le 1 n ≡ some) (f : nat_le n 1000000 ≡ most) (o : Opportunity)
    → some ≡ true → most ≡ true → m ≡ o.moment → n ≡ o.bytes
    → opportunity_within m n some most e f ≡ o ∷ []
within m n true true e f o p q moment bytes =
    ap (λ (x : Opportunity). x ∷ []) (same_opportunity o m n (leb-true 1 n e) (leb-true n 1000000 f) moment bytes)
within m n true false e f o p q moment bytes = absurd (cc q)
within m n false most e f o p q moment bytes = absurd (cc p)

said_again : (o : Opportunity) → opportunity_said (Some (said o)) ≡ o ∷ []
said_again o =
    let some : nat_le 1 o.bytes ≡ true = search (rules, tests, o.some) in
    let most : nat_le o.bytes 1000000 ≡ true = search (rules, tests, o.most) in
    within o.moment o.bytes (nat_le 1 o.bytes) (nat_le o.bytes 1000000) refl refl o some most refl refl

pub all_said : (form : TraceForm) (lines : List (List ℕ)) (opps : List Opportunity)
    → map (said_of form) lines ≡ map (λ o. Some (said o)) opps → opportunities_said form lines ≡ opps
all_said form [] [] e = refl
all_said form [] (o ∷ opps) e = absurd (cc e)
all_said form (line ∷ lines) [] e = absurd (cc e)
all_said form (line ∷ lines) (o ∷ opps) e =
    let first : said_of form line ≡ Some (said o) = cc e in
    let rest : map (said_of form) lines ≡ map (λ o. Some (said o)) opps = cc e in
    let front : opportunity_said (said_of form line) ≡ o ∷ [] = ap opportunity_said first ∙ said_again o in
    λ j. front j ++ all_said form lines opps rest j

pub trace_is : (text : List ℕ) (t : TraceView) → IsTraceText text t → trace_in text ≡ t
unfolding trace_in
trace_is text t is =
    ap (λ (form : TraceForm). record { form = form; opportunities = opportunities_said form (stated (lines_of text)) })
    is.form
    ∙ ap (λ (opps : List Opportunity). record { form = t.form; opportunities = opps })
    (all_said t.form (stated (lines_of text)) t.opportunities is.said)
