-- The printed text of a trace is a text of it, and a text has one trace.
use Rattle.std.proofs.Common.{◌≡◌, ℕ, ◌<◌, ◌≤◌, ◌++◌, ◌&&◌, true, false, cond, List, [], ◌∷◌, length, map, drop, Option}
use Rattle.std.proofs.Common.{Some, None, refl, ap, sym, subst, ◌∙◌, arith}
use Rattle.std.specs.List.{list_all, flat_map}
use Rattle.std.specs.Fmt.{decimal}
use Rattle.std.specs.Option.{option_and_then}
use Rattle.std.specs.Str.{bytes_eq}
use Rattle.std.proofs.lemmas.Slice.Eq.{bytes_eq-Decides}
use Rattle.text_base.specs.Lines.{lines_of}
use Rattle.text_base.specs.Lines.{is_one_line}
use Rattle.text_base.specs.Numbers.{decimal_of}
use Rattle.text_base.proofs.NumbersLemmas.{decimal_of-decimal, no_space-decimal, is_one_line-decimal}
use Rattle.text_base.proofs.TextLemmas.{lines_of-printed, is_one_line-append}
use Rattle.trace_reader.specs.declared.opportunity.Opportunity.{Opportunity}
use Rattle.trace_reader.specs.declared.opportunity.TraceForm.{TraceForm}
use Rattle.trace_reader.specs.declared.opportunity.TraceForm.TheVariants.{Moments, MomentsAndBytes}
use Rattle.trace_reader.specs.Orders.{Each}
use Rattle.trace_reader.specs.Opps.{last_moment}
use Rattle.trace_reader.specs.Traces.{TraceView, IsTrace, AreOfForm}
use Rattle.text_base.specs.Words.{first_word, other_words}
use Rattle.trace_reader.specs.TraceText.{bytes_header, form_of, lines_before, stated, said_of, said, IsTraceText}
use Rattle.trace_reader.specs.TraceText.{line_of, trace_text}
use Rattle.trace_reader.proofs.Fields.{same_opportunity}
use Rattle.trace_reader.proofs.OrderLemmas.{each_map, last_latest}
use Rattle.text_base.proofs.WordsLemmas.{first_word-spaced, other_words-spaced}

-- what a printed line states
plain_said : (o : Opportunity) → o.moment ≤ 9999999999 → o.bytes ≡ 1504
    → said_of Moments (line_of Moments o) ≡ Some (said o)
plain_said o short e =
    ap (option_and_then (λ (m : ℕ). Some (m, 1504))) (decimal_of-decimal o.moment (omega arith))
    ∙ ap (λ (b : ℕ). Some (o.moment, b)) (sym e)

pair_said : (o : Opportunity) → o.moment ≤ 9999999999 → said_of MomentsAndBytes (line_of MomentsAndBytes o) ≡ Some
    (said o)
pair_said o short =
    let line = decimal o.moment ++ 32 ∷ decimal o.bytes in
    let most = o.most in
    let none = no_space-decimal o.moment (omega arith) in
    let first : decimal_of (first_word line) ≡ Some o.moment =
    ap decimal_of (first_word-spaced (decimal o.moment) (decimal o.bytes) none)
    ∙ decimal_of-decimal o.moment (omega arith) in
    let second : decimal_of (other_words line) ≡ Some o.bytes =
    ap decimal_of (other_words-spaced (decimal o.moment) (decimal o.bytes) none)
    ∙ decimal_of-decimal o.bytes (omega arith) in
    ap (λ (d : Option ℕ). option_and_then
    (λ (m : ℕ). option_and_then (λ (b : ℕ). Some (m, b)) (decimal_of (other_words line))) d) first
    ∙ ap (λ (d : Option ℕ). option_and_then (λ (b : ℕ). Some (o.moment, b)) d) second

lines_said : (form : TraceForm) (opps : List Opportunity) → Each (λ o. o.moment ≤ 9999999999) opps → AreOfForm form opps
    → map (said_of form) (map (line_of form) opps) ≡ map (λ o. Some (said o)) opps
lines_said Moments [] short plain = refl
lines_said Moments (o ∷ opps) short plain =
    ap (λ s. s ∷ map (said_of Moments) (map (line_of Moments) opps)) (plain_said o short.0 plain.0)
    ∙ ap (λ l. Some (said o) ∷ l) (lines_said Moments opps short.1 plain.1)
lines_said MomentsAndBytes [] short plain = refl
lines_said MomentsAndBytes (o ∷ opps) short plain =
    ap (λ s. s ∷ map (said_of MomentsAndBytes) (map (line_of MomentsAndBytes) opps)) (pair_said o short.0)
    ∙ ap (λ l. Some (said o) ∷ l) (lines_said MomentsAndBytes opps short.1 plain)

-- no printed line has a line feed
one_line : (form : TraceForm) (o : Opportunity) → o.moment ≤ 9999999999 → is_one_line (line_of form o) ≡ true
one_line Moments o short = is_one_line-decimal o.moment (omega arith)
one_line MomentsAndBytes o short =
    let most = o.most in
    is_one_line-append (decimal o.moment) (32 ∷ decimal o.bytes) (is_one_line-decimal o.moment (omega arith))
    (is_one_line-decimal o.bytes (omega arith))

all_one : (form : TraceForm) (opps : List Opportunity) → Each (λ o. o.moment ≤ 9999999999) opps
    → list_all (λ o. is_one_line (line_of form o)) opps ≡ true
all_one form [] short = refl
all_one form (o ∷ opps) short =
    ap (λ b. b && list_all (λ (p : Opportunity). is_one_line (line_of form p)) opps) (one_line form o short.0)
    ∙ all_one form opps short.1

printed_lines : (form : TraceForm) (opps : List Opportunity) → Each (λ o. o.moment ≤ 9999999999) opps
    → lines_of (flat_map (λ o. line_of form o ++ 10 ∷ []) opps) ≡ map (line_of form) opps
printed_lines form opps short = lines_of-printed (line_of form) opps (all_one form opps short)

-- a printed moment is no first line of the other form
not_header : (n : ℕ) → n ≤ 9999999999 → bytes_eq (decimal n) bytes_header ≡ false
not_header n short =
    elim (bytes_eq (decimal n) bytes_header) as (λ b. bytes_eq (decimal n) bytes_header ≡ b → b ≡ false) [
      | true ↦ λ e.
          let same : decimal n ≡ bytes_header = (bytes_eq-Decides (decimal n) bytes_header).0 e in
          let is : decimal_of (decimal n) ≡ Some n = decimal_of-decimal n (omega arith) in
          let no : decimal_of bytes_header ≡ None = refl in
          let both : None ≡ Some n = sym no ∙ ap decimal_of (sym same) ∙ is in
          absurd cc
      | false ↦ λ e. refl
    ] refl

all_short : (t : TraceView) → IsTrace t → Each (λ o. o.moment ≤ 9999999999) t.opportunities
all_short t is =
    let most = is.last_most in
    each_map (λ (o : Opportunity). o.moment ≤ last_moment t.opportunities) (λ o. o.moment ≤ 9999999999)
    t.opportunities (λ o le. omega arith) (last_latest t.opportunities is.rising)

plain_form : (opps : List Opportunity) → 0 < length opps → Each (λ o. o.moment ≤ 9999999999) opps
    → form_of (map (line_of Moments) opps) ≡ Moments
plain_form [] some short = absurd (omega arith)
plain_form (o ∷ opps) some short = ap (λ b. cond b MomentsAndBytes Moments) (not_header o.moment short.0)

abbrev dropped : TraceForm → List (List ℕ) → List (List ℕ)
dropped form lines = drop (lines_before form) lines

plain_text : (opps : List Opportunity) → IsTrace (record { form = Moments; opportunities = opps })
    → IsTraceText (trace_text (record { form = Moments; opportunities = opps }))
    (record { form = Moments; opportunities = opps })
plain_text opps is =
    let short = all_short (record { form = Moments; opportunities = opps }) is in
    let lines = printed_lines Moments opps short in
    let form : form_of (lines_of (trace_text (record { form = Moments; opportunities = opps }))) ≡ Moments =
    ap form_of lines ∙ plain_form opps is.some short in
    let no_more : stated (map (line_of Moments) opps) ≡ map (line_of Moments) opps = undropped opps is.some short in
    record {
      form = form;
      said = ap (λ (ls : List (List ℕ)). map (said_of Moments) (stated ls)) lines ∙ ap (map (said_of Moments)) no_more
          ∙ lines_said Moments opps short is.bytes;
      trace = is;
    }
  where
    undropped : (opps : List Opportunity) → 0 < length opps → Each (λ o. o.moment ≤ 9999999999) opps
        → stated (map (line_of Moments) opps) ≡ map (line_of Moments) opps
    undropped opps some short = ap (λ (f : TraceForm). dropped f (map (line_of Moments) opps))
        (plain_form opps some short)

pair_text : (opps : List Opportunity) → IsTrace (record { form = MomentsAndBytes; opportunities = opps })
    → IsTraceText (trace_text (record { form = MomentsAndBytes; opportunities = opps }))
    (record { form = MomentsAndBytes; opportunities = opps })
pair_text opps is =
    let short = all_short (record { form = MomentsAndBytes; opportunities = opps }) is in
    let lines : lines_of (trace_text (record { form = MomentsAndBytes; opportunities = opps })) ≡ bytes_header ∷ map
    (line_of MomentsAndBytes) opps =
    ap (λ (ls : List (List ℕ)). bytes_header ∷ ls) (printed_lines MomentsAndBytes opps short) in
    record {
      form = ap form_of lines;
      said = ap (λ (ls : List (List ℕ)). map (said_of MomentsAndBytes) (stated ls)) lines
          ∙ lines_said MomentsAndBytes opps short is.bytes;
      trace = is;
    }

by_form : (form : TraceForm) (opps : List Opportunity) → IsTrace (record { form = form; opportunities = opps })
    → IsTraceText (trace_text (record { form = form; opportunities = opps }))
    (record { form = form; opportunities = opps })
by_form Moments opps is = plain_text opps is
by_form MomentsAndBytes opps is = pair_text opps is

-- the printed text of a trace is a text of it
pub printed_text : (text : List ℕ) (t : TraceView) → IsTrace t → text ≡ trace_text t → IsTraceText text t
printed_text text t is e = subst (λ (b : List ℕ). IsTraceText b t) (sym e) (by_form t.form t.opportunities is)

-- a text has one trace
same_list : (xs ys : List Opportunity) → map (λ o. Some (said o)) xs ≡ map (λ o. Some (said o)) ys → xs ≡ ys
same_list [] [] e = refl
same_list [] (y ∷ ys) e = absurd cc
same_list (x ∷ xs) [] e = absurd cc
same_list (x ∷ xs) (y ∷ ys) e =
    let first : said x ≡ said y = cc in
    let rest : map (λ o. Some (said o)) xs ≡ map (λ o. Some (said o)) ys = cc in
    let same : x ≡ y = same_opportunity y x.moment x.bytes x.some x.most (ap (λ p. p.0) first) (ap (λ p. p.1) first) in
    ap (λ z. z ∷ xs) same ∙ ap (λ l. y ∷ l) (same_list xs ys rest)

pub same_trace : (text : List ℕ) (t u : TraceView) → IsTraceText text t → IsTraceText text u → t ≡ u
same_trace text t u is is' =
    let form : t.form ≡ u.form = sym is.form ∙ is'.form in
    let lines : map (λ o. Some (said o)) t.opportunities ≡ map (λ o. Some (said o)) u.opportunities =
    sym is.said ∙ ap (λ (f : TraceForm). map (said_of f) (stated (lines_of text))) form ∙ is'.said in
    ap (λ (f : TraceForm). record t { form = f }) form ∙ ap (λ (l : List Opportunity). record u { opportunities = l })
    (same_list t.opportunities u.opportunities lines)
