-- The texts of traces.
use Rattle.std.specs.Prelude.{◌≡◌, ℕ, List, [], ◌∷◌, ◌++◌, Option, Some, option_and_then, codes, decimal, drop, map}
use Rattle.std.specs.Prelude.{if◌then◌else◌}
use Rattle.std.specs.List.{flat_map}
use Rattle.std.specs.Str.{bytes_eq}
use Rattle.text_base.specs.Lines.{lines_of}
use Rattle.text_base.specs.Numbers.{decimal_of}
use Rattle.text_base.specs.Words.{first_word, other_words}
use Rattle.trace_reader.specs.declared.opportunity.Opportunity.{Opportunity}
use Rattle.trace_reader.specs.declared.opportunity.TraceForm.{TraceForm}
use Rattle.trace_reader.specs.declared.opportunity.TraceForm.TheVariants.{Moments, MomentsAndBytes}
use Rattle.trace_reader.specs.Traces.{TraceView, IsTrace}

-- the first line of a text that states bytes
abbrev pub bytes_header : List ℕ
bytes_header = codes "# mm-trace 2"

-- the form of a text with these lines
abbrev pub form_of : List (List ℕ) → TraceForm
form_of [] = Moments
form_of (line ∷ lines) = if bytes_eq line bytes_header then MomentsAndBytes else Moments

-- how many lines stand before those of the opportunities
abbrev pub lines_before : TraceForm → ℕ
lines_before Moments = 0
lines_before MomentsAndBytes = 1

-- the lines of the opportunities
abbrev pub stated : List (List ℕ) → List (List ℕ)
stated lines = drop (lines_before (form_of lines)) lines

infixl 10 ◌>>=◌
abbrev pub ◌>>=◌ : {A B : Type 0} → Option A → (A → Option B) → Option B
o >>= f = option_and_then f o

-- the moment and the bytes that a line states, before any range is looked at: a decimal, or two with a single space
abbrev pub said_of : TraceForm → List ℕ → Option (ℕ × ℕ)
said_of Moments line = do
  moment ← decimal_of line
  Some (moment, 1504)
said_of MomentsAndBytes line = do
  moment ← decimal_of (first_word line)
  bytes ← decimal_of (other_words line)
  Some (moment, bytes)

-- what is said of an opportunity
abbrev pub said : Opportunity → ℕ × ℕ
said o = (o.moment, o.bytes)

-- the text of a trace: its lines, one after another, state its opportunities in its form
pub record IsTraceText (text : List ℕ) (t : TraceView) : Type 0 where
  pub form : form_of (lines_of text) ≡ t.form
  pub said : map (said_of t.form) (stated (lines_of text)) ≡ map (λ o. Some (said o)) t.opportunities
  pub trace : IsTrace t

-- the line that is printed of an opportunity
abbrev pub line_of : TraceForm → Opportunity → List ℕ
line_of Moments o = decimal o.moment
line_of MomentsAndBytes o = decimal o.moment ++ 32 ∷ decimal o.bytes

abbrev pub header_text : TraceForm → List ℕ
header_text Moments = []
header_text MomentsAndBytes = bytes_header ++ 10 ∷ []

-- the text that is printed of a trace
abbrev pub trace_text : TraceView → List ℕ
trace_text t = header_text t.form ++ flat_map (λ o. line_of t.form o ++ 10 ∷ []) t.opportunities
