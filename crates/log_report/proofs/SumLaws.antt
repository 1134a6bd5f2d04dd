-- Sums over entries, one entry more.
use Rattle.std.proofs.Common.{get_or, zero, suc, ◌≡◌, ℕ, ◌+◌, ◌<◌, ◌==◌, ◌++◌, Bool, true, false, cond, List, [], ◌∷◌}
use Rattle.std.proofs.Common.{length, Option, refl, ap, sym, ◌∙◌, arith, length-append, append-nil}
use Rattle.std.specs.Prelude.{fold}
use Rattle.std.specs.List.{filter_map, sum}
use Rattle.std.proofs.lemmas.Bool.{eqb-true}
use Rattle.std.proofs.lemmas.List.Sums.{sum_by-cons, sum_by-append}
use Rattle.std.proofs.lemmas.List.Elements.{filter_map-append}
use Rattle.shell_log.specs.declared.entry.Entry.{Entry}
use Rattle.shell_log.specs.Entries.{IsEntry, IsLog, moment_of}
use Rattle.log_report.specs.declared.sums.Sum.{Sum}
use Rattle.log_report.specs.Reports.{delay_of, dropped_packets}
use Rattle.log_report.specs.Reports.{dropped_bytes, count_in, sum_in, first_moment}
use Rattle.log_report.specs.Summed.{ArePassed, IsSum, AreDrops}

said_no : (said : Entry → Option ℕ) (es : List Entry) (e : Entry) → filter_map said (e ∷ []) ≡ []
    → filter_map said (es ++ e ∷ []) ≡ filter_map said es
said_no said es e none = filter_map-append said es (e ∷ []) ∙ ap (λ (l : List ℕ). filter_map said es ++ l) none
    ∙ append-nil (filter_map said es)

said_yes : (said : Entry → Option ℕ) (es : List Entry) (e : Entry) (x : ℕ) → filter_map said (e ∷ []) ≡ x ∷ []
    → filter_map said (es ++ e ∷ []) ≡ filter_map said es ++ x ∷ []
said_yes said es e x one = filter_map-append said es (e ∷ []) ∙ ap (λ (l : List ℕ). filter_map said es ++ l) one

sum_yes : (said : Entry → Option ℕ) (es : List Entry) (e : Entry) (x : ℕ) → filter_map said (e ∷ []) ≡ x ∷ []
    → sum_in said (es ++ e ∷ []) ≡ sum_in said es + x
sum_yes said es e x one =
    ap sum (said_yes said es e x one) ∙ sum_by-append (λ (z : ℕ). z) (filter_map said es) (x ∷ [])
    ∙ ap (λ (n : ℕ). sum_in said es + n) (let e : sum (x ∷ []) ≡ x = sum_by-cons (λ (z : ℕ). z) x [] ∙ omega arith in e)

count_yes : (said : Entry → Option ℕ) (es : List Entry) (e : Entry) (x : ℕ) → filter_map said (e ∷ []) ≡ x ∷ []
    → count_in said (es ++ e ∷ []) ≡ count_in said es + 1
count_yes said es e x one = ap length (said_yes said es e x one) ∙ length-append (filter_map said es) (x ∷ [])

pub sum_more : (said : Entry → Option ℕ) (es : List Entry) (e : Entry) (x sum : ℕ) → filter_map said (e ∷ []) ≡ x ∷ []
    → sum ≡ sum_in said es → sum + x ≡ sum_in said (es ++ e ∷ [])
sum_more said es e x sum one is = ap (λ (n : ℕ). n + x) is ∙ sym (sum_yes said es e x one)

pub sum_same : (said : Entry → Option ℕ) (es : List Entry) (e : Entry) (sum : ℕ) → filter_map said (e ∷ []) ≡ []
    → sum ≡ sum_in said es → sum ≡ sum_in said (es ++ e ∷ [])
sum_same said es e total none is = is ∙ sym (ap sum (said_no said es e none))

pub in_sum : (said : Entry → Option ℕ) (es : List Entry) (e : Entry) (x count bytes : ℕ)
    → filter_map said (e ∷ []) ≡ x ∷ [] → (count ≡ count_in said es) × (bytes ≡ sum_in said es)
    → (count + 1 ≡ count_in said (es ++ e ∷ [])) × (bytes + x ≡ sum_in said (es ++ e ∷ []))
in_sum said es e x count bytes one is = (
  ap (λ (n : ℕ). n + 1) is.0 ∙ sym (count_yes said es e x one),
  ap (λ (n : ℕ). n + x) is.1 ∙ sym (sum_yes said es e x one),
)

pub not_in_sum : (said : Entry → Option ℕ) (es : List Entry) (e : Entry) (s : Sum) → filter_map said (e ∷ []) ≡ []
    → IsSum said es s → IsSum said (es ++ e ∷ []) s
not_in_sum said es e s none is = (
  is.0 ∙ sym (ap length (said_no said es e none)),
  is.1
      ∙ sym (ap sum (said_no said es e none)),
)

pub in_drops : (es : List Entry) (e : Entry) (packets bytes count all : ℕ)
    → filter_map dropped_packets (e ∷ []) ≡ packets ∷ [] → filter_map dropped_bytes (e ∷ []) ≡ bytes ∷ []
    → (count ≡ sum_in dropped_packets es) × (all ≡ sum_in dropped_bytes es)
    → (count + packets ≡ sum_in dropped_packets (es ++ e ∷ []))
    × (all + bytes ≡ sum_in dropped_bytes (es ++ e ∷ []))
in_drops es e packets bytes count all one other is = (
  ap (λ (n : ℕ). n + packets) is.0 ∙ sym (sum_yes dropped_packets es e packets one),
  ap (λ (n : ℕ). n + bytes) is.1 ∙ sym (sum_yes dropped_bytes es e bytes other),
)

pub not_in_drops : (es : List Entry) (e : Entry) (s : Sum) → filter_map dropped_packets (e ∷ []) ≡ []
    → filter_map dropped_bytes (e ∷ []) ≡ [] → AreDrops es s → AreDrops (es ++ e ∷ []) s
not_in_drops es e s none other is = (
  is.0 ∙ sym (ap sum (said_no dropped_packets es e none)),
  is.1
      ∙ sym (ap sum (said_no dropped_bytes es e other)),
)

pub no_delay : (es : List Entry) (e : Entry) → filter_map delay_of (e ∷ []) ≡ []
    → filter_map delay_of es ≡ filter_map delay_of (es ++ e ∷ [])
no_delay es e none = sym (said_no delay_of es e none)

pub one_delay : (es : List Entry) (e : Entry) (x : ℕ) → filter_map delay_of (e ∷ []) ≡ x ∷ [] → filter_map delay_of es
    ++ x ∷ [] ≡ filter_map delay_of (es ++ e ∷ [])
one_delay es e x one = sym (said_yes delay_of es e x one)

last-push : (low : ℕ) (es : List Entry) (e : Entry) → fold (λ moment d. moment_of d) low (es ++ e ∷ []) ≡ moment_of e
last-push low [] e = refl
last-push low (d ∷ es) e = last-push (moment_of d) es e

first-push : (es : List Entry) (e : Entry) (n first : ℕ) → n ≡ length es → first ≡ first_moment es
    → cond (n == 0) (moment_of e) first ≡ first_moment (es ++ e ∷ [])
first-push [] e n first count is = ap (λ (k : ℕ). cond (k == 0) (moment_of e) first) count
first-push (d ∷ es) e n first count is = ap (λ (b : Bool). cond b (moment_of e) first) (some (n == 0) refl) ∙ is
  where
    some : (b : Bool) → (n == 0) ≡ b → b ≡ false
    some true e = let none = eqb-true n 0 e in absurd (omega arith)
    some false e = refl

pub passed_more : (es : List Entry) (e : Entry) (n first last first' last' moment : ℕ) → ArePassed es n first last
    → moment ≡ moment_of e → first' ≡ cond (n == 0) moment first → last' ≡ moment_of e
    → ArePassed (es ++ e ∷ []) (n + 1) first' last'
passed_more es e n first last first' last' moment are at is is' = (
  ap (λ (k : ℕ). k + 1) are.0 ∙ sym (length-append es (e ∷ [])),
  is ∙ ap (λ (m : ℕ). cond (n == 0) m first) at ∙ first-push es e n first are.0 are.1,
  is' ∙ sym (last-push 0 es e),
)

pub entry_in_log : (es : List Entry) (i : ℕ) (d : Entry) → IsLog es → i < length es → IsEntry (get_or es i d)
entry_in_log [] i d is lt = absurd (let h : i < 0 = lt in omega arith)
entry_in_log (e ∷ es) zero d is lt = is.0
entry_in_log (e ∷ es) (suc i) d is lt = entry_in_log es i d is.2 (omega arith)
