-- Lines of opportunities and arrivals, merged in order and with the latest first.
use Rattle.std.proofs.Common.{◌≡◌, ℕ, ◌<◌, ◌≤◌, ◌++◌, Bool, true, false, cond, List, [], ◌∷◌, filter, reverse, nat_le}
use Rattle.std.proofs.Common.{nat_lt, arith, refl, ap, sym, subst, ◌∙◌, inl, inr}
use Rattle.std.proofs.lemmas.Bool.{cases_lt, le-leb, lt-leb, lt-ltb, le-ltb}
use Rattle.std.proofs.lemmas.List.{append-nil, append_assoc}
use Rattle.std.proofs.lemmas.List.Elements.{filter-append}
use Rattle.shell_log.specs.declared.entry.Entry.{Entry}
use Rattle.trace_reader.specs.Orders.{Each}
use Rattle.link_core.specs.Links.{Lines, merged, entries_of}
use Rattle.link_core.specs.inside.Back as back
use Rattle.link_core.proofs.SentLemmas.{each_append}
use Rattle.link_core.proofs.Turned.{reverse_cons}

abbrev pub early : ℕ → List Lines → List Lines
early m ls = filter (λ (o : Lines). nat_le o.0 m) ls

abbrev pub late : ℕ → List Lines → List Lines
late m ls = filter (λ (o : Lines). nat_lt m o.0) ls

early_in : (m : ℕ) (l : Lines) (ls : List Lines) → l.0 ≤ m → early m (l ∷ ls) ≡ l ∷ early m ls
early_in m l ls le = ap (λ b. cond b (l ∷ early m ls) (early m ls)) (le-leb l.0 m le)

early_out : (m : ℕ) (l : Lines) (ls : List Lines) → m < l.0 → early m (l ∷ ls) ≡ early m ls
early_out m l ls lt = ap (λ b. cond b (l ∷ early m ls) (early m ls)) (lt-leb l.0 m lt)

late_in : (m : ℕ) (l : Lines) (ls : List Lines) → m < l.0 → late m (l ∷ ls) ≡ l ∷ late m ls
late_in m l ls lt = ap (λ b. cond b (l ∷ late m ls) (late m ls)) (lt-ltb m l.0 lt)

late_out : (m : ℕ) (l : Lines) (ls : List Lines) → l.0 ≤ m → late m (l ∷ ls) ≡ late m ls
late_out m l ls le = ap (λ b. cond b (l ∷ late m ls) (late m ls)) (le-ltb m l.0 le)

-- the early of the early, of the late, and the late of the late
early_early : (m n : ℕ) (ls : List Lines) → m ≤ n → early m (early n ls) ≡ early m ls
early_early m n [] le = refl
early_early m n (l ∷ ls) le = elim (cases_lt n l.0) [
  | inl lt ↦ ap (early m) (early_out n l ls lt) ∙ early_early m n ls le ∙ sym (early_out m l ls (omega arith))
  | inr in_n ↦ ap (early m) (early_in n l ls in_n) ∙ (elim (cases_lt m l.0) [
    | inl lt ↦ early_out m l (early n ls) lt ∙ early_early m n ls le ∙ sym (early_out m l ls lt)
    | inr in_m ↦ early_in m l (early n ls) in_m ∙ ap (λ (k : List Lines). l ∷ k) (early_early m n ls le)
        ∙ sym (early_in m l ls in_m)
  ])
]

late_late : (m n : ℕ) (ls : List Lines) → m ≤ n → late n (late m ls) ≡ late n ls
late_late m n [] le = refl
late_late m n (l ∷ ls) le = elim (cases_lt m l.0) [
  | inr out ↦ ap (late n) (late_out m l ls out) ∙ late_late m n ls le ∙ sym (late_out n l ls (omega arith))
  | inl lt ↦ ap (late n) (late_in m l ls lt) ∙ (elim (cases_lt n l.0) [
    | inl lt' ↦ late_in n l (late m ls) lt' ∙ ap (λ (k : List Lines). l ∷ k) (late_late m n ls le)
        ∙ sym (late_in n l ls lt')
    | inr out ↦ late_out n l (late m ls) out ∙ late_late m n ls le ∙ sym (late_out n l ls out)
  ])
]

early_late : (m n : ℕ) (ls : List Lines) → early n (late m ls) ≡ late m (early n ls)
early_late m n [] = refl
early_late m n (l ∷ ls) = elim (cases_lt m l.0) [
  | inl lt ↦ ap (early n) (late_in m l ls lt) ∙ (elim (cases_lt n l.0) [
    | inl out ↦ early_out n l (late m ls) out ∙ early_late m n ls ∙ sym (ap (late m) (early_out n l ls out))
    | inr in_n ↦
        early_in n l (late m ls) in_n ∙ ap (λ (k : List Lines). l ∷ k) (early_late m n ls)
        ∙ sym (late_in m l (early n ls) lt)
        ∙ sym (ap (late m) (early_in n l ls in_n))
  ])
  | inr le ↦ ap (early n) (late_out m l ls le) ∙ (elim (cases_lt n l.0) [
    | inl out ↦ early_late m n ls ∙ sym (ap (late m) (early_out n l ls out))
    | inr in_n ↦ early_late m n ls ∙ sym (late_out m l (early n ls) le) ∙ sym (ap (late m) (early_in n l ls in_n))
  ])
]

-- one more arrival, after all others
merged_more : (opps arrivals : List Lines) (a : Lines) → Each (λ x. x.0 ≤ a.0) arrivals
    → merged opps (arrivals ++ a ∷ []) ≡ merged (early a.0 opps) arrivals ++ a ∷ late a.0 opps
merged_more opps [] a before = refl
merged_more opps (x ∷ arrivals) a before =
    ap (λ (l : List Lines). early x.0 opps ++ x ∷ l) (merged_more (late x.0 opps) arrivals a before.1)
    ∙ ap (λ (l : List Lines). early x.0 opps ++ x ∷ (merged l arrivals ++ a ∷ late a.0 (late x.0 opps)))
    (early_late x.0 a.0 opps)
    ∙ ap (λ (l : List Lines). early x.0 opps ++ x ∷ (merged (late x.0 (early a.0 opps)) arrivals ++ a ∷ l))
    (late_late x.0 a.0 opps before.0)
    ∙ ap (λ (l : List Lines). l ++ x ∷ (merged (late x.0 (early a.0 opps)) arrivals ++ a ∷ late a.0 opps))
    (sym (early_early x.0 a.0 opps before.0))
    ∙ sym (append_assoc (early x.0 (early a.0 opps)) (x ∷ merged (late x.0 (early a.0 opps)) arrivals)
    (a ∷ late a.0 opps))

pub entries-append : (xs ys : List Lines) → entries_of (xs ++ ys) ≡ entries_of xs ++ entries_of ys
entries-append [] ys = refl
entries-append (x ∷ xs) ys = ap (λ (l : List Entry). x.1 ++ l) (entries-append xs ys)
    ∙ sym (append_assoc x.1 (entries_of xs) (entries_of ys))

back-append : (xs ys : List Lines) → back.in_order (xs ++ ys) ≡ back.in_order ys ++ back.in_order xs
back-append [] ys = sym (append-nil (back.in_order ys))
back-append (x ∷ xs) ys = ap (λ (l : List Entry). l ++ x.1) (back-append xs ys)
    ∙ append_assoc (back.in_order ys) (back.in_order xs) x.1

entries_back : (ls : List Lines) → back.in_order (reverse ls) ≡ entries_of ls
entries_back [] = refl
entries_back (l ∷ ls) =
    ap back.in_order (reverse_cons l ls) ∙ back-append (reverse ls) (l ∷ [])
    ∙ ap (λ (es : List Entry). l.1 ++ es) (entries_back ls)

one : (b : Bool) (l : Lines) (ls : List Lines) (test : Lines → Bool)
    → reverse (filter test ls) ++ cond b (l ∷ []) [] ≡ reverse (cond b (l ∷ filter test ls) (filter test ls))
one true l ls test = sym (reverse_cons l (filter test ls))
one false l ls test = append-nil (reverse (filter test ls))

filter_back : (test : Lines → Bool) (ls : List Lines) → filter test (reverse ls) ≡ reverse (filter test ls)
filter_back test [] = refl
filter_back test (l ∷ ls) =
    ap (filter test) (reverse_cons l ls) ∙ filter-append test (reverse ls) (l ∷ [])
    ∙ ap (λ (k : List Lines). k ++ filter test (l ∷ [])) (filter_back test ls)
    ∙ one (test l) l ls test

-- arrivals with the latest first
abbrev pub Falls : List Lines → Type 0
Falls [] = Unit {0}
Falls (a ∷ earlier) = Each (λ x. x.0 ≤ a.0) earlier × Falls earlier

each_back_to_front : (P : Lines → Type 0) (ls : List Lines) → Each P ls → Each P (reverse ls)
each_back_to_front P [] a = tt
each_back_to_front P (l ∷ ls) a = subst (Each P) (sym (reverse_cons l ls))
    (each_append P (reverse ls) (l ∷ []) (each_back_to_front P ls a.1) (a.0, tt))

pub merged_back : (opps earlier : List Lines) → Falls earlier
    → back.in_order (back.merged (reverse opps) earlier) ≡ entries_of (merged opps (reverse earlier))
merged_back opps [] f = entries_back opps
merged_back opps (a ∷ earlier) f =
    back-append (late a.0 (reverse opps)) (a ∷ back.merged (early a.0 (reverse opps)) earlier)
    ∙ ap (λ (l : List Lines). (back.in_order (back.merged l earlier) ++ a.1)
    ++ back.in_order (late a.0 (reverse opps))) (filter_back (λ (o : Lines). nat_le o.0 a.0) opps)
    ∙ ap (λ (es : List Entry). (es ++ a.1) ++ back.in_order (late a.0 (reverse opps)))
    (merged_back (early a.0 opps) earlier f.1)
    ∙ ap (λ (l : List Lines). (entries_of (merged (early a.0 opps) (reverse earlier)) ++ a.1) ++ back.in_order l)
    (filter_back (λ (o : Lines). nat_lt a.0 o.0) opps)
    ∙ ap (λ (es : List Entry). (entries_of (merged (early a.0 opps) (reverse earlier)) ++ a.1) ++ es)
    (entries_back (late a.0 opps))
    ∙ append_assoc (entries_of (merged (early a.0 opps) (reverse earlier))) a.1 (entries_of (late a.0 opps))
    ∙ sym (entries-append (merged (early a.0 opps) (reverse earlier)) (a ∷ late a.0 opps))
    ∙ ap entries_of (sym (merged_more opps (reverse earlier) a (each_back_to_front (λ x. x.0 ≤ a.0) earlier f.0)))
    ∙ ap (λ (l : List Lines). entries_of (merged opps l)) (sym (reverse_cons a earlier))
