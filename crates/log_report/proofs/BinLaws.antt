-- Where the entries of a bin stand in a log, and what a series gives next.
use Rattle.std.proofs.Common.{◌≡◌, ◌≢◌, ◌⊎◌, inl, inr, ℕ, zero, suc, ◌+◌, ◌-◌, ◌*◌, ◌/◌, ◌<◌, ◌≤◌, ◌==◌, ◌++◌, Bool}
use Rattle.std.proofs.Common.{true, false, cond, List, [], ◌∷◌, length, get_or, take, drop, refl, ap, ap₂, sym, subst}
use Rattle.std.proofs.Common.{◌∙◌, arith, append-nil, add-one}
use Rattle.std.specs.List.{fold}
use Rattle.std.proofs.Math.Nat.{div-mul-le_self}
use Rattle.std.proofs.lemmas.Bool.{cases_lt, eqb-true, eq-eqb}
use Rattle.std.proofs.lemmas.List.Elements.{filter-append}
use Rattle.std.proofs.lemmas.Nat.{le-div, mul-le}
use Rattle.shell_log.specs.declared.entry.Entry.{Entry}
use Rattle.shell_log.specs.declared.entry.Entry.TheVariants.{Arrival, Opportunity, Departure, Drop}
use Rattle.shell_log.specs.Entries.{AreFrom, IsEntry, IsLog, moment_of}
use Rattle.log_report.specs.declared.bins.Bin.{Bin}
use Rattle.log_report.specs.Bins.{AreFromBin, bin_count, bin_over, bins_from, in_bin}
use Rattle.log_report.specs.inside.Places.{AreInBin, bins_left}

-- a later moment is in no earlier bin
later_bin : (every m n : ℕ) → 1 ≤ every → m ≤ n → m / every ≤ n / every
later_bin every m n some le = le-div (m / every) n every (omega arith)
    (let least = div-mul-le_self m every in omega arith)

-- the entries of a bin, and of no other
unequal : (b : Bool) (x n : ℕ) → (x == n) ≡ b → x ≢ n → b ≡ false
unequal true x n e ne = absurd (ne (eqb-true x n e))
unequal false x n e ne = refl

in_it : (every n : ℕ) (es : List Entry) → AreInBin every n es → in_bin every n es ≡ es
in_it every n [] all = refl
in_it every n (e ∷ es) all =
    ap (λ (b : Bool). cond b (e ∷ in_bin every n es) (in_bin every n es)) (eq-eqb (moment_of e / every) n all.0)
    ∙ ap (λ (l : List Entry). e ∷ l) (in_it every n es all.1)

not_before : (every n : ℕ) (es : List Entry) → AreFromBin every (n + 1) es → in_bin every n es ≡ []
not_before every n [] all = refl
not_before every n (e ∷ es) all =
    let later = all.0 in
    ap (λ (b : Bool). cond b (e ∷ in_bin every n es) (in_bin every n es))
    (unequal (moment_of e / every == n) (moment_of e / every) n refl (λ same. absurd (omega arith)))
    ∙ not_before every n es all.1

not_after : (every n d : ℕ) (es : List Entry) → AreInBin every n es → n < d → in_bin every d es ≡ []
not_after every n d [] all lt = refl
not_after every n d (e ∷ es) all lt =
    let here = all.0 in
    ap (λ (b : Bool). cond b (e ∷ in_bin every d es) (in_bin every d es))
    (unequal (moment_of e / every == d) (moment_of e / every) d refl (λ same. absurd (omega arith)))
    ∙ not_after every n d es all.1 lt

own_bin : (every n : ℕ) (own after : List Entry) → AreInBin every n own → AreFromBin every (n + 1) after
    → in_bin every n (own ++ after) ≡ own
own_bin every n own after all later =
    filter-append (λ e. moment_of e / every == n) own after
    ∙ ap₂ (λ (a b : List Entry). a ++ b) (in_it every n own all) (not_before every n after later)
    ∙ append-nil own

later_bins : (every n d : ℕ) (own after : List Entry) → AreInBin every n own → n + 1 ≤ d
    → in_bin every d (own ++ after) ≡ in_bin every d after
later_bins every n d own after all le =
    filter-append (λ e. moment_of e / every == d) own after
    ∙ ap (λ (l : List Entry). l ++ in_bin every d after) (not_after every n d own all (omega arith))

same_bins : (every n more : ℕ) (a b : List Entry) → ((d : ℕ) → n ≤ d → in_bin every d a ≡ in_bin every d b)
    → bins_from every n more a ≡ bins_from every n more b
same_bins every n zero a b same = refl
same_bins every n (suc more) a b same =
    ap₂ (λ (own : List Entry) (rest : List Bin). bin_over every (n * every) own ∷ rest) (same n (omega arith))
    (same_bins every (n + 1) more a b (λ d le. same d (omega arith)))

-- the last moment
last_in : (every n low : ℕ) (es : List Entry) → low / every ≡ n → AreInBin every n es
    → fold (λ moment e. moment_of e) low es / every ≡ n
last_in every n low [] is all = is
last_in every n low (e ∷ es) is all = last_in every n (moment_of e) es all.0 all.1

last_from : (every n low : ℕ) (es : List Entry) → n ≤ low / every → AreFromBin every n es
    → n ≤ fold (λ moment e. moment_of e) low es / every
last_from every n low [] le all = le
last_from every n low (e ∷ es) le all = last_from every n (moment_of e) es all.0 all.1

last_skip : (low : ℕ) (own : List Entry) (e : Entry) (es : List Entry)
    → fold (λ moment e. moment_of e) low (own ++ e ∷ es) ≡ fold (λ moment e. moment_of e) (moment_of e) es
last_skip low [] e es = refl
last_skip low (o ∷ own) e es = last_skip (moment_of o) own e es

count_of : (every : ℕ) (es : List Entry) → 0 < length es
    → bin_count every es ≡ fold (λ moment e. moment_of e) 0 es / every + 1
count_of every [] some = absurd (let h : 0 < 0 = some in omega arith)
count_of every (e ∷ es) some = refl

count_step : (every n : ℕ) (own after : List Entry) → 0 < length (own ++ after) → AreInBin every n own
    → AreFromBin every (n + 1) after
    → bin_count every (own ++ after) - n ≡ suc (bin_count every after - (n + 1))
count_step every n [] [] some all later = absurd (let h : 0 < 0 = some in omega arith)
count_step every n (o ∷ own) [] some all later =
    let last : fold (λ moment e. moment_of e) (moment_of o) own / every ≡ n = last_in every n (moment_of o) own all.0
    all.1 in
    let count : bin_count every ((o ∷ own) ++ []) ≡ fold (λ moment e. moment_of e) (moment_of o) own / every + 1 =
    ap (bin_count every) (append-nil (o ∷ own)) in
    let none : bin_count every [] ≡ 0 = refl in
    omega arith
count_step every n own (e ∷ es) some all later =
    let last : n + 1 ≤ fold (λ moment e. moment_of e) (moment_of e) es / every = last_from every (n + 1) (moment_of e)
    es later.0 later.1 in
    let count : bin_count every (own ++ e ∷ es) ≡ fold (λ moment e. moment_of e) (moment_of e) es / every + 1 =
    count_of every (own ++ e ∷ es) some ∙ ap (λ (m : ℕ). m / every + 1) (last_skip 0 own e es) in
    let rest : bin_count every (e ∷ es) ≡ fold (λ moment e. moment_of e) (moment_of e) es / every + 1 = refl in
    omega arith

-- the next bin, and those after it
pub next_bin : (every n : ℕ) (own after : List Entry) → 0 < length (own ++ after) → AreInBin every n own
    → AreFromBin every (n + 1) after
    → bins_left every n (own ++ after) ≡ bin_over every (n * every) own ∷ bins_left every (n + 1) after
next_bin every n own after some all later =
    ap (λ (k : ℕ). bins_from every n k (own ++ after)) (count_step every n own after some all later)
    ∙ ap₂ (λ (l : List Entry) (rest : List Bin). bin_over every (n * every) l ∷ rest) (own_bin every n own after all
    later)
    (same_bins every (n + 1) (bin_count every after - (n + 1)) (own ++ after) after
    (λ d le. later_bins every n d own after all le))

pub some_bins : (every n : ℕ) (own after : List Entry) → 0 < length (own ++ after) → AreInBin every n own
    → AreFromBin every (n + 1) after → 0 < length (bins_left every n (own ++ after))
some_bins every n own after some all later =
    subst (λ (l : List Bin). 0 < length l) (sym (next_bin every n own after some all later)) (omega arith)

-- a part of a log is one
from_front : (m : ℕ) (a b : List Entry) → AreFrom m (a ++ b) → AreFrom m a
from_front m [] b all = tt
from_front m (e ∷ a) b all = (all.0, from_front m a b all.1)

pub log_front : (a b : List Entry) → IsLog (a ++ b) → IsLog a
log_front [] b log = tt
log_front (e ∷ a) b log = (log.0, from_front (moment_of e) a b log.1, log_front a b log.2)

pub log_back : (a b : List Entry) → IsLog (a ++ b) → IsLog b
log_back [] b log = log
log_back (e ∷ a) b log = log_back a b log.2

-- every entry of a log is from its first bin on
later_all : (every n moment : ℕ) (es : List Entry) → 1 ≤ every → n ≤ moment / every → AreFrom moment es
    → AreFromBin every n es
later_all every n moment [] some le all = tt
later_all every n moment (e ∷ es) some le all = (
  let more = later_bin every moment (moment_of e) some all.0 in omega arith,
  later_all every n moment es some le all.1,
)

pub from_first : (every : ℕ) (es : List Entry) → AreFromBin every 0 es
from_first every [] = tt
from_first every (e ∷ es) = (omega arith, from_first every es)

-- one entry more is in the bin
pub own_more : (every n : ℕ) (es : List Entry) (k : ℕ) (d : Entry) → k < length es
    → moment_of (get_or es k d) / every ≡ n → AreInBin every n (take k es) → AreInBin every n (take (suc k) es)
own_more every n [] k d lt is all = absurd (let h : k < 0 = lt in omega arith)
own_more every n (e ∷ es) zero d lt is all = (is, tt)
own_more every n (e ∷ es) (suc k) d lt is all = (all.0, own_more every n es k d (omega arith) is all.1)

-- where the bin ends
pub own_end : (every n : ℕ) (es : List Entry) (k : ℕ) (d : Entry) → 1 ≤ every → IsLog es → AreFromBin every n es
    → (k < length es → moment_of (get_or es k d) / every ≢ n) → AreFromBin every (n + 1) (drop k es)
own_end every n [] zero d some log all other = tt
own_end every n [] (suc k) d some log all other = tt
own_end every n (e ∷ es) zero d some log all other =
    let least = all.0 in
    let ne : moment_of e / every ≢ n = other (omega arith) in
    let next : n + 1 ≤ moment_of e / every = omega arith in
    (next, later_all every (n + 1) (moment_of e) es some next log.1)
own_end every n (e ∷ es) (suc k) d some log all other =
    own_end every n es k d some log.2 all.1 (λ lt. other (omega arith))

-- the first entry of a log isn't before the bin from which on all are, and is short
pub begins_before : (every n : ℕ) (es : List Entry) → 0 < length es → IsLog es → AreFromBin every n es
    → n * every ≤ 9999999999
begins_before every n [] some log all = absurd (let h : 0 < 0 = some in omega arith)
begins_before every n (e ∷ es) some log all =
    let product = mul-le n every (moment_of e / every) every all.0 (omega arith) in
    let least = div-mul-le_self (moment_of e) every in
    let short = short_moment e log.0 in
    omega arith
  where
    short_moment : (e : Entry) → IsEntry e → moment_of e ≤ 9999999999
    short_moment (Arrival moment size) is = is.0
    short_moment (Opportunity moment bytes) is = is.0
    short_moment (Departure moment size delay) is = is.0
    short_moment (Drop moment packets bytes) is = is.0
