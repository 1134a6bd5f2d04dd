-- A rate that was read is the rate of its text.
use Rattle.std.proofs.Common.{◌≡◌, ℕ, ◌≤◌, Bool, true, false, List, Option, Some, None, Ok, Err, nat_le, refl, ap}
use Rattle.std.proofs.Common.{subst, cond}
use Rattle.std.proofs.Math.Bridge.{le_prop}
use Rattle.std.proofs.lemmas.Bool.{leb-true}
use Rattle.loss_core.specs.Rates.{rate_of, in_range, billionths_of, parts_of}
use Rattle.loss_core.specs.declared.rate.Rate.{Rate}
use Rattle.loss_core.specs.declared.rate.RateError.{RateError}
use Rattle.loss_core.specs.declared.rate.RateError.TheVariants.{AboveOne}
use Rattle.loss_core.specs.RateValues.{rate_within, rate_from, rate_value}

abbrev rate : (b : ℕ) → b ≤ 1000000000 → Rate
rate b most = record { billionths = b; most = most }

same_rate : (b b' : ℕ) → b ≡ b' → (most : b ≤ 1000000000) (most' : b' ≤ 1000000000) → rate b most ≡ rate b' most'
same_rate b b' e most =
    subst (λ n. (most' : n ≤ 1000000000) → rate b most ≡ rate n most') e
    (λ most'. ap (λ p. rate b p) (le_prop most most'))

within_ok : (b : ℕ) (t : Bool) (e : nat_le b 1000000000 ≡ t) (r : Rate)
    → cond t (Ok b) (Err AboveOne) ≡ Ok r.billionths → rate_within b t e ≡ Ok r
within_ok b true e r is = let same : b ≡ r.billionths = cc
    in ap Ok (same_rate b r.billionths same (leb-true b 1000000000 e) r.most)
within_ok b false e r is = absurd cc

from_ok : (o : Option ℕ) (r : Rate) → in_range o ≡ Ok r.billionths → rate_from o ≡ Ok r
from_ok None r is = absurd cc
from_ok (Some b) r is = within_ok b (nat_le b 1000000000) refl r is

within_err : (b : ℕ) (t : Bool) (e : nat_le b 1000000000 ≡ t) (fault : RateError)
    → cond t (Ok b) (Err AboveOne) ≡ Err fault → rate_within b t e ≡ Err fault
within_err b true e fault is = absurd cc
within_err b false e fault is = ap Err cc

from_err : (o : Option ℕ) (fault : RateError) → in_range o ≡ Err fault → rate_from o ≡ Err fault
from_err None fault is = ap Err cc
from_err (Some b) fault is = within_err b (nat_le b 1000000000) refl fault is

pub read_value : (text : List ℕ) (r : Rate) → rate_of text ≡ Ok r.billionths → rate_value text ≡ Ok r
read_value text r is = from_ok (billionths_of (parts_of text)) r is

pub refused_value : (text : List ℕ) (fault : RateError) → rate_of text ≡ Err fault → rate_value text ≡ Err fault
refused_value text fault is = from_err (billionths_of (parts_of text)) fault is
