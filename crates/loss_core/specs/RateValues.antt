-- The rate that a text stands for.
use Rattle.std.specs.Prelude.{◌≡◌, ℕ, Bool, true, false, List, Option, Some, None, Result, Ok, Err, nat_le, refl}
use Rattle.std.proofs.lemmas.Bool.{leb-true}
use Rattle.loss_core.specs.Rates.{billionths_of, parts_of}
use Rattle.loss_core.specs.declared.rate.Rate.{Rate}
use Rattle.loss_core.specs.declared.rate.RateError.{RateError}
use Rattle.loss_core.specs.declared.rate.RateError.TheVariants.{BadRate, AboveOne}

abbrev pub rate_within : (billionths : ℕ) (most : Bool) → nat_le billionths 1000000000 ≡ most → Result Rate RateError
rate_within billionths true e = Ok (record { billionths = billionths; most = leb-true billionths 1000000000 e })
rate_within billionths false e = Err AboveOne

abbrev pub rate_from : Option ℕ → Result Rate RateError
rate_from None = Err BadRate
rate_from (Some billionths) = rate_within billionths (nat_le billionths 1000000000) refl

abbrev pub rate_value : List ℕ → Result Rate RateError
rate_value text = rate_from (billionths_of (parts_of text))
