use Rattle.std.proofs.Common.{rules}
use Rattle.request_match.proofs.matching.fits_fields.Goals as goal

pub returns : goal.returns
returns c = search rules
