use Rattle.std.proofs.Common.{Err, subst}
use Rattle.record_store.specs.StoreText.{StoreSays}
use Rattle.record_store.specs.CutText.{uncut}
use Rattle.record_store.specs.declared.store_error.StoreError.{StoreError}
use Rattle.record_store.proofs.cut_reading.leave_out.Goals as goal

pub read_before-requires : goal.read_before-requires
read_before-requires c = subst (λ (e : StoreError). StoreSays c.args.text.now (Err e)) c.in-Truncated.is c.requires

pub returns-in_default : goal.returns-in_default
returns-in_default c = uncut c.requires (λ place e. c.in_default.not-Truncated place (cc e))
