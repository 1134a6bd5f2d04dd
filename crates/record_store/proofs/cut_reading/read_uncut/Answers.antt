use Rattle.record_store.specs.CutText.{uncut}
use Rattle.record_store.proofs.cut_reading.read_uncut.Goals as goal

pub returns-in-Ok : goal.returns-in-Ok
returns-in-Ok c = uncut c.in-Ok.ensures (λ place e. cc e)
