-- For proofs alone: what is true of each end.
use Rattle.std.specs.Prelude.{◌≡◌, true, false}
use Rattle.crossbeam_channel.specs.Claims.{view, IsSeatAt}
use Rattle.crossbeam_channel.specs.Ends.{sends_on, receives_on}
use Rattle.mark_channel.specs.declared.sender.Sender.TheInside.{Inside as SenderInside}
use Rattle.mark_channel.specs.declared.receiver.Receiver.TheInside.{Inside as ReceiverInside}

-- The sender's pass belongs to its end, and may send.
abbrev pub IsSender : SenderInside → Type 0
IsSender s = IsSeatAt (sends_on s.end) s.pass × ((view s.pass).sends ≡ true) × ((view s.pass).fresh ≡ false)

-- The receiver's pass belongs to its end, and may receive.
abbrev pub IsReceiver : ReceiverInside → Type 0
IsReceiver r = IsSeatAt (receives_on r.end) r.pass × ((view r.pass).gets ≡ true) × ((view r.pass).fresh ≡ false)
