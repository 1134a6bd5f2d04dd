use Rattle.std.proofs.Common.{[], ◌∷◌}
use Rattle.std.proofs.lemmas.Result.{on_ok_weaker}
use Rattle.live_relay.proofs.PieceLemmas.{keeps_last, keeps_more}
use Rattle.live_relay.proofs.stamps.Stamps.keep.Goals as goal

pub returns-in-Client-clause-kept : goal.returns-in-Client-clause-kept
returns-in-Client-clause-kept c = on_ok_weaker c.keep.result (λ items all at keeps. record {
  up = keeps_last all c.args.self.now.up c.keep.new.self c.args.number c.args.bytes at items
      keeps.up;
  down = keeps_more all (c.args.bytes ∷ []) c.args.self.now.down keeps.down;
}) c.keep.ensures

pub returns-in-Server-clause-kept : goal.returns-in-Server-clause-kept
returns-in-Server-clause-kept c = on_ok_weaker c.keep-in-Server.result (λ items all at keeps. record {
  up = keeps_more all (c.args.bytes ∷ []) c.args.self.now.up keeps.up;
  down = keeps_last all c.args.self.now.down c.keep-in-Server.new.self c.args.number
      c.args.bytes at items keeps.down;
}) c.keep-in-Server.ensures
