use Rattle.std.proofs.Common.{◌≡◌, ◌<◌, ◌++◌, List, length, arith, ap, length-append, ◌∙◌}
use Rattle.std.proofs.lemmas.Result.{on_err_weaker}
use Rattle.shell_log.specs.declared.entry.Entry.{Entry}
use Rattle.link_core.specs.Pieces.{Pieces}
use Rattle.link_core.specs.inside.Play.{gone_of, gone_with}
use Rattle.link_core.specs.views.Play.{rest_of}
use Rattle.link_core.proofs.PlayLemmas.{sound_gone}
use Rattle.link_core.proofs.pieces.LogPieces.next.Goals as goal

pub let_go-requires : goal.let_go-requires
let_go-requires c = c.self.invariant.0

pub fill-requires : goal.fill-requires
fill-requires c =
    let now = c.let_go.ensures in
    let kept = now.logged ∙ c.self.invariant.2 in (
      sound_gone (gone_with (gone_of c.self.inside.parts) c.self.inside.parts) c.let_go.new.self now.sound kept,
      (rw (now.opportunities, now.burnt, now.arrived) c.self.invariant.1, kept),
    )

pub invariant_of-self : goal.invariant_of-self
invariant_of-self c =
    let now = c.fill.ensures in
    (sound_gone (gone_of c.let_go.new.self) c.fill.new.self now.sound now.logged, now.playable, now.logged)

pub returns-clause-err : goal.returns-clause-err
returns-clause-err c =
    let was = c.let_go.ensures in
    let same_rest : rest_of c.self.inside.last c.let_go.new.self ≡ rest_of c.self.inside.last c.self.inside.parts =
    rw (was.opportunities, was.burnt, was.arrived, was.buffer) in
    let same : c.fill.new.self.log.entries ++ rest_of c.self.inside.last c.fill.new.self ≡ c.args.self.now.rest =
    c.fill.ensures.same
    ∙ ap (λ (es : List Entry). es ++ rest_of c.self.inside.last c.let_go.new.self) was.entries
    ∙ same_rest
    ∙ ap (λ (v : Pieces). v.rest) c.self.view_is
    in
    let size = ap length same in
    let both = length-append c.fill.new.self.log.entries (rest_of c.self.inside.last c.fill.new.self) in
    let some : 0 < length (rest_of c.self.inside.last c.fill.new.self)
    → 0 < length c.args.self.now.rest = λ lt. omega arith in
    on_err_weaker c.fill.result some c.fill.ensures.err
