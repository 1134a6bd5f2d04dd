use Rattle.std.proofs.Common.{◌∷◌, ◌++◌, [], List, subst, sym}
use Rattle.sender_merge.specs.declared.inlet.Inlet.{Inlet}
use Rattle.sender_merge.specs.declared.outlet.Outlet.{Outlet}
use Rattle.sender_merge.specs.inside.Gates.{AllFresh}
use Rattle.sender_merge.proofs.Gating.{fresh-snoc}
use Rattle.sender_merge.proofs.gates.Gates.add.Goals as goal

pub returns-clause-fresh : goal.returns-clause-fresh
returns-clause-fresh c =
    let h = c.args.horizon in
    let old = c.args.self.now in
    let o = c.in_ok-outlet.outlet in
    let u = c.in_ok-outlet.up in
    let d = c.in_ok-outlet.down in
    let all = fresh-snoc h old.outlets.items old.ups.items old.downs.items o u d c.requires c.in_ok-outlet.ensures in
    subst (λ (l : List Outlet). AllFresh h l c.push-2.new.self.items c.push-3.new.self.items)
    (sym c.in_ok-push.ensures.items)
    (subst (λ (l : List Inlet). AllFresh h (old.outlets.items ++ o ∷ []) l c.push-3.new.self.items)
    (sym c.in_ok-push-2.ensures.items)
    (subst (λ (l : List Inlet). AllFresh h (old.outlets.items ++ o ∷ []) (old.ups.items ++ u ∷ []) l)
    (sym c.in_ok-push-3.ensures.items) all))
