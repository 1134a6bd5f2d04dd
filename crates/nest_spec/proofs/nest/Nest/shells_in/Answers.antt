use Rattle.std.proofs.Common.{◌≡◌, length, ap, subst, sym, arith, rules}
use Rattle.nest_spec.specs.Nests.{IsNest, shells_in}
use Rattle.nest_spec.proofs.ShellLemmas.{AreFit}
use Rattle.nest_spec.proofs.NestLemmas.{shells_fit, specs_fit, nest_shells, shells_long}
use Rattle.nest_spec.proofs.nest.Nest.shells_in.Goals as goal

pub returns : goal.returns
returns c =
    let a = c.args in
    let nest = a.self.now in
    let is : IsNest nest = subst IsNest c.self.view_is c.self.invariant in
    let list : c.in_passing_order.result.items ≡ shells_in a.direction nest = search rules in
    let fit : AreFit nest.horizon c.in_passing_order.result.items = subst (AreFit nest.horizon) (sym list)
    (shells_fit a.direction nest is) in
    let some = is.some in
    record {
      list = list;
      some = omega (arith, ap length list, shells_long a.direction nest);
      fit = specs_fit nest.horizon c.in_passing_order.result.items fit;
      shells = nest_shells nest.horizon c.in_passing_order.result.items fit;
      horizon = is.horizon;
    }
