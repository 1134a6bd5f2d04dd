use Rattle.std.proofs.Common.{◌≡◌, ◌∷◌, subst, sym, rules}
use Rattle.std.specs.Vec.Iter.{into_iter_items}
use Rattle.packet_record.specs.Moments.{AreUpTo}
use Rattle.packet_record.proofs.MomentsLemmas.{up_to_higher}
use Rattle.nest_spec.specs.Links.{AreNestShells, specs_in}
use Rattle.nest_spec.specs.Nests.{AllFit}
use Rattle.nest_plain.proofs.Passing.{departed_rise, departed_within}
use Rattle.nest_plain.proofs.shell.+run_shells.Goals as goal

pub run_shells-requires : goal.run_shells-requires
run_shells-requires t c =
    let a = c.args in
    let shell = c.in-Some.shell in
    let items : into_iter_items a.shells ≡ shell ∷ into_iter_items c.next.new.self = c.in-Some.ensures.items in
    let fit = subst (λ l. AllFit a.horizon (specs_in l)) items c.requires.fit in
    let others = subst AreNestShells items c.requires.shells in
    let went = c.in_ok-departed.ensures in (
      search rules,
      (
        fit.2,
        (
          others.1,
          (
            c.requires.horizon,
            (
              departed_rise shell.spec a.horizon a.arrived.items c.in_ok-departed.departed.items went.built
                  went.departed c.requires.rises,
              departed_within shell.spec a.horizon a.arrived.items c.in_ok-departed.departed.items went.built
                  went.departed c.requires.within,
            ),
          ),
        ),
      ),
    )

pub depart-requires : goal.depart-requires
depart-requires t c = record {
  short = up_to_higher c.args.horizon 3600000 c.as_slice.result.now c.requires.horizon
      (subst (AreUpTo c.args.horizon) (sym c.as_slice.ensures.value) c.requires.within);
}
