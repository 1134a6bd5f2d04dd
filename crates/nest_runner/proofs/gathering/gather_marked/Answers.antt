use Rattle.std.proofs.Common.{ℕ, sym, subst}
use Rattle.packet_record.specs.declared.packet.Direction.TheVariants.{Up, Down}
use Rattle.nest_runner.specs.Lanes.{AllOwn}
use Rattle.nest_runner.proofs.Chains.{run_passed}
use Rattle.nest_runner.proofs.gathering.gather_marked.Goals as goal

pub close-requires-clause-own : goal.close-requires-clause-own
close-requires-clause-own c = subst (λ (h : ℕ). AllOwn h c.args.up.path.stages.items) (sym c.requires.up.wired.within)
    c.requires.up.wired.own

pub close-requires-2-clause-own : goal.close-requires-2-clause-own
close-requires-2-clause-own c = subst (λ (h : ℕ). AllOwn h c.args.down.path.stages.items)
    (sym c.requires.down.wired.within) c.requires.down.wired.own

pub gather-requires-clause-up : goal.gather-requires-clause-up
gather-requires-clause-up c = run_passed Up _ _ _ _ c.requires.up c.in_ok-up.ensures

pub gather-requires-clause-down : goal.gather-requires-clause-down
gather-requires-clause-down c = run_passed Down _ _ _ _ c.requires.down c.in_ok-down.ensures
