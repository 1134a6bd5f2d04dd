use Rattle.std.proofs.Common.{rules, ap}
use Rattle.shell_cell.specs.inside.Rule.{Place}
use Rattle.shell_cell.specs.Seats.{Cell}
use Rattle.shell_cell.proofs.Keeps.{unites}
use Rattle.shell_cell.proofs.Calls.{closes}
use Rattle.shell_cell.proofs.Clauses.{close_shows}
use Rattle.shell_cell.proofs.cell.ShellCell.close.Goals as goal

pub join_seat-requires : goal.join_seat-requires
join_seat-requires c = (
  search rules,
  search rules,
  search rules,
  search rules,
  unites _ _ _ _ _ c.feed.invariant.role c.feed.invariant.free c.drain.invariant.free,
)

pub returns : goal.returns
returns c =
    let end = closes _ _ c.join_seat.new.seat.me c.feed.inside.seat.me.0 c.drain.inside.seat.me.0 _ _ _
    (ap (λ (p : Place). p.0) c.join_seat.ensures.2) c.close_with-closed.ensures.values.2 c.take-state.ensures.value in
    let shows = close_shows _ _ _ _ _ _ _ _ _ (ap (λ (s : Cell). s.opening) c.self.view_is) c.feed.view_is
    c.drain.view_is end in
    record {
      history = shows.history;
      fed = shows.fed;
      taken = shows.taken;
      horizon = shows.horizon;
      spec = shows.spec;
      broken = shows.broken;
      stands = c.stands.ensures.stands;
    }
