use Rattle.shell_workers.proofs.sourcing.source_rows.Goals as goal

pub returns-clause-items : goal.returns-clause-items
returns-clause-items g c = (c.source.ensures.up, c.source.ensures.down)

pub returns-clause-flow : goal.returns-clause-flow
returns-clause-flow g c = (c.source.ensures.up_flow, c.source.ensures.down_flow)
