use Rattle.whole.specs.Laws.Within.{back}
use Rattle.table.specs.Laws.Headed.{sized}
use Rattle.table.proofs.header.set_capacity.Goals as goal

pub returns : goal.returns
returns c = rw (back c.ranges.cells) (sized c.args.t.now c.args.cells c.requires)
