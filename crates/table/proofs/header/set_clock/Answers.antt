use Rattle.whole.specs.Laws.Within.{back}
use Rattle.table.specs.Laws.Headed.{clocked}
use Rattle.table.proofs.header.set_clock.Goals as goal

pub returns : goal.returns
returns c = rw (back c.ranges.minute) (clocked c.args.t.now c.args.minute c.requires)
