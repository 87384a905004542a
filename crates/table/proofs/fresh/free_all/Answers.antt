use Rattle.table.specs.Laws.FreshMade.{freed_more}
use Rattle.table.proofs.fresh.free_all.Goals as goal

pub loop-i-preserved : goal.loop-i-preserved
loop-i-preserved c = freed_more c.loop-i.invariant c.loop-i-test.true c.keep_at.ensures.0 c.keep_at.ensures.1
