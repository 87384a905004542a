use Rattle.std.proofs.Common.{◌<◌, set}
use Rattle.node.specs.Entry.{entry_count}
use Rattle.node.specs.Laws.ChangeAt.{range_with, range_changed}
use Rattle.node.proofs.change_at.put_at.Goals as goal

pub put-requires : goal.put-requires
put-requires c = range_with c.args.t.now c.args.i _ _ c.node_range.ensures c.requires.0 (λ n. c.args.k < entry_count n) c.requires.1

pub returns : goal.returns
returns c = range_changed c.args.t.now c.args.i _ _ c.node_range.ensures c.requires.0 (λ es. set es c.args.k c.args.e) c.put.ensures
