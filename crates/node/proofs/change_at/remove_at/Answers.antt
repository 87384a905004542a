use Rattle.std.proofs.Common.{◌<◌}
use Rattle.node.specs.Entry.{entry_count}
use Rattle.node.specs.Inner.Change.{without}
use Rattle.node.specs.Laws.ChangeAt.{range_with, range_changed}
use Rattle.node.proofs.change_at.remove_at.Goals as goal

pub remove-requires : goal.remove-requires
remove-requires c = range_with c.args.t.now c.args.i _ _ c.node_range.ensures c.requires.0 (λ n. c.args.k < entry_count n) c.requires.1

pub returns : goal.returns
returns c = range_changed c.args.t.now c.args.i _ _ c.node_range.ensures c.requires.0 (without c.args.k) c.remove.ensures
