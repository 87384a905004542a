use Rattle.std.proofs.Common.{◌<◌, [], ◌∷◌, ◌++◌}
use Rattle.words.specs.Layout.{full_node}
use Rattle.node.specs.Entry.{entry_count}
use Rattle.node.specs.Laws.ChangeAt.{range_with, range_changed}
use Rattle.node.proofs.change_at.append_at.Goals as goal

pub append-requires : goal.append-requires
append-requires c = range_with c.args.t.now c.args.i _ _ c.node_range.ensures c.requires.0 (λ n. entry_count n < full_node) c.requires.1

pub returns : goal.returns
returns c = range_changed c.args.t.now c.args.i _ _ c.node_range.ensures c.requires.0 (λ es. es ++ c.args.e ∷ []) c.append.ensures
