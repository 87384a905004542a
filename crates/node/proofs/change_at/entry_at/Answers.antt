use Rattle.std.proofs.Common.{◌∙◌}
use Rattle.node.specs.Laws.ChangeAt.{range_is_node}
use Rattle.node.proofs.change_at.entry_at.Goals as goal

pub returns : goal.returns
returns c = c.entry.ensures ∙ rw (range_is_node c.args.t.now c.args.i _ _ c.node_range.ensures c.requires.0)
