use mathlib.Core.Path.{ap, sym, ◌∙◌}
use Rattle.node.specs.Entry.{entry_count}
use Rattle.table.specs.Laws.AtNode.{length_at}
use Rattle.table.proofs.nodes.count_at.Goals as goal

pub returns : goal.returns
returns c =
    let a = c.args in
    c.count.ensures ∙ ap entry_count c.node_at.ensures ∙ sym (length_at a.t.now a.i)
