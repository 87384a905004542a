use Rattle.words.specs.Layout.{node_at}
use Rattle.words.specs.Laws.Parts.{lent-part}
use Rattle.table.proofs.nodes.node_at.Goals as goal

pub returns : goal.returns
unfolding node_at
returns c = rw (lent-part c.args.t.now c.node_start-a.result 96, c.node_start-a.ensures)
