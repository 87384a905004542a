use mathlib.Core.Path.{◌≡◌, sym, ap, ◌∙◌}
use mathlib.Core.List.{[]}
use native.Mathlib.Omega.{arith}
use lib.ListN.{get_or}
use Rattle.whole.specs.Laws.Within.{back}
use Rattle.words.specs.Layout.{entry_at}
use Rattle.node.specs.Entry.{cell_of}
use Rattle.table.specs.Header.{entries_at}
use Rattle.table.specs.Laws.AtNode.{at_most, entry_here}
use Rattle.tree_nodes.proofs.take.goes_at.Goals as goal

pub cell-requires : goal.cell-requires
cell-requires c = omega (arith, c.requires.1, at_most c.args.t.now c.args.i)

pub returns : goal.returns
returns c =
    let a = c.args in
    let cell_is : c.cell.result ≡ cell_of (get_or (entries_at a.t.now a.i) a.k []) =
    c.cell.ensures ∙ ap (λ n. cell_of (entry_at n a.k)) c.node_at.ensures ∙ ap cell_of (sym (entry_here a.t.now a.i a.k c.requires.1)) in
    simp (back c.ranges.minute, back c.ranges.id, cell_is) at c.goes.ensures
