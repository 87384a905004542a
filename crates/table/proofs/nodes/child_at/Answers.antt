use mathlib.Core.Path.{ap, sym, ◌∙◌}
use native.Mathlib.Omega.{arith}
use Rattle.words.specs.Layout.{entry_at}
use Rattle.node.specs.Entry.{child_of}
use Rattle.table.specs.Laws.AtNode.{at_most, entry_here}
use Rattle.table.proofs.nodes.child_at.Goals as goal

pub child-requires : goal.child-requires
child-requires c = omega (arith, c.requires.1, at_most c.args.t.now c.args.i)

pub returns : goal.returns
returns c =
    let a = c.args in
    c.child.ensures.0 ∙ ap (λ n. child_of (entry_at n a.k)) c.node_at.ensures ∙ ap child_of (sym (entry_here a.t.now a.i a.k c.requires.1))
