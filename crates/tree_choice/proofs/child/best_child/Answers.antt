use Rattle.std.proofs.Common.{◌≡◌, arith}
use Rattle.whole.specs.Laws.Within.{back}
use Rattle.node.specs.Entry.{entry_count}
use Rattle.node.specs.Laws.Entry.{count_fits}
use Rattle.tree_choice.specs.Laws.Child.{cheapest_new, cheapest_kept}
use Rattle.tree_choice.proofs.child.best_child.Goals as goal
use Rattle.tree_choice.proofs.child.best_child.Goals.{then-lt, else-lt}

pub cost_of-next-requires : goal.cost_of-next-requires
cost_of-next-requires c = omega (arith, count_fits c.args.node.now)

pub loop-k-preserved : goal.loop-k-preserved
loop-k-preserved c =
    let at = c.loop-k in
    elim c.if-lt.branch [
      | then-lt w ↦ rw (w.best-is, w.least-is) (c.cost_of-next.ensures, cheapest_new at.invariant.1 (grind arith))
      | else-lt w ↦ rw (w.best-is, w.least-is) (at.invariant.0, cheapest_kept at.invariant.1 (grind arith))
    ]

pub returns : goal.returns
returns c =
    let all : c.loop-k.k ≡ entry_count c.args.node.now = omega arith in
    simp (all, back c.ranges.minute) at c.loop-k.invariant.1
