use mathlib.Core.Path.{ap}
use mathlib.Core.Bool.{not}
use native.Mathlib.Omega.{arith}
use Rattle.node.specs.Laws.Entry.{count_fits}
use Rattle.table.specs.Laws.Ready.{ready_entered, left_all, left_untaken, left_taken, left_unentered, left_bad, left_passed}
use Rattle.table.proofs.scan.Tested.+pass.Goals as goal
use Rattle.table.proofs.scan.Tested.+pass.Goals.{then-height-eq0+else-not-take_cell, else-height-eq0+else-not-enter+in_ok-got}

-- the entry that is tried lies in the node: so here, at `enter` and at `child`
pub take_cell-requires : goal.take_cell-requires
take_cell-requires t c = (omega (arith, count_fits c.node_at-n.result.now), c.loop-k.invariant.ready.keys_long)

-- the laws speak of the tests `!taken` and `!entered` as they stand in the code, and `ap not` says that of what was returned
pub returns-then-not-take_cell : goal.returns-then-not-take_cell
returns-then-not-take_cell t c =
    left_untaken c.loop-k.invariant c.node_at-n.ensures c.count-k-end.ensures c.loop-k-test.true c.if-height-eq0.true c.take_cell.ensures (ap not c.if-not-take_cell.true)

pub enter-requires : goal.enter-requires
enter-requires t c =
    let y = c.loop-k.invariant.ready in
    (omega (arith, count_fits c.node_at-n.result.now), y.marks_long)

pub returns-then-not-enter : goal.returns-then-not-enter
returns-then-not-enter t c =
    left_unentered c.loop-k.invariant c.node_at-n.ensures c.count-k-end.ensures c.loop-k-test.true c.if-height-eq0.false c.enter.ensures (ap not c.if-not-enter.true)

pub child-c-requires : goal.child-c-requires
child-c-requires t c = omega (arith, count_fits c.node_at-n.result.now)

pub pass-requires : goal.pass-requires
pass-requires t c =
    (omega (arith, c.decreases, c.if-height-eq0.false), ready_entered c.loop-k.invariant.ready c.enter.ensures (ap not c.if-not-enter.false) c.child-c.ensures.0)

pub returns-in_err-got : goal.returns-in_err-got
returns-in_err-got t c =
    rw c.from_residual.ensures
    (left_bad c.loop-k.invariant c.node_at-n.ensures c.count-k-end.ensures c.loop-k-test.true c.if-height-eq0.false c.enter.ensures (ap not c.if-not-enter.false) c.child-c.ensures.0 c.pass.ensures c.in_err-got.was)

pub loop-k-preserved : goal.loop-k-preserved
loop-k-preserved t c =
    elim c.if-height-eq0.branch [
      | then-height-eq0+else-not-take_cell w ↦ rw (w.marks-is, w.keys-is, w.got-is) (left_taken c.loop-k.invariant c.node_at-n.ensures c.count-k-end.ensures c.loop-k-test.true w.if-height-eq0.true w.take_cell.ensures (ap not w.if-not-take_cell.false))
      | else-height-eq0+else-not-enter+in_ok-got w ↦ rw (w.marks-is, w.keys-is, w.got-is) (left_passed c.loop-k.invariant c.node_at-n.ensures c.count-k-end.ensures c.loop-k-test.true w.if-height-eq0.false w.enter.ensures (ap not w.if-not-enter.false) w.child-c.ensures.0 w.pass.ensures w.in_ok-got.was)
    ]

pub returns : goal.returns
returns t c =
    left_all c.loop-k.invariant c.node_at-n.ensures c.count-k-end.ensures c.loop-k-test.false
