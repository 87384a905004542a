use Rattle.std.proofs.Common.{arith}
use Rattle.whole.specs.Laws.Tells.{passed, failed}
use Rattle.node.specs.Laws.Entry.{count_fits}
use Rattle.query.specs.Laws.Opening.{left_all, left_test, left_miss, left_room, left_hit, left_child_ready, left_child}
use Rattle.query.proofs.opening.+open_entries.Goals as goal
use Rattle.query.proofs.opening.+open_entries.Goals.{then-height-eq0, else-height-eq0}

-- the entry that is tried lies in the node: so here, at `key` and at `child`
pub entry_meets-requires : goal.entry_meets-requires
entry_meets-requires t c = (omega (arith, count_fits c.node_at-node.result.now), left_test c.loop-k.invariant c.node_at-node.ensures c.count-k-end.ensures c.loop-k-test.true)

pub loop-k-preserved-then-not-entry_meets : goal.loop-k-preserved-then-not-entry_meets
loop-k-preserved-then-not-entry_meets t c =
    left_miss c.loop-k.invariant c.node_at-node.ensures c.count-k-end.ensures c.loop-k-test.true (failed c.entry_meets.ensures c.if-not-entry_meets.true)

pub key-requires : goal.key-requires
key-requires t c = omega (arith, count_fits c.node_at-node.result.now)

pub bounds-keys-found : goal.bounds-keys-found
bounds-keys-found t c =
    left_room c.loop-k.invariant c.node_at-node.ensures c.count-k-end.ensures c.loop-k-test.true (passed c.entry_meets.ensures c.if-not-entry_meets.false) c.if-height-eq0.true

pub child-requires : goal.child-requires
child-requires t c = omega (arith, count_fits c.node_at-node.result.now)

pub open_entries-found-requires : goal.open_entries-found-requires
open_entries-found-requires t c =
    let met = passed c.entry_meets.ensures c.if-not-entry_meets.false in
    (omega (arith, c.decreases, c.if-height-eq0.false), left_child_ready c.loop-k.invariant c.node_at-node.ensures c.count-k-end.ensures c.loop-k-test.true met c.if-height-eq0.false c.child.ensures.0)

pub loop-k-preserved : goal.loop-k-preserved
loop-k-preserved t c =
    let met = passed c.entry_meets.ensures c.if-not-entry_meets.false in
    elim c.if-height-eq0.branch [
      | then-height-eq0 w ↦ rw (w.keys-is, w.found-is) (left_hit c.loop-k.invariant c.node_at-node.ensures c.count-k-end.ensures c.loop-k-test.true met w.if-height-eq0.true w.key.ensures)
      | else-height-eq0 w ↦ rw (w.keys-is, w.found-is) (left_child c.loop-k.invariant c.node_at-node.ensures c.count-k-end.ensures c.loop-k-test.true met w.if-height-eq0.false w.child.ensures.0 w.open_entries-found.ensures)
    ]

pub returns : goal.returns
returns t c = left_all c.loop-k.invariant c.node_at-node.ensures c.count-k-end.ensures c.loop-k-test.false
