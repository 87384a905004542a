use native.Mathlib.Omega.{arith}
use Rattle.whole.specs.Laws.Tells.{passed}
use Rattle.words.specs.Layout.{entry_at}
use Rattle.table.specs.Header.{IsNode}
use Rattle.node.specs.Entry.{child_word}
use Rattle.table.specs.Laws.Header.{node_below}
use Rattle.table.specs.Laws.ScanParts.{node_in_table}
use Rattle.table.proofs.scan.Tested.enter.Goals as goal
use Rattle.table.proofs.scan.Tested.enter.Goals.{Else-not-entry_sound}

child_in : (c : Else-not-entry_sound) → IsNode c.args.self.now.cells (child_word (entry_at c.args.n.now c.args.k))
child_in c = (passed c.entry_sound.ensures c.if-not-entry_sound.false).child_in

pub node_at-requires : goal.node_at-requires
node_at-requires c = node_in_table c.args.self.now.table.now _ _ _ c.args.self.now.room (child_in (goal.at.node_at-requires c).Else-not-entry_sound) c.child-c.ensures.0

pub bounds-marks-c : goal.bounds-marks-c
bounds-marks-c c = omega (arith, node_below (child_in (goal.at.bounds-marks-c c).Else-not-entry_sound), c.child-c.ensures.0, c.requires.1)

pub bounds-marks-c-2 : goal.bounds-marks-c-2
bounds-marks-c-2 c = omega (arith, node_below (child_in (goal.at.bounds-marks-c-2 c).Else-not-entry_sound), c.child-c.ensures.0, c.requires.1)
