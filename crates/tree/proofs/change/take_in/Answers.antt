use mathlib.Core.Path.{◌≡◌}
use native.Mathlib.Omega.{arith}
use Rattle.whole.specs.Laws.Within.{back, word_back}
use Rattle.node.specs.Inner.Made.{leaf_entry}
use Rattle.table.specs.Header.{capacity}
use Rattle.tree.specs.Inner.Clear.{Cleared}
use Rattle.table.specs.Inner.Headed.{Clocked}
use Rattle.tree.specs.Inner.PutCell.{PutCell}
use Rattle.tree.specs.Inner.StayingCells.{many_stay}
use Rattle.tree.specs.Laws.Stepping.{sound_holding}
use Rattle.tree.specs.Laws.Outcomes.{cell_full, room_left, cell_taken}
use Rattle.tree.proofs.change.take_in.Goals as goal
use Rattle.tree.proofs.change.take_in.Goals.{After-capacity, After-staying_in, After-clear, After-put_cell, After-set_clock}

-- ---- what the code knows at its places
cells_is : (c : After-capacity) → c.capacity.result ≡ capacity c.args.t.now
cells_is c = c.capacity.ensures.0

count_is : (c : After-staying_in) → let a = c.args in c.staying_in.result ≡ many_stay a.t.now a.minute a.c.id
count_is c = simp (back c.ranges.minute, word_back c.args.c.id c.well_formed.1.0.1.1.0.1) at c.staying_in.ensures

cleared_is : (c : After-clear) → let a = c.args in Cleared a.t.now a.minute a.c.id c.clear.new.t
cleared_is c = simp (back c.ranges.minute, word_back c.args.c.id c.well_formed.1.0.1.1.0.1) at c.clear.ensures

put_is : (c : After-put_cell) → let a = c.args in PutCell c.clear.new.t a.minute (leaf_entry a.c) c.put_cell.new.t
put_is c = simp (back c.ranges.minute) at c.put_cell.ensures

clocked_is : (c : After-set_clock) → Clocked c.put_cell.new.t c.args.minute c.set_clock.new.t
clocked_is c = simp (back c.ranges.minute) at c.set_clock.ensures

pub returns-then-capacity-staying_in : goal.returns-then-capacity-staying_in
returns-then-capacity-staying_in c = cell_full c.requires (omega (arith, cells_is (goal.at.returns-then-capacity-staying_in c).After-capacity, count_is (goal.at.returns-then-capacity-staying_in c).After-staying_in, c.if-capacity-staying_in.true))

pub clear-requires : goal.clear-requires
clear-requires c =
    simp (back c.ranges.minute) (sound_holding c.requires.sound c.requires.is_minute c.requires.later)

pub put_cell-requires : goal.put_cell-requires
put_cell-requires c =
    simp (back c.ranges.minute) (room_left c.requires (omega (arith, cells_is (goal.at.put_cell-requires c).After-capacity, count_is (goal.at.put_cell-requires c).After-staying_in, c.if-capacity-staying_in.false)) (cleared_is (goal.at.put_cell-requires c).After-clear), c.requires.in_range)

pub returns : goal.returns
returns c = cell_taken c.requires (omega (arith, cells_is (goal.at.returns c).After-capacity, count_is (goal.at.returns c).After-staying_in, c.if-capacity-staying_in.false)) (cleared_is (goal.at.returns c).After-clear) (put_is (goal.at.returns c).After-put_cell) (clocked_is (goal.at.returns c).After-set_clock)
