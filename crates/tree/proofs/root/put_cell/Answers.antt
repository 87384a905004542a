use mathlib.Core.Path.{◌≡◌}
use Rattle.whole.specs.Laws.Within.{back}
use Rattle.table.specs.Header.{root, height}
use Rattle.tree.specs.Inner.Grow.{Grown}
use Rattle.tree.specs.Laws.PutCell.{can_put, put_cell, grown_room, put_grown}
use Rattle.tree.proofs.root.put_cell.Goals as goal
use Rattle.tree.proofs.root.put_cell.Goals.{After-make_room, After-height-h, After-root-i}

-- ---- what the code knows at its places
grown_is : (c : After-make_room) → let a = c.args in Grown a.t.now a.minute c.make_room.new.t
grown_is c = simp (back c.ranges.minute) at c.make_room.ensures

height_is : (c : After-height-h) → c.height-h.result ≡ height c.make_room.new.t
height_is c = c.height-h.ensures.0

root_is : (c : After-root-i) → c.root-i.result ≡ root c.make_room.new.t
root_is c = c.root-i.ensures.0

pub put_in-requires : goal.put_in-requires
put_in-requires c =
    let g = grown_is (goal.at.put_in-requires c).After-make_room in
    simp (back c.ranges.minute, height_is (goal.at.put_in-requires c).After-height-h, root_is (goal.at.put_in-requires c).After-root-i) (can_put (grown_room g c.requires.0.few) g.room, c.requires.1)

pub returns : goal.returns
returns c =
    let g = grown_is (goal.at.returns c).After-make_room in
    put_grown g (put_cell g.holding (simp (back c.ranges.minute, height_is (goal.at.returns c).After-height-h, root_is (goal.at.returns c).After-root-i) at c.put_in.ensures))
