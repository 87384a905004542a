use Prim.Native.Nat.{◌<◌}
use native.Mathlib.Omega.{arith}
use mir.Syntax.{w32}
use mir.Val.{to_z, of_z}
use Rattle.whole.specs.Laws.Within.{back}
use Rattle.sheet.specs.Sheet.{record_count}
use Rattle.sheet_read.specs.Inner.Filling.{CanFill}
use Rattle.sheet_read.specs.Laws.Filling.{filling_none, has_room, next_in_range, filling_next, filled}
use Rattle.sheet_read.proofs.fill.Goals as goal
use Rattle.sheet_read.proofs.fill.Goals.{Start, In-loop-k}

can : (s : Start) → CanFill s.args.t.now s.args.bytes.now (to_z w32 (of_z w32 s.args.minute))
can s = rw (back s.ranges.minute) s.requires

low : (c : In-loop-k) → c.loop-k.k < record_count c.args.bytes.now
low c = omega (arith, c.count_of-n.ensures.0)

-- found alone too: with it first_cell_left_out is refused for what no cell passed means
pub loop-k-init : goal.loop-k-init
loop-k-init c = filling_none (can (goal.at.loop-k-init c).Start)

pub put_cell-requires : goal.put_cell-requires
put_cell-requires c =
    let can-here = can (goal.at.put_cell-requires c).Start in
    let inv = c.loop-k.invariant in
    let here = low (goal.at.put_cell-requires c).In-loop-k in
    (has_room can-here inv here, rw c.cell_at.ensures (next_in_range can-here inv here))

pub loop-k-preserved : goal.loop-k-preserved
loop-k-preserved c = filling_next (can (goal.at.loop-k-preserved c).Start) c.loop-k.invariant (low (goal.at.loop-k-preserved c).In-loop-k) (rw c.cell_at.ensures at c.put_cell.ensures)

pub returns : goal.returns
returns c =
    rw (back c.ranges.minute) at (filled (can (goal.at.returns c).Start) c.loop-k.invariant (omega (arith, c.count_of-n.ensures.0)))
