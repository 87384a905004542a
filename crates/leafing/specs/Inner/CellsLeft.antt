-- How many steps a leafing has left at most: each gives a cell that is held, with a greater identifier than the last.
use Rattle.std.specs.Prelude.{List, [], ◌∷◌, ℕ, ◌+◌, ℤ}
use Rattle.std.specs.Iterator.{Count, at_most}
use Rattle.std.specs.Int.Signed.{lt_z}
use Rattle.whole.specs.Inner.Times.{once_if}
use Rattle.track.specs.declared.cell.Cell.{Cell}
use Rattle.table.specs.Sound.{held}

-- how many of these cells have an identifier above `last`
unfoldable pub count_above : ℤ → List Cell → ℕ
count_above last [] = 0
count_above last (c ∷ cells) = once_if (lt_z last c.id) + count_above last cells

abbrev pub cells_left : List ℤ → ℤ → Count
cells_left w last = at_most (count_above last (held w))
