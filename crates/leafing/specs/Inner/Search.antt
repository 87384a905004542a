-- The search for the next cell: what one cell more, and the cells beneath some entries, make of the best that was found until then.
use Rattle.std.specs.Prelude.{List, ◌++◌, map, ℕ, ℤ, Option}
use Rattle.whole.specs.Lists.{◌∈◌}
use Rattle.track.specs.Life.{LivesAt}
use Rattle.track.specs.declared.cell.Cell.{Cell}
use Rattle.node.specs.Entry.{Entry, cell_of}
use Rattle.table.specs.SoundTree.{Nodes}
use Rattle.table.specs.Inner.Scan.{leaves_in}
use Rattle.leafing.specs.NextLive.{NextOf}
use Rattle.leafing.specs.declared.search.Sought.{Sought}

-- one of these cells that lives at the minute
pub record Alive (minute : ℤ) (cells : List Cell) (c : Cell) : Type 0 where
  pub is_in : c ∈ cells
  pub in_life : LivesAt minute c

abbrev pub Best : Sought → List Cell → Option Cell → Type 0
Best s cells r = NextOf (Alive s.clock cells) s.last r

-- where `best` is the best of the cells seen, r is the best of those and of these cells
pub record Extends (s : Sought) (cells : List Cell) (best r : Option Cell) : Type 0 where
  pub extends : (seen : List Cell) → Best s seen best → Best s (seen ++ cells) r

-- ---- the walk, over entries of a node that has h levels beneath it
abbrev pub cells_in : Nodes → ℕ → List Entry → List Cell
cells_in N h es = map cell_of (leaves_in N h es)

-- where `best` is the best of the cells seen, r is the best of those and of the cells beneath these entries
pub record Looks (N : Nodes) (s : Sought) (h : ℕ) (es : List Entry) (best r : Option Cell) : Type 0 where
  pub looks : Extends s (cells_in N h es) best r
