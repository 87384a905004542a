-- An edge or a velocity of a node's entries, gathered by one pass over them.
use Rattle.std.specs.Prelude.{Bool, cond, List, [], ◌∷◌, map, ℕ, ◌+◌, ◌%◌, ltb, eqb, ℤ, pos, ◌+ℤ◌, ◌*ℤ◌, get_or}
use Rattle.track.specs.Meets.{Row}
use Rattle.track.specs.Hull.{lesser, greater, picked}
use Rattle.node.specs.Entry.{Entry}
use Rattle.node.specs.WorkedOut.{row_of}

-- ---- what is gathered
-- a column of a row at a minute: 0 and 1 the low and the high edge then, 2 and 3 the low and the high velocity
unfoldable pub column_at : ℕ → ℤ → Row → ℤ
column_at column minute r = cond (ltb column 2) (get_or r column (pos 0) +ℤ get_or r (column + 2) (pos 0) *ℤ minute) (get_or r column (pos 0))

-- the outer one of two numbers of a column: the lesser of low ones, the greater of high ones
unfoldable pub outer : ℕ → ℤ → ℤ → ℤ
outer column = cond (eqb (column % 2) 0) lesser greater

-- what a pass over the values of entries leaves, 0 where there are none
unfoldable pub pass_over : (ℤ → ℤ → ℤ) → (Entry → ℤ) → List Entry → ℤ
pass_over pick value [] = pos 0
pass_over pick value (e ∷ es) = picked pick (value e) (map value es)

abbrev pub reading_of : Bool → ℕ → ℕ → ℤ → Entry → ℤ
reading_of leaf axis column minute e = column_at column minute (row_of leaf axis e)

abbrev pub extreme_of : Bool → ℕ → ℕ → ℤ → List Entry → ℤ
extreme_of leaf axis column minute = pass_over (outer column) (reading_of leaf axis column minute)
