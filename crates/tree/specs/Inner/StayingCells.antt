-- What the count of the cells that stay tells of a sound table: whether there is no room for another, and whether a cell is there.
use Rattle.std.specs.Prelude.{List, ℕ, ℤ}
use Rattle.tree_laws.specs.Inner.Weights.{sum_over}
use Rattle.tree.specs.Inner.Holding.{leaves}
use Rattle.tree.specs.Inner.Staying.{stays}

-- how many cells stay
abbrev pub many_stay : List ℤ → ℤ → ℤ → ℕ
many_stay w minute id = sum_over (stays minute id) (leaves w)
