-- When a sheet may be read into lent words.
use Rattle.std.specs.Prelude.{List, ℕ, ◌≤◌, ℤ, length}
use Rattle.words.specs.Words.{nat_of}
use Rattle.track.specs.Numbers.{most_cells}
use Rattle.table.specs.Header.{IsCapacity, words_for}
use Rattle.sheet.specs.Sheet.{record_count}
use Rattle.sheet.specs.WellFormed.{SheetSound}

-- a sheet of at most so many cells, into words enough
pub record CanRead (cells : ℤ) (w : List ℤ) (bytes : List ℕ) : Type 0 where
  pub capacity_in : IsCapacity cells
  pub long_enough : words_for (nat_of cells) ≤ length w
  pub well_formed : SheetSound most_cells bytes
  pub few : record_count bytes ≤ nat_of cells
