-- The two passes of the writing: the live cells are counted, then written one after the other.
use Rattle.std.specs.Prelude.{◌≡◌, List, ℕ, ◌≤◌, ℤ, pos, length}
use Rattle.words.specs.Parts.{put}
use Rattle.track.specs.declared.cell.Cell.{Cell}
use Rattle.table.specs.Header.{clock}
use Rattle.table.specs.Sound.{Sound}
use Rattle.sheet.specs.Sheet.{total_for, sheet_of}
use Rattle.leafing.specs.Leafed.{Leafed}

-- ---- the count
-- the leafing from the opening on visits n cells
pub record CellsCounted (w : List ℤ) (n : ℕ) : Type 0 where
  pub cells : List Cell
  pub leafed : Leafed w (pos 0) cells
  pub count : n ≡ length cells

-- ---- the bytes
-- what writing the sheet of n cells needs
pub record CanPutSheet (w : List ℤ) (bytes : List ℕ) (n : ℕ) : Type 0 where
  pub sound : Sound w
  pub counted : CellsCounted w n
  pub room : total_for n ≤ length bytes

pub record PutsSheet (w : List ℤ) (bytes : List ℕ) (n : ℕ) (bytes' : List ℕ) : Type 0 where
  pub cells : List Cell
  pub leafed : Leafed w (pos 0) cells
  pub count : n ≡ length cells
  pub is : bytes' ≡ put bytes 0 (total_for n) (sheet_of (clock w) cells)
  pub as_long : length bytes' ≡ length bytes
