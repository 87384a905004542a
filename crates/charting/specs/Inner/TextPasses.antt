-- The two passes of the writing: the lines of the live cells are measured, then written one after the other.
use Rattle.std.specs.Prelude.{◌≡◌, List, ℕ, ◌≤◌, ℤ, pos, length}
use Rattle.track.specs.declared.cell.Cell.{Cell}
use Rattle.table.specs.Header.{clock}
use Rattle.table.specs.Sound.{Sound}
use Rattle.leafing.specs.Leafed.{Leafed}
use Rattle.decimal.specs.Inner.PutBytes.{Put}
use Rattle.charting.specs.Charted.{TextOf}

-- ---- the length
-- the lines of these cells have n bytes in all
pub record TextLong (clock : ℤ) (cells : List Cell) (n : ℕ) : Type 0 where
  pub text : List ℕ
  pub is_text : TextOf clock cells text
  pub long : n ≡ length text

-- and so have those of the cells that the leafing from the opening on visits
pub record TextMeasured (w : List ℤ) (n : ℕ) : Type 0 where
  pub cells : List Cell
  pub leafed : Leafed w (pos 0) cells
  pub measured : TextLong (clock w) cells n

-- ---- the bytes
-- what writing a text of n bytes needs
pub record CanPutText (w : List ℤ) (bytes : List ℕ) (n : ℕ) : Type 0 where
  pub sound : Sound w
  pub all : TextMeasured w n
  pub room : n ≤ length bytes

pub record PutsText (w : List ℤ) (bytes : List ℕ) (n : ℕ) (bytes' : List ℕ) : Type 0 where
  pub cells : List Cell
  pub leafed : Leafed w (pos 0) cells
  pub so_put : Put (TextOf (clock w) cells) bytes 0 bytes' n
