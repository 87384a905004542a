-- How long a cell's line is.
use Rattle.std.specs.Prelude.{◌≡◌, List, ℕ, ℤ, length}
use Rattle.track.specs.declared.cell.Cell.{Cell}
use Rattle.wkt.specs.TrackLine.{LineOf}

-- no line is longer
abbrev pub longest : ℕ
longest = 66

pub record LineLong (clock : ℤ) (c : Cell) (n : ℕ) : Type 0 where
  pub line : List ℕ
  pub is_line : LineOf clock c line
  pub long : n ≡ length line
