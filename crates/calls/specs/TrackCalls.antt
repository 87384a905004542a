-- The calls on tracks as their callers have them: the answer's number, and what is written through references.
use Rattle.std.specs.Prelude.{◌≡◌, List, ℕ, ℤ, pos, Result, Ok, Err}
use Rattle.track.specs.Life.{no_cell}
use Rattle.sheet.specs.Sheet.{cell_numbers}
use Rattle.wkt.specs.TrackRead.{ReadsTrack}
use Rattle.charting.specs.Charted.{ChartsTracks}
use Rattle.calls.specs.SheetCalls.{WrittenInNumbers}
use Rattle.track.specs.declared.cell.Cell.{Cell}
use Rattle.track.specs.declared.refusal.Refusal.{Refusal}
use Rattle.track.specs.Refusals.{number_of}

-- r and total are the answer to writing the tracks of the table w, which leaves bytes'
pub record TracksGives (w : List ℤ) (bytes : List ℕ) (r total : ℤ) (bytes' : List ℕ) : Type 0 where
  pub written : Result ℕ Refusal
  pub charts : ChartsTracks w bytes written bytes'
  pub in_numbers : WrittenInNumbers written r total

-- the cell that was read, all zeros where there is none
abbrev pub track_cell : Result Cell Refusal → Cell
track_cell (Ok c) = c
track_cell (Err why) = no_cell

-- r and the numbers are the answer to reading the line with this identifier: 0 and the cell, or the refusal's number and zeros
pub record ReadTrackGives (id : ℤ) (line : List ℕ) (r : ℤ) (numbers : List ℤ) : Type 0 where
  pub read : Result Cell Refusal
  pub reads : ReadsTrack id line read
  pub number_is : r ≡ pos (number_of read)
  pub record_is : numbers ≡ cell_numbers (track_cell read)
